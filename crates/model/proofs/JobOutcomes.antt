-- What each job comes to: a refusal of its polynomial, of a reduction or of a line, or the lines after it.
use Rattle.std.proofs.Common.{◌≡◌, ℕ, suc, ◌+◌, ◌≤◌, List, [], ◌∷◌, ◌++◌, length, Ok, Result, ap, ◌∙◌, arith}
use Rattle.refusal.specs.declared.Refusal.{Refusal}
use Rattle.ring.specs.CoefficientRing.{CoefficientRing}
use Rattle.order.specs.TermOrder.{TermOrder}
use Rattle.term.specs.declared.monomial.Monomial.{Monomial}
use Rattle.term.specs.declared.monomial.Step.{Step}
use Rattle.layout.specs.Line.{Line}
use Rattle.model.specs.Workbook.{State, entered, formulas}
use Rattle.model.specs.Jobs.{Job, all_taken, polynomial_steps}
use Rattle.model.specs.Reduction.{ReducesTo, Reduction, at_head, reduced, then}
use Rattle.model.specs.Settling.{by_reduction, cover, job_polynomial, job_reductions, left_entered, unless_covered}
use Rattle.model.specs.Refusals.{JobOutcomes, NextJobOutcomes, ReducingOutcomes}
use Rattle.model.proofs.Traces.{of_trace}
use Rattle.model.proofs.Refusals.{enters_as, refused_as}

module _ (ring : CoefficientRing) (order : TermOrder) (lines : List Line) where
  abbrev F : List (List Monomial)
  F = formulas lines

  abbrev reducing : List Monomial → Result Reduction Refusal
  reducing f = reduced ring order F (at_head ring F) job_reductions f

  abbrev leaving : Job → Reduction → Result (List Line) Refusal
  leaving job r = left_entered lines (all_taken (polynomial_steps ring F job) ++ r.steps) r.formula

  reducing_outcomes : (job : Job) → ReducingOutcomes ring order lines job (by_reduction ring order lines job)
  reducing_outcomes job = record {
    polynomial_refused = λ refusal e. ap (λ r. then (then r reducing) (leaving job)) e;
    reduces = λ f b. refused_as ring order F (at_head ring F) job_reductions f (by_reduction ring order lines job) (λ refusal e. built f b ∙ ap (λ r. then r (leaving job)) e);
    comes_to_zero = λ f σ b t l. left f σ [] b t l;
    leaves_a_line = λ f σ m g b t l.
        let line : Line = record { formula = m ∷ g; steps = all_taken (polynomial_steps ring F job) ++ σ } in
        enters_as lines line (by_reduction ring order lines job) (lines ++ line ∷ []) (λ refusal e. left f σ (m ∷ g) b t l ∙ e) (λ e. left f σ (m ∷ g) b t l ∙ e);
  }
    where
      built : (f : List Monomial) → job_polynomial ring order F job ≡ Ok f → by_reduction ring order lines job ≡ then (reducing f) (leaving job)
      built f b = ap (λ r. then (then r reducing) (leaving job)) b

      left : (f : List Monomial) (σ : List Step) (g : List Monomial) → job_polynomial ring order F job ≡ Ok f → ReducesTo ring order F (at_head ring F) f σ g → length σ ≤ 62
          → by_reduction ring order lines job ≡ leaving job (record { formula = g; steps = σ })
      left f σ g b t l = built f b ∙ ap (λ r. then r (leaving job)) (of_trace ring order F (at_head ring F) job_reductions f σ g t l)

  abbrev g_line : ℕ → ℕ → List Monomial → Line
  g_line i k f = record { formula = f; steps = all_taken (polynomial_steps ring F (Job.G i k)) }

  pub job_outcomes : JobOutcomes ring order lines
  job_outcomes = record {
    a_job = λ k. reducing_outcomes (Job.A k);
    s_job = λ i k. reducing_outcomes (Job.S i k);
    g_job_covered = λ i k s c. ap (λ o. unless_covered ring order o lines (Job.G i k)) c;
    g_polynomial_refused = λ i k refusal c e. ap (λ o. unless_covered ring order o lines (Job.G i k)) c ∙ ap (λ r. then r (λ f. entered lines (g_line i k f))) e;
    g_job_enters = λ i k f c b.
        let start = ap (λ o. unless_covered ring order o lines (Job.G i k)) c ∙ ap (λ r. then r (λ f. entered lines (g_line i k f))) b in
        enters_as lines (g_line i k f) (unless_covered ring order (cover ring order F i k) lines (Job.G i k)) (lines ++ g_line i k f ∷ []) (λ refusal e. start ∙ e) (λ e. start ∙ e);
  }

pub next_job_outcomes : (ring : CoefficientRing) (order : TermOrder) (state : State) → NextJobOutcomes ring order state
next_job_outcomes ring order state = record {
  next_refused = λ refusal e. ap (λ r. then r counted) e;
  next_granted = λ lines e. ap (λ r. then r counted) e ∙ ap (λ n. Ok (record { lines = lines; settled = n })) one_more;
}
  where
    counted : List Line → Result State Refusal
    counted lines = Ok (record { lines = lines; settled = suc state.settled })

    one_more : suc state.settled ≡ state.settled + 1
    one_more = omega arith
