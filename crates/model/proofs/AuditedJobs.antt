-- The jobs of a sheet in an audit: which are settled.
use Rattle.std.proofs.Common.{◌≡◌, ℕ, ◌<◌, true, not, List, [], ◌∷◌, map, length, get_or, is_some, Some, None, Ok, Err, Decides, Option, Result, refl, ap, ◌∙◌, subst}
use Rattle.std.specs.List.{AllByRecursion}
use Rattle.std.proofs.ByRecursion.{All-get_or}
use Rattle.std.proofs.lemmas.List.{length-map}
use Rattle.std.proofs.lemmas.Bool.Decides.{Decides-below_and}
use Rattle.refusal.specs.declared.Refusal.{Refusal}
use Rattle.ring.specs.CoefficientRing.{CoefficientRing}
use Rattle.order.specs.Term.{Term}
use Rattle.order.specs.TermOrder.{TermOrder}
use Rattle.term.specs.declared.monomial.Monomial.{Monomial}
use Rattle.term.specs.declared.monomial.Step.{Step}
use Rattle.formula.specs.Formula.{code}
use Rattle.basis.specs.Basis.{DividedByLine, DividesMonomial, Line as PlainLine}
use Rattle.basis.specs.Criterion.{gcd_at_lcm}
use Rattle.model.specs.Polynomials.{line_of}
use Rattle.model.specs.Jobs.{Job, job, numbered_line}
use Rattle.model.specs.Reduction.{Reduction, at_head, covering, fitting, reduced, then}
use Rattle.model.specs.Settling.{job_polynomial, job_reduced}
use Rattle.model.specs.Calls.{has_head}
use Rattle.model.specs.Audit.{are_settled, audit_reductions, is_settled, is_zero}
use Rattle.model.specs.Rules.{JobKept, Vanishes}
use Rattle.model.proofs.Outcomes.{false_true, then_first}
use Rattle.model.proofs.Searches.{no_fit, none_found}
use Rattle.model.proofs.Traces.{of_trace, trace_of}
use Rattle.model.proofs.JobPolynomials.{Entry, good_of}
use Rattle.model.proofs.Covers.{divided_by_found, nth_plain}

-- a reduction that leaves nothing
left_nothing : (r : Result Reduction Refusal) → is_zero r ≡ true → (steps : List Step) × (r ≡ Ok (record { formula = []; steps = steps }))
left_nothing (Ok r) h = (r.steps, ap (λ f. Ok (record { formula = f; steps = r.steps })) (empty r.formula h))
  where
    empty : (f : List Monomial) → not (has_head f) ≡ true → f ≡ []
    empty [] h = refl
    empty (m ∷ f) h = false_true h
left_nothing (Err refusal) h = false_true h

module _ (ring : CoefficientRing) (order : TermOrder) (F : List (List Monomial)) where
  decides_vanishes : (job : Job) → Decides (is_zero (job_reduced ring order F audit_reductions job)) (Vanishes ring order F job)
  decides_vanishes job = (vanishes, nothing_left)
    where
      vanishes : is_zero (job_reduced ring order F audit_reductions job) ≡ true → Vanishes ring order F job
      vanishes h =
          let (steps, e) = left_nothing (job_reduced ring order F audit_reductions job) h in
          let (f, built, rest) = then_first (job_polynomial ring order F job) (λ f. reduced ring order F (at_head ring F) audit_reductions f) (record { formula = []; steps = steps }) e in
          let t = trace_of ring order F (at_head ring F) audit_reductions f (record { formula = []; steps = steps }) rest in
          record { polynomial = f; built = built; steps = steps; to_zero = t.0; few = t.1 }

      nothing_left : Vanishes ring order F job → is_zero (job_reduced ring order F audit_reductions job) ≡ true
      nothing_left v =
          ap (λ r. is_zero (then r (λ f. reduced ring order F (at_head ring F) audit_reductions f))) v.built
          ∙ ap is_zero (of_trace ring order F (at_head ring F) audit_reductions v.polynomial v.steps [] v.to_zero v.few)

  module _ (entries : AllByRecursion (Entry ring order) F) where
    -- a head that divides is found
    found_dividing : (c : ℕ) (t : Term) → c < ring.size → DividedByLine ring (map line_of F) (record { coefficient = c; term = t }) → is_some (covering ring F c t) ≡ true
    found_dividing c t l d = by (covering ring F c t) refl
      where
        refuted : (f : List Monomial) → Entry ring order f → fitting ring ring.quotient c t f ≡ None → DividesMonomial ring (line_of f).head (record { coefficient = c; term = t }) → ⊥
        refuted [] e h d = false_true e.1
        refuted (m ∷ f) e h d = ring.quotient_none_without_multiple c (code m) l e.0.coefficients.0.1 (no_fit ring ring.quotient c t m f h d.term) d.coefficient

        inside : d.line < length F
        inside = subst (λ n. d.line < n) (length-map F line_of) d.inside

        by : (o : Option Step) → covering ring F c t ≡ o → is_some o ≡ true
        by (Some s) e = refl
        by None e = absurd (refuted (get_or F d.line [])
            (All-get_or (Entry ring order) F d.line [] inside entries)
            (All-get_or (λ f. fitting ring ring.quotient c t f ≡ None) F d.line [] inside (none_found (fitting ring ring.quotient c t) 0 F e))
            (subst (λ (k : PlainLine). DividesMonomial ring k.head (record { coefficient = c; term = t })) (nth_plain F d.line) d.divides))

    decides_covered : (c : ℕ) (t : Term) → c < ring.size → Decides (is_some (covering ring F c t)) (DividedByLine ring (map line_of F) (record { coefficient = c; term = t }))
    decides_covered c t l = (by (covering ring F c t) refl, found_dividing c t l)
      where
        by : (o : Option Step) → covering ring F c t ≡ o → is_some o ≡ true → DividedByLine ring (map line_of F) (record { coefficient = c; term = t })
        by (Some s) e h = divided_by_found ring order F (good_of ring order F entries) c t s l e
        by None e h = false_true h

    decides_settled : (job : Job) → Decides (is_settled ring order F job) (JobKept ring order F job)
    decides_settled (Job.A k) = decides_vanishes (Job.A k)
    decides_settled (Job.G i k) =
        let m = gcd_at_lcm ring (numbered_line ring F i) (numbered_line ring F k) in
        decides_covered m.coefficient m.term (ring.gcd_below (numbered_line ring F i).head.coefficient (numbered_line ring F k).head.coefficient).0
    decides_settled (Job.S i k) = decides_vanishes (Job.S i k)

    -- the jobs are settled exactly when each keeps its rule
    pub decides_jobs : (n : ℕ) → Decides (are_settled ring order F n) ((j : ℕ) → j < n → JobKept ring order F (job j))
    decides_jobs n = Decides-below_and (λ j. is_settled ring order F (job j)) (λ j. JobKept ring order F (job j)) (are_settled ring order F) (λ j. decides_settled (job j)) refl (λ _. refl) n
