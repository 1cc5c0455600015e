-- What an advance does, and why it stops.
use Rattle.std.proofs.Common.{◌≡◌, ℕ, zero, suc, ◌+◌, ◌<◌, ◌≤◌, Bool, true, false, cond, ◌↔◌, List, [], ◌∷◌, ◌++◌, Some, None, Ok, Err, Option, Result, sym, refl, ap, ◌∙◌, subst, append_assoc, append-nil, arith}
use Rattle.refusal.specs.declared.Refusal.{Refusal}
use Rattle.ring.specs.CoefficientRing.{CoefficientRing}
use Rattle.order.specs.TermOrder.{TermOrder}
use Rattle.term.specs.declared.monomial.Monomial.{Monomial}
use Rattle.term.specs.declared.monomial.Step.{Step}
use Rattle.layout.specs.Line.{Line}
use Rattle.model.specs.Workbook.{State, complete, entered, formulas}
use Rattle.model.specs.Jobs.{Job, all_taken, job, polynomial_steps}
use Rattle.model.specs.Settling.{by_reduction, cover, job_polynomial, job_reduced, job_reductions, left_entered, settled_by, unless_covered}
use Rattle.model.specs.Calls.{Advanced, advanced, if_settled, next_settled, one_more, stopped}
use Rattle.model.specs.Grants.{AdvanceLaw}
use Rattle.model.specs.declared.answers.Stop.{Stop}
use Rattle.model.specs.declared.answers.Stop.TheVariants.{Complete, Reached, Refused}
use Rattle.model.proofs.Outcomes.{false_true, ok_ok, then_first}
use Rattle.model.proofs.Grants.{entered_exactly}

-- after are the lines with some more at the end
abbrev Longer : List Line → List Line → Type 0
Longer lines after = (more : List Line) × (after ≡ lines ++ more)

same_lines : (lines : List Line) → Longer lines lines
same_lines lines = ([], sym (append-nil lines))

abbrev IsComplete : Stop → Type 0
IsComplete Complete = Unit {0}
IsComplete Reached = ⊥
IsComplete (Refused refusal) = ⊥

abbrev IsReached : Stop → Type 0
IsReached Complete = ⊥
IsReached Reached = Unit {0}
IsReached (Refused refusal) = ⊥

abbrev IsRefused : Stop → Type 0
IsRefused Complete = ⊥
IsRefused Reached = ⊥
IsRefused (Refused refusal) = Unit {0}

abbrev refusal_or : Refusal → Stop → Refusal
refusal_or d Complete = d
refusal_or d Reached = d
refusal_or d (Refused refusal) = refusal

module _ (ring : CoefficientRing) (order : TermOrder) where
  left_longer : (lines after : List Line) (steps : List Step) (f : List Monomial) → left_entered lines steps f ≡ Ok after → Longer lines after
  left_longer lines after steps [] e = subst (Longer lines) (ok_ok e) (same_lines lines)
  left_longer lines after steps (m ∷ f) e = (record { formula = m ∷ f; steps = steps } ∷ [], ((entered_exactly lines (record { formula = m ∷ f; steps = steps }) after).0 e).1)

  reduction_longer : (lines after : List Line) (job : Job) → by_reduction ring order lines job ≡ Ok after → Longer lines after
  reduction_longer lines after job e =
      let (r, k, rest) = then_first (job_reduced ring order (formulas lines) job_reductions job) (λ r. left_entered lines (all_taken (polynomial_steps ring (formulas lines) job) ++ r.steps) r.formula) after e in
      left_longer lines after (all_taken (polynomial_steps ring (formulas lines) job) ++ r.steps) r.formula rest

  cover_longer : (lines after : List Line) (job : Job) (o : Option Step) → unless_covered ring order o lines job ≡ Ok after → Longer lines after
  cover_longer lines after job (Some s) e = subst (Longer lines) (ok_ok e) (same_lines lines)
  cover_longer lines after job None e =
      let line : List Monomial → Line = λ f. record { formula = f; steps = all_taken (polynomial_steps ring (formulas lines) job) } in
      let (f, k, rest) = then_first (job_polynomial ring order (formulas lines) job) (λ f. entered lines (line f)) after e in
      (line f ∷ [], ((entered_exactly lines (line f) after).0 rest).1)

  settled_longer : (lines after : List Line) (job : Job) → settled_by ring order lines job ≡ Ok after → Longer lines after
  settled_longer lines after (Job.A k) e = reduction_longer lines after (Job.A k) e
  settled_longer lines after (Job.G i k) e = cover_longer lines after (Job.G i k) (cover ring order (formulas lines) i k) e
  settled_longer lines after (Job.S i k) e = reduction_longer lines after (Job.S i k) e

  -- the law of an outcome of an advance by k
  pub record Lawful (k : ℕ) (state : State) (a : Advanced) : Type 0 where
    pub counted : a.state.settled ≡ state.settled + a.answer.settled
    pub at_most : a.answer.settled ≤ k
    pub says_complete : (a.answer.stop ≡ Complete) ↔ (complete a.state ≡ true)
    pub says_reached : a.answer.stop ≡ Reached → a.answer.settled ≡ k
    pub says_refused : (refusal : Refusal) → a.answer.stop ≡ Refused refusal → (next_settled ring order a.state ≡ Err refusal) × (a.answer.settled < k)
    pub lines_stay : (more : List Line) × (a.state.lines ≡ state.lines ++ more)

  stop_complete : (k : ℕ) (state : State) → complete state ≡ true → Lawful k state (stopped state Complete)
  stop_complete k state c = record {
    counted = omega arith;
    at_most = omega arith;
    says_complete = ((λ _. c), λ _. refl);
    says_reached = λ e. absurd (subst IsComplete e tt);
    says_refused = λ refusal e. absurd (subst IsComplete e tt);
    lines_stay = same_lines state.lines;
  }

  stop_reached : (state : State) → complete state ≡ false → Lawful 0 state (stopped state Reached)
  stop_reached state c = record {
    counted = omega arith;
    at_most = omega arith;
    says_complete = ((λ e. absurd (subst IsReached e tt)), λ e. false_true (sym c ∙ e));
    says_reached = λ e. refl;
    says_refused = λ refusal e. absurd (subst IsReached e tt);
    lines_stay = same_lines state.lines;
  }

  stop_refused : (k : ℕ) (state : State) (refusal : Refusal) → complete state ≡ false → next_settled ring order state ≡ Err refusal → Lawful (suc k) state (stopped state (Refused refusal))
  stop_refused k state refusal c n = record {
    counted = omega arith;
    at_most = omega arith;
    says_complete = ((λ e. absurd (subst IsRefused e tt)), λ e. false_true (sym c ∙ e));
    says_reached = λ e. absurd (subst IsRefused e tt);
    says_refused = λ other e. (n ∙ ap (λ z. Err (refusal_or refusal z)) e, omega arith);
    lines_stay = same_lines state.lines;
  }

  go_on : (k : ℕ) (state after : State) (a : Advanced) → next_settled ring order state ≡ Ok after → Lawful k after a → Lawful (suc k) state (one_more a)
  go_on k state after a n w =
      let (lines, e, last) = then_first (settled_by ring order state.lines (job state.settled)) (λ lines. Ok (record { lines = lines; settled = suc state.settled })) after n in
      let count : suc state.settled ≡ after.settled = ap (λ z. z.settled) (ok_ok last) in
      let first : Longer state.lines after.lines = subst (λ z. Longer state.lines z.lines) (ok_ok last) (settled_longer state.lines lines (job state.settled) e) in
      record {
        counted = (let c = w.counted in omega arith);
        at_most = (let c = w.at_most in omega arith);
        says_complete = w.says_complete;
        says_reached = λ e. ap (λ z. suc z) (w.says_reached e);
        says_refused = λ refusal e. let r = w.says_refused refusal e in (r.0, (let l = r.1 in omega arith));
        lines_stay = (first.0 ++ w.lines_stay.0, w.lines_stay.1 ∙ ap (λ z. z ++ w.lines_stay.0) first.1 ∙ append_assoc state.lines first.0 w.lines_stay.0);
      }

  lawful : (k : ℕ) (state : State) → Lawful k state (advanced ring order k state)
  lawful zero state = by (complete state) refl
    where
      by : (b : Bool) → complete state ≡ b → Lawful zero state (cond b (stopped state Complete) (stopped state Reached))
      by true c = stop_complete zero state c
      by false c = stop_reached state c
  lawful (suc k) state = by (complete state) refl (lawful k)
    where
      on : complete state ≡ false → ((after : State) → Lawful k after (advanced ring order k after)) → (r : Result State Refusal) → next_settled ring order state ≡ r → Lawful (suc k) state (if_settled state r (λ after. advanced ring order k after))
      on c later (Err refusal) e = stop_refused k state refusal c e
      on c later (Ok after) e = go_on k state after (advanced ring order k after) e (later after)

      by : (b : Bool) → complete state ≡ b → ((after : State) → Lawful k after (advanced ring order k after)) → Lawful (suc k) state (cond b (stopped state Complete) (if_settled state (next_settled ring order state) (λ after. advanced ring order k after)))
      by true c later = stop_complete (suc k) state c
      by false c later = on c later (next_settled ring order state) refl

  pub advance_law : (k : ℕ) (state : State) → AdvanceLaw ring order k state
  advance_law k state =
      let w = lawful k state in
      record { counted = w.counted; at_most = w.at_most; says_complete = w.says_complete; says_reached = w.says_reached; says_refused = w.says_refused; lines_stay = w.lines_stay }
