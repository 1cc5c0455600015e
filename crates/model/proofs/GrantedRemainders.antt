-- A remainder and a decision are answered exactly where their checks pass, and what a remainder leaves then and else.
use Rattle.std.proofs.Common.{◌≡◌, ℕ, min, Bool, true, false, cond, ◌&&◌, leb, ◌↔◌, List, length, Ok, Err, Result, sym, refl, ap, ◌∙◌}
use Rattle.std.proofs.lemmas.Bool.{and_from, and_parts, cond-true, le-leb, leb-true}
use Rattle.refusal.specs.declared.Refusal.{Refusal}
use Rattle.refusal.specs.declared.Refusal.TheVariants.{MemoryTooShort}
use Rattle.ring.specs.CoefficientRing.{CoefficientRing}
use Rattle.order.specs.TermOrder.{TermOrder}
use Rattle.term.specs.declared.monomial.Monomial.{Monomial}
use Rattle.term.specs.declared.monomial.Step.{Step}
use Rattle.formula.specs.Formula.{checked}
use Rattle.formula.proofs.Checking.{checked_exactly_formulas}
use Rattle.layout.specs.Line.{Line}
use Rattle.model.specs.Workbook.{State, complete, formulas}
use Rattle.model.specs.Reduction.{Reduction, at_greatest, reduced, then}
use Rattle.model.specs.Calls.{decided, into_memory, max_allowance, nothing_left, remainder, remaining, verdict}
use Rattle.model.specs.declared.answers.Judgement.{Judgement}
use Rattle.model.specs.declared.answers.Remainder.{Remainder}
use Rattle.model.specs.Grants.{Holds, Lowered, Remains, remainder_left}
use Rattle.model.proofs.Outcomes.{err_ok, ok_ok, then_first}
use Rattle.model.proofs.Traces.{of_trace, trace_of}

module _ (ring : CoefficientRing) (order : TermOrder) where
  pub remaining_exactly : (lines : List Line) (f : List Monomial) (allowance : ℕ) (q : Reduction) → (remaining ring order lines f allowance ≡ Ok q) ↔ Lowered ring order lines f allowance q
  remaining_exactly lines f allowance q = (
    (λ h. let (u, c, rest) = then_first (checked ring order f) (λ _. lowered) q h in ((checked_exactly_formulas ring order f).0 c, trace_of ring order (formulas lines) (at_greatest ring (formulas lines)) (min allowance max_allowance) f q rest)),
    λ h. ap (λ r. then r (λ _. lowered)) ((checked_exactly_formulas ring order f).1 h.0) ∙ of_trace ring order (formulas lines) (at_greatest ring (formulas lines)) (min allowance max_allowance) f q.steps q.formula h.1.0 h.1.1,
  )
    where
      lowered : Result Reduction Refusal
      lowered = reduced ring order (formulas lines) (at_greatest ring (formulas lines)) (min allowance max_allowance) f

  abbrev pub holds : Reduction → List Monomial → List Step → Bool
  holds q result trail = leb (length q.formula) (length result) && leb (length q.steps) (length trail)

  pub remainder_granted : (state : State) (f : List Monomial) (allowance : ℕ) (result : List Monomial) (trail : List Step) (q : Reduction)
      → Lowered ring order state.lines f allowance q → Holds q result trail → remainder ring order state f allowance result trail ≡ remainder_left ring q result trail
  remainder_granted state f allowance result trail q h l =
      ap (λ r. into_memory ring r result trail) ((remaining_exactly state.lines f allowance q).1 h)
      ∙ cond-true (holds q result trail) (remainder_left ring q result trail) (nothing_left MemoryTooShort result trail)
      (and_from (leb (length q.formula) (length result)) (leb (length q.steps) (length trail)) (le-leb (length q.formula) (length result) l.0) (le-leb (length q.steps) (length trail) l.1))

  pub remainder_checks : (state : State) (f : List Monomial) (allowance : ℕ) (result : List Monomial) (trail : List Step) (r : Remainder)
      → (remainder ring order state f allowance result trail).answer ≡ Ok r → Remains ring order state f allowance result trail r
  remainder_checks state f allowance result trail r h = by (remaining ring order state.lines f allowance) refl h
    where
      by_room : (q : Reduction) (b : Bool) → remaining ring order state.lines f allowance ≡ Ok q → holds q result trail ≡ b
          → (cond b (remainder_left ring q result trail) (nothing_left MemoryTooShort result trail)).answer ≡ Ok r → Remains ring order state f allowance result trail r
      by_room q true e l h =
          let p = and_parts (leb (length q.formula) (length result)) (leb (length q.steps) (length trail)) l in
          record {
            left = q;
            lowered = (remaining_exactly state.lines f allowance q).0 e;
            holding = (leb-true (length q.formula) (length result) p.0, leb-true (length q.steps) (length trail) p.1);
            counts = sym (ok_ok h);
          }
      by_room q false e l h = err_ok h

      by : (o : Result Reduction Refusal) → remaining ring order state.lines f allowance ≡ o → (into_memory ring o result trail).answer ≡ Ok r → Remains ring order state f allowance result trail r
      by (Err refusal) e h = err_ok h
      by (Ok q) e h = by_room q (holds q result trail) e refl h

  -- a remainder is answered exactly when the formula comes to it in time and both memories are long enough
  pub remainder_exactly : (state : State) (f : List Monomial) (allowance : ℕ) (result : List Monomial) (trail : List Step) (r : Remainder)
      → ((remainder ring order state f allowance result trail).answer ≡ Ok r) ↔ Remains ring order state f allowance result trail r
  remainder_exactly state f allowance result trail r = (
    remainder_checks state f allowance result trail r,
    λ w. ap (λ z. z.answer) (remainder_granted state f allowance result trail w.left w.lowered w.holding) ∙ ap Ok (sym w.counts),
  )

  -- what it leaves, whichever reduction is shown
  pub remainder_memories : (state : State) (f : List Monomial) (allowance : ℕ) (result : List Monomial) (trail : List Step) (r : Remainder)
      → (w : Remains ring order state f allowance result trail r) → remainder ring order state f allowance result trail ≡ remainder_left ring w.left result trail
  remainder_memories state f allowance result trail r w = remainder_granted state f allowance result trail w.left w.lowered w.holding

  -- a refused remainder leaves both memories as they were
  pub remainder_refused : (state : State) (f : List Monomial) (allowance : ℕ) (result : List Monomial) (trail : List Step) (refusal : Refusal)
      → (remainder ring order state f allowance result trail).answer ≡ Err refusal → remainder ring order state f allowance result trail ≡ nothing_left refusal result trail
  remainder_refused state f allowance result trail refusal h = by (remaining ring order state.lines f allowance) h
    where
      same : (reason : Refusal) → ◌≡◌ {A = Result Remainder Refusal} (Err reason) (Err refusal) → nothing_left reason result trail ≡ nothing_left refusal result trail
      same reason e = ap (λ a. record { answer = a; result = result; trail = trail }) e

      by_room : (q : Reduction) (b : Bool) → (cond b (remainder_left ring q result trail) (nothing_left MemoryTooShort result trail)).answer ≡ Err refusal
          → cond b (remainder_left ring q result trail) (nothing_left MemoryTooShort result trail) ≡ nothing_left refusal result trail
      by_room q true h = err_ok (sym h)
      by_room q false h = same MemoryTooShort h

      by : (o : Result Reduction Refusal) → (into_memory ring o result trail).answer ≡ Err refusal → into_memory ring o result trail ≡ nothing_left refusal result trail
      by (Err reason) h = same reason h
      by (Ok q) h = by_room q (holds q result trail) h

  -- a decision is answered exactly when the formula comes to a remainder in time
  pub decided_exactly : (state : State) (f : List Monomial) (allowance : ℕ) (j : Judgement)
      → (decided ring order state f allowance ≡ Ok j) ↔ ((q : Reduction) × Lowered ring order state.lines f allowance q × (j ≡ record { verdict = verdict (complete state) q.formula; steps = length q.steps }))
  decided_exactly state f allowance j = (
    (λ h.
        let (q, e, rest) = then_first (remaining ring order state.lines f allowance) judged j h in
        (q, (remaining_exactly state.lines f allowance q).0 e, sym (ok_ok rest))),
    λ w. ap (λ r. then r judged) ((remaining_exactly state.lines f allowance w.0).1 w.1) ∙ ap Ok (sym w.2),
  )
    where
      judged : Reduction → Result Judgement Refusal
      judged q = Ok (record { verdict = verdict (complete state) q.formula; steps = length q.steps })
