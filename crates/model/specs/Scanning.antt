-- A remainder by going down the formula: at each monomial the lowest line that lowers it is taken, as long as there is one; then the next monomial is looked at.
use Rattle.std.specs.Prelude.{◌≡◌, ℕ, zero, suc, min, List, [], ◌∷◌, ◌++◌, length, take, drop, Some, None, Ok, Err, Option, Result}
use Rattle.refusal.specs.declared.Refusal.{Refusal}
use Rattle.refusal.specs.declared.Refusal.TheVariants.{AllowanceUsed}
use Rattle.ring.specs.CoefficientRing.{CoefficientRing}
use Rattle.order.specs.TermOrder.{TermOrder}
use Rattle.term.specs.declared.monomial.Monomial.{Monomial}
use Rattle.term.specs.declared.monomial.Step.{Step}
use Rattle.formula.specs.Formula.{checked, code, term}
use Rattle.model.specs.Workbook.{formulas}
use Rattle.model.specs.Reduction.{Reduction, after_step, lowering, stepped, then, unreduced}
use Rattle.model.specs.Calls.{max_allowance, remaining}
use Rattle.model.specs.Runs.{Call, run}

-- move on where no line lowers a monomial, and else take the step
abbrev pub moved_or_taken : Option Step → (moved : Result Reduction Refusal) → (taken : Step → Result Reduction Refusal) → Result Reduction Refusal
moved_or_taken None moved taken = moved
moved_or_taken (Some s) moved taken = taken s

module _ (ring : CoefficientRing) (order : TermOrder) where
  -- what is done stands before the monomials that are still to be looked at; at most n steps are taken, and one more is refused
  abbrev pub scanned : (F : List (List Monomial)) → (n : ℕ) → (rest done : List Monomial) → Result Reduction Refusal
  scanned F n [] done = Ok (unreduced done)
  scanned F zero (m ∷ rest) done = moved_or_taken (lowering ring F (code m) (term m)) (scanned F zero rest (done ++ m ∷ [])) (λ s. Err AllowanceUsed)
  scanned F (suc n) (m ∷ rest) done =
      moved_or_taken (lowering ring F (code m) (term m)) (scanned F (suc n) rest (done ++ m ∷ []))
      (λ s. then (stepped ring order F (done ++ m ∷ rest) s) (λ g. then (scanned F n (drop (length done) g) (take (length done) g)) (λ r. Ok (after_step s r))))

  -- after every list of calls, the remainder is what going down the formula leaves
  abbrev pub RemaindersGoDown : Type 0
  RemaindersGoDown =
      (calls : List Call) (f : List Monomial) (allowance : ℕ)
      → remaining ring order (run ring order calls).state.lines f allowance ≡ then (checked ring order f) (λ _. scanned (formulas (run ring order calls).state.lines) (min allowance max_allowance) f [])
