-- Three tempting errors, each refuted: leaving out A-jobs, taking complete for lasting, and subtracting only where a coefficient divides.
use Rattle.std.specs.Prelude.{◌≡◌, true, false, List, [], ◌∷◌, ◌++◌, None, Ok, Option, Result}
use Rattle.std.specs.Option.{option_or}
use Rattle.refusal.specs.declared.Refusal.{Refusal}
use Rattle.term.specs.Orders.{lex}
use Rattle.term.specs.declared.monomial.Monomial.{Monomial}
use Rattle.term.specs.declared.monomial.Step.{Step}
use Rattle.formula.specs.Formula.{code, term}
use Rattle.basis.specs.Polynomial.{Same, difference}
use Rattle.basis.specs.Combination.{Combination}
use Rattle.basis_tests.specs.SixCodes.{six}
use Rattle.model.specs.Polynomials.{polynomial_of}
use Rattle.model.specs.Workbook.{State, complete, formulas}
use Rattle.model.specs.Reduction.{Reduction, covering, reduced, unreduced}
use Rattle.model.specs.Calls.{decided, max_allowance, related, remainder}
use Rattle.model.specs.Runs.{Answer, Call, run}
use Rattle.model.specs.Law.{DecisionsHold, SameExactlyOnCombinations, polynomials_of}
use Rattle.model.specs.declared.answers.Verdict.TheVariants.{Out}
use Rattle.model_tests.specs.Worked.{completed, completed_run, linear, old_monomials, old_steps, related_run, relation}

-- the workbook with the relation, its one job, an A-job, counted as settled and not done
abbrev pub skipped : State
skipped = record { lines = related_run.state.lines; settled = 1 }

-- 3a + 3 is 3 times the relation, and yet it is left as it is and taken for no combination; so this workbook breaks the law
pub record AJobsAreNeeded : Type 0 where
  pub called_complete : complete skipped ≡ true
  pub combination : Combination six (polynomials_of (relation ∷ [])) (polynomial_of (linear 3 3))
  pub left_as_it_is : remainder six lex skipped (linear 3 3) 1024 (old_monomials 64) (old_steps 16) ≡ record { answer = Ok (record { length = 2; steps = 0 }); result = linear 3 3 ++ old_monomials 62; trail = old_steps 16 }
  pub called_out : decided six lex skipped (linear 3 3) 1024 ≡ Ok (record { verdict = Out; steps = 0 })
  pub decisions_fail : DecisionsHold six lex skipped (relation ∷ []) → ⊥
  pub law_fails : SameExactlyOnCombinations six lex skipped (relation ∷ []) → ⊥

-- a complete workbook is so no longer once it grants a relation, whichever that is
pub record CompleteDoesNotLast : Type 0 where
  pub complete_first : complete completed ≡ true
  pub not_complete_then : (f : List Monomial) (after : State) → related six lex completed f ≡ Ok after → complete after ≡ false
  -- a relation that says nothing new is no exception
  pub granted_again : (run six lex (Call.Relate relation ∷ Call.Advance 20 ∷ Call.Report ∷ Call.Relate relation ∷ Call.Report ∷ [])).answers
      ≡ completed_run.answers ++ Answer.Line (Ok 3) ∷ Answer.Standing (record { lines = 4; settled = 9; complete = false }) ∷ []

-- the step that takes away the greatest monomial that can be taken away whole
abbrev pub only_dividing : List (List Monomial) → List Monomial → Option Step
only_dividing F [] = None
only_dividing F (m ∷ f) = let rest = only_dividing F f in option_or (covering six F (code m) (term m)) rest

-- what is left of a formula in the complete workbook if a monomial is taken away whole or not at all
abbrev pub left_by_dividing : List Monomial → Result Reduction Refusal
left_by_dividing f = reduced six lex (formulas completed.lines) (only_dividing (formulas completed.lines)) max_allowance f

-- then 4a + 5 and a + 2 stay and are not the same, though they differ by a combination of the relation
pub record DividingIsNotEnough : Type 0 where
  pub first_stays : left_by_dividing (linear 4 5) ≡ Ok (unreduced (linear 4 5))
  pub second_stays : left_by_dividing (linear 1 2) ≡ Ok (unreduced (linear 1 2))
  pub not_the_same : Same six (polynomial_of (linear 4 5)) (polynomial_of (linear 1 2)) → ⊥
  pub combination : Combination six (polynomials_of (relation ∷ [])) (difference six (polynomial_of (linear 4 5)) (polynomial_of (linear 1 2)))
