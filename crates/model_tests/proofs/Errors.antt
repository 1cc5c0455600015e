-- The errors refuted: by computing, by a combination written out, and by looking at one term.
use Rattle.std.proofs.Common.{◌≡◌, ℕ, true, false, List, [], ◌∷◌, Ok, refl, ap, arith}
use Rattle.term.specs.Orders.{lex}
use Rattle.term.specs.declared.monomial.Monomial.{Monomial}
use Rattle.modular.specs.Least.{greatest, least}
use Rattle.modular.specs.Divisor.{common_divisor}
use Rattle.basis.specs.Polynomial.{Polynomial, Same, difference}
use Rattle.basis.specs.Combination.{Combination, Multiple, sum_of_multiples}
use Rattle.basis_tests.specs.SixCodes.{power, six, times_power}
use Rattle.basis_tests.proofs.SixCodes.{agree_at, same_if_agreed}
use Rattle.model.specs.Polynomials.{polynomial_of}
use Rattle.model.specs.Workbook.{State, complete}
use Rattle.model.specs.Jobs.{job}
use Rattle.model.specs.Calls.{related}
use Rattle.model.specs.Law.{DecisionsHold, SameExactlyOnCombinations, polynomials_of}
use Rattle.model.specs.declared.answers.Verdict.TheVariants.{Out}
use Rattle.model.proofs.Grants.{relate_checks}
use Rattle.model_tests.specs.Worked.{completed, linear, old_monomials, old_steps, relation}
use Rattle.model_tests.specs.Errors.{AJobsAreNeeded, CompleteDoesNotLast, DividingIsNotEnough, skipped}

-- three times the relation
abbrev three_times : List Multiple
three_times = record { multiplier = times_power 3 0 ∷ []; line = 0 } ∷ []

abbrev tripled : Polynomial
tripled = sum_of_multiples six (polynomials_of (relation ∷ [])) three_times

is_tripled : (f : Polynomial) → agree_at f tripled f ≡ true → agree_at f tripled tripled ≡ true → Combination six (polynomials_of (relation ∷ [])) f
is_tripled f p q = record { multiples = three_times; same = same_if_agreed f tripled p q }

lost : Combination six (polynomials_of (relation ∷ [])) (polynomial_of (linear 3 3))
lost = is_tripled (polynomial_of (linear 3 3)) refl refl

decisions_fail : DecisionsHold six lex skipped (relation ∷ []) → ⊥
unfolding common_divisor greatest least lex
decisions_fail holds = holds.out_is_none (linear 3 3) 1024 (record { verdict = Out; steps = 0 }) refl refl lost

-- 3a + 3 and zero would have to leave the same, though they differ at a
law_fails : SameExactlyOnCombinations six lex skipped (relation ∷ []) → ⊥
unfolding common_divisor greatest least lex
law_fails law =
    let same = (law refl (linear 3 3) [] 1024 1024 (old_monomials 64) (old_monomials 64) (old_steps 16) (old_steps 16) (record { length = 2; steps = 0 }) (record { length = 0; steps = 0 }) refl refl).1 lost in
    let at_a : ◌≡◌ {A = ℕ} 3 0 = same (power 1) in
    omega arith

pub a_jobs_are_needed : AJobsAreNeeded
unfolding common_divisor greatest least lex
a_jobs_are_needed = record { called_complete = refl; combination = lost; left_as_it_is = refl; called_out = refl; decisions_fail = decisions_fail; law_fails = law_fails }

-- four lines have sixteen jobs, and nine are settled
not_complete_then : (f : List Monomial) (after : State) → related six lex completed f ≡ Ok after → complete after ≡ false
unfolding common_divisor greatest least lex job
not_complete_then f after h = ap complete (relate_checks six lex completed f after h).1

pub complete_does_not_last : CompleteDoesNotLast
unfolding common_divisor greatest least lex job
complete_does_not_last = record { complete_first = refl; not_complete_then = not_complete_then; granted_again = refl }

not_the_same : Same six (polynomial_of (linear 4 5)) (polynomial_of (linear 1 2)) → ⊥
not_the_same same = let at_a : ◌≡◌ {A = ℕ} 4 1 = same (power 1) in omega arith

pub dividing_is_not_enough : DividingIsNotEnough
unfolding common_divisor greatest least lex job
dividing_is_not_enough = record {
  first_stays = refl;
  second_stays = refl;
  not_the_same = not_the_same;
  combination = is_tripled (difference six (polynomial_of (linear 4 5)) (polynomial_of (linear 1 2))) refl refl;
}
