-- Three lines over six codes in the order lex that meet the criterion, and one line that without its A-polynomial is no strong basis.
use Rattle.std.specs.Prelude.{◌≡◌, ℕ, ◌<◌, ◌⊎◌, List, [], ◌∷◌, length, refl}
use Rattle.std.proofs.lemmas.Bool.{leb-true}
use Rattle.std.specs.List.{AllByRecursion}
use Rattle.ring.specs.CoefficientRing.{CoefficientRing}
use Rattle.residue.specs.Residues.{residues}
use Rattle.order.specs.Term.{Term, product}
use Rattle.term.specs.Orders.{lex}
use Rattle.basis.specs.Polynomial.{Monomial, Polynomial, Same}
use Rattle.basis.specs.Combination.{Step, sum_of_steps, SameCombinations}
use Rattle.basis.specs.Basis.{Line, line_of, polynomials, DividedByLine, Headed, StrongBasis}
use Rattle.basis.specs.Criterion.{gcd_at_lcm, head_lcm, a_polynomial, s_polynomial, LowRepresentation, Criterion}

-- the integers modulo 6
abbrev pub six : CoefficientRing
six = residues 6 (leb-true 2 6 refl) (leb-true 6 65536 refl)

-- aⁿ, and c·aⁿ
abbrev pub power : ℕ → Term
power n = record { a = n; b = 0; c = 0; d = 0; e = 0; f = 0 }

abbrev pub times_power : ℕ → ℕ → Monomial
times_power c n = record { coefficient = c; term = power n }

-- 2a² + 3a + 1, 3a + 3 and a² + 3a + 2, each with its head
abbrev pub first : Line
first = record { polynomial = times_power 2 2 ∷ times_power 3 1 ∷ times_power 1 0 ∷ []; head = times_power 2 2 }

abbrev pub second : Line
second = record { polynomial = times_power 3 1 ∷ times_power 3 0 ∷ []; head = times_power 3 1 }

abbrev pub third : Line
third = record { polynomial = times_power 1 2 ∷ times_power 3 1 ∷ times_power 2 0 ∷ []; head = times_power 1 2 }

-- they meet the criterion, are a strong basis, and have the combinations of the first alone
pub record ThreeLines : Type 0 where
  pub criterion : Criterion six lex (first ∷ second ∷ third ∷ [])
  pub strong_basis : StrongBasis six lex (first ∷ second ∷ third ∷ [])
  pub of_the_first : SameCombinations six (polynomials (first ∷ second ∷ third ∷ [])) (first.polynomial ∷ [])

-- the criterion without its part on A-polynomials
pub record CriterionWithoutA (lines : List Line) : Type 0 where
  pub heads : (k : ℕ) → k < length lines → Headed six lex (line_of lines k)
  pub subtracted : (i k : ℕ) → i < k → k < length lines → LowRepresentation six lex lines (head_lcm (line_of lines i) (line_of lines k)) (s_polynomial six (line_of lines i) (line_of lines k))
  pub covered : (i k : ℕ) → i < k → k < length lines → DividedByLine six lines (gcd_at_lcm six (line_of lines i) (line_of lines k))

-- a step of a line whose product is before t, or is t
pub record StepNotAfter (lines : List Line) (t : Term) (step : Step) : Type 0 where
  pub inside : step.line < length lines
  pub not_after : lex.before (product step.term (line_of lines step.line).head.term) t ⊎ (product step.term (line_of lines step.line).head.term ≡ t)

-- f is a sum of steps whose products are before t, or are t
pub record WeakRepresentation (lines : List Line) (t : Term) (f : Polynomial) : Type 0 where
  pub steps : List Step
  pub weak : AllByRecursion (StepNotAfter lines t) steps
  pub same : Same six f (sum_of_steps six (polynomials lines) steps)

-- the first line alone meets all but that part, and that part too if products need not be before; and yet it is no strong basis:
-- 3a + 3, three times the line, is lost
pub record ALineIsLost : Type 0 where
  pub criterion_without_a : CriterionWithoutA (first ∷ [])
  pub weakly_annihilated : WeakRepresentation (first ∷ []) first.head.term (a_polynomial six first)
  pub no_strong_basis : StrongBasis six lex (first ∷ []) → ⊥
