-- The theorems on strong bases, for one ring and one order.
use Rattle.std.specs.Prelude.{◌≡◌, ℕ, ◌<◌, List, length, ◌≢◌}
use Rattle.ring.specs.CoefficientRing.{CoefficientRing}
use Rattle.order.specs.Term.{Term, Divides}
use Rattle.order.specs.TermOrder.{TermOrder}
use Rattle.basis.specs.Polynomial.{Monomial, Polynomial, Same, coefficient, difference}
use Rattle.basis.specs.Combination.{Combination, EachCombination, SameCombinations}
use Rattle.basis.specs.Basis.{Head, Line, line_of, polynomials, StrongBasis, Headed}
use Rattle.basis.specs.Criterion.{Criterion, head_lcm, head_gcd, a_polynomial, g_polynomial, s_polynomial}

-- lines that are combinations of relations, and give every relation, have the relations' combinations and no others
abbrev pub LinesStandForRelations : CoefficientRing → Type 0
LinesStandForRelations ring = (lines relations : List Polynomial) → EachCombination ring relations lines → EachCombination ring lines relations → SameCombinations ring lines relations

-- each coefficient of f is its own residue by the head coefficient of each line whose head term divides there
abbrev pub Reduced : CoefficientRing → List Line → Polynomial → Type 0
Reduced ring lines f =
    (t : Term) (k : ℕ) → k < length lines → Divides (line_of lines k).head.term t
    → ring.residue (coefficient ring f t) (line_of lines k).head.coefficient ≡ coefficient ring f t

module _ (ring : CoefficientRing) (order : TermOrder) where
  -- lines that meet the criterion are a strong basis
  abbrev pub CriterionMakesBasis : Type 0
  CriterionMakesBasis = (lines : List Line) → Criterion ring order lines → StrongBasis ring order lines

  -- for a strong basis of lines, two reduced polynomials whose difference is a combination are the same
  abbrev pub RemaindersAreUnique : Type 0
  RemaindersAreUnique =
      (lines : List Line) → StrongBasis ring order lines
      → (f h : Polynomial) → Reduced ring lines f → Reduced ring lines h
      → Combination ring (polynomials lines) (difference ring f h) → Same ring f h

  -- a polynomial that is not zero has a head, and only one
  pub record OneHead : Type 0 where
    pub exists : (f : Polynomial) (t : Term) → (coefficient ring f t ≢ 0) → (m : Monomial) × Head ring order f m
    pub unique : (f : Polynomial) (m n : Monomial) → Head ring order f m → Head ring order f n → m ≡ n

  -- the head of a G-polynomial is g·T, and A- and S-polynomials lose their heads
  pub record CriticalPolynomials : Type 0 where
    pub g_there : (i k : Line) → Headed ring order i → Headed ring order k → coefficient ring (g_polynomial ring i k) (head_lcm i k) ≡ (head_gcd ring i k).g
    pub g_none_after : (i k : Line) → Headed ring order i → Headed ring order k → (t : Term) → order.before (head_lcm i k) t → coefficient ring (g_polynomial ring i k) t ≡ 0
    pub s_cancelled : (i k : Line) → Headed ring order i → Headed ring order k → coefficient ring (s_polynomial ring i k) (head_lcm i k) ≡ 0
    pub a_cancelled : (k : Line) → Headed ring order k → coefficient ring (a_polynomial ring k) k.head.term ≡ 0
