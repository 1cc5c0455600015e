-- Combinations of polynomials, and sums of steps.
use Rattle.std.specs.Prelude.{ℕ, ◌<◌, ◌↔◌, List, [], ◌∷◌, ◌++◌, length, slice_index_or}
use Rattle.ring.specs.CoefficientRing.{CoefficientRing}
use Rattle.order.specs.Term.{Term}
use Rattle.basis.specs.Polynomial.{Polynomial, Same, scaled, multiplied}

-- a polynomial times the line of a number, counted from 0
pub record Multiple : Type 0 where
  pub multiplier : Polynomial
  pub line : ℕ

-- a code times a term times the line of a number
pub record Step : Type 0 where
  pub code : ℕ
  pub term : Term
  pub line : ℕ

-- the line of a number; the zero polynomial where there is none
abbrev pub numbered : List Polynomial → ℕ → Polynomial
numbered lines k = slice_index_or lines k []

module _ (ring : CoefficientRing) where
  -- the sum of multiples of lines
  abbrev pub sum_of_multiples : List Polynomial → List Multiple → Polynomial
  sum_of_multiples lines [] = []
  sum_of_multiples lines (m ∷ ms) = multiplied ring m.multiplier (numbered lines m.line) ++ sum_of_multiples lines ms

  -- the sum of steps
  abbrev pub sum_of_steps : List Polynomial → List Step → Polynomial
  sum_of_steps lines [] = []
  sum_of_steps lines (s ∷ steps) = scaled ring s.code s.term (numbered lines s.line) ++ sum_of_steps lines steps

  -- f is a combination of the lines: a sum of polynomial multiples of them
  pub record Combination (lines : List Polynomial) (f : Polynomial) : Type 0 where
    pub multiples : List Multiple
    pub same : Same ring f (sum_of_multiples lines multiples)

  -- each of some polynomials is a combination of the lines
  abbrev pub EachCombination : (lines : List Polynomial) → List Polynomial → Type 0
  EachCombination lines fs = (k : ℕ) → k < length fs → Combination lines (numbered fs k)

  -- two lists have the same combinations
  abbrev pub SameCombinations : List Polynomial → List Polynomial → Type 0
  SameCombinations lines relations = (f : Polynomial) → Combination lines f ↔ Combination relations f
