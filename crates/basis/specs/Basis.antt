-- Heads, divisibility of monomials, and strong bases.
use Rattle.std.specs.Prelude.{◌≡◌, ℕ, ◌<◌, List, [], map, length, ◌≢◌, slice_index_or}
use Rattle.ring.specs.CoefficientRing.{CoefficientRing}
use Rattle.ring.specs.Derived.{Divides as DividesCode}
use Rattle.order.specs.Term.{Term, unit, Divides}
use Rattle.order.specs.TermOrder.{TermOrder}
use Rattle.basis.specs.Polynomial.{Monomial, Polynomial, coefficient}
use Rattle.basis.specs.Combination.{Combination}

-- the head of f: the monomial of f with the greatest term
pub record Head (ring : CoefficientRing) (order : TermOrder) (f : Polynomial) (m : Monomial) : Type 0 where
  pub there : coefficient ring f m.term ≡ m.coefficient
  pub not_zero : m.coefficient ≡ 0 → ⊥
  pub none_after : (t : Term) → order.before m.term t → coefficient ring f t ≡ 0

-- one monomial divides another: the term the term, the coefficient the coefficient
pub record DividesMonomial (ring : CoefficientRing) (m n : Monomial) : Type 0 where
  pub term : Divides m.term n.term
  pub coefficient : DividesCode ring m.coefficient n.coefficient

-- a polynomial that is not zero, with its head
pub record Line : Type 0 where
  pub polynomial : Polynomial
  pub head : Monomial

-- the line of a number; the zero polynomial where there is none
abbrev pub line_of : List Line → ℕ → Line
line_of lines k = slice_index_or lines k (record { polynomial = []; head = record { coefficient = 0; term = unit } })

abbrev pub polynomials : List Line → List Polynomial
polynomials lines = map (λ line. line.polynomial) lines

module _ (ring : CoefficientRing) where
  -- some line's head divides m
  pub record DividedByLine (lines : List Line) (m : Monomial) : Type 0 where
    pub line : ℕ
    pub inside : line < length lines
    pub divides : DividesMonomial ring (line_of lines line).head m

  module _ (order : TermOrder) where
    -- a line's head is the head of its polynomial
    abbrev pub Headed : Line → Type 0
    Headed line = Head ring order line.polynomial line.head

    -- f has a head, and some line's head divides it
    pub record HeadDivided (lines : List Line) (f : Polynomial) : Type 0 where
      pub head : Monomial
      pub is_head : Head ring order f head
      pub divided : DividedByLine lines head

    -- a strong basis: each combination of the lines that is not zero has a head that some line's head divides
    abbrev pub StrongBasis : List Line → Type 0
    StrongBasis lines = (f : Polynomial) → Combination ring (polynomials lines) f → (t : Term) → (coefficient ring f t ≢ 0) → HeadDivided lines f
