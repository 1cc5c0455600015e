-- What formulas and sums are to keep, in the subject's words.
use Rattle.std.specs.Prelude.{◌≡◌, ◌<◌, ◌↔◌, List, ◌∷◌, Ok}
use Rattle.ring.specs.CoefficientRing.{CoefficientRing}
use Rattle.order.specs.Term.{Term}
use Rattle.order.specs.TermOrder.{TermOrder}
use Rattle.term.specs.declared.monomial.Monomial.{Monomial}
use Rattle.formula.specs.Formula.{Formula, checked, code}
use Rattle.formula.specs.Polynomial.{Head, Packed, SamePolynomial, coefficient, multiple_coefficient}
use Rattle.formula.specs.Sum.{added}

-- exactly formulas are granted; a formula is known by its coefficients; its first monomial is the head of its polynomial
pub record FormulaLaws (ring : CoefficientRing) (order : TermOrder) : Type 0 where
  pub granted_exactly_for_formulas : (f : List Monomial) → (checked ring order f ≡ Ok tt) ↔ Formula ring order f
  pub known_by_coefficients : (f g : List Monomial) → Formula ring order f → Formula ring order g → Packed f → Packed g → SamePolynomial ring f g → f ≡ g
  pub first_is_head : (m : Monomial) (f : List Monomial) → Formula ring order (m ∷ f) → Head ring order m (m ∷ f)

-- h is a formula, of numbers of 64 bits if f is, and its polynomial is that of f plus s times that of line
pub record StepSum (ring : CoefficientRing) (order : TermOrder) (f : List Monomial) (s : Monomial) (line h : List Monomial) : Type 0 where
  pub coefficients : (t : Term) → coefficient ring h t ≡ ring.sum (coefficient ring f t) (multiple_coefficient ring s line t)
  pub formula : Formula ring order h
  pub packed : Packed f → Packed h

-- a step added to a formula gives the sum
abbrev pub AdditionLaw : CoefficientRing → TermOrder → Type 0
AdditionLaw ring order =
    (f : List Monomial) (s : Monomial) (line h : List Monomial) → Formula ring order f → Formula ring order line → code s < ring.size → added ring order f s line ≡ Ok h → StepSum ring order f s line h
