-- Showing a formula, and adding a monomial times a formula to a formula.
use Rattle.std.specs.Prelude.{◌≡◌, List, take, Ok, Err, Result}
use Rattle.refusal.specs.declared.Refusal.{Refusal}
use Rattle.refusal.specs.declared.Refusal.TheVariants.{CoefficientOutOfRange}
use Rattle.ring.specs.CoefficientRing.{CoefficientRing}
use Rattle.order.specs.TermOrder.{TermOrder}
use Rattle.term.specs.declared.monomial.Monomial.{Monomial}
use Rattle.formula.specs.Formula.{checked, code, is_coefficient, provided}
use Rattle.formula.specs.Sum.{added}
use Rattle.script.specs.Listed.{max_listed}

-- go on if a check grants, else refuse as it does
abbrev pub then : {A : Type 0} → Result (Unit {0}) Refusal → Result A Refusal → Result A Refusal
then (Ok u) next = next
then (Err refusal) next = Err refusal

-- a list as a formula
abbrev pub shown_formula : CoefficientRing → TermOrder → List Monomial → Result (List Monomial) Refusal
shown_formula ring order f = then (checked ring order f) (Ok f)

-- a formula plus a monomial times a line: both lists are checked, then the monomial's coefficient
abbrev pub sum_of : CoefficientRing → TermOrder → List Monomial → Monomial → List Monomial → Result (List Monomial) Refusal
sum_of ring order f s line =
    then (checked ring order f)
    (then (checked ring order line)
    (provided (is_coefficient ring (code s)) CoefficientOutOfRange (added ring order f s line)))

-- the monomials that are kept of a list suffice: whatever the others are, the answer is the same
pub record KeptSuffice (ring : CoefficientRing) (order : TermOrder) : Type 0 where
  pub to_show : (f : List Monomial) → shown_formula ring order (take max_listed f) ≡ shown_formula ring order f
  pub to_add : (f : List Monomial) (s : Monomial) (line : List Monomial) → sum_of ring order (take max_listed f) s (take max_listed line) ≡ sum_of ring order f s line
