-- What memory holds, and what a call leaves in it.
use Rattle.std.specs.Prelude.{◌≡◌, ◌<◌, List, ◌∷◌, ◌++◌, length, Ok, Err, Result}
use Rattle.refusal.specs.declared.Refusal.{Refusal}
use Rattle.refusal.specs.declared.Refusal.TheVariants.{SumTooLong}
use Rattle.ring.specs.CoefficientRing.{CoefficientRing}
use Rattle.order.specs.TermOrder.{TermOrder}
use Rattle.term.specs.declared.monomial.Monomial.{Monomial}
use Rattle.formula.specs.Formula.{max_monomials}
use Rattle.formula.specs.Sum.{merged}
use Rattle.formula.specs.declared.working.WorkingFormula.{WorkingFormula}

-- the formula that memory holds
abbrev pub held : WorkingFormula → List Monomial
held w = w.monomials.items

-- the outcome of a call that leaves a formula in memory
abbrev pub shown : Result (Unit {0}) Refusal → List Monomial → Result (List Monomial) Refusal
shown (Ok u) left = Ok left
shown (Err e) left = Err e

-- the outcome of a call that returns memory
abbrev pub outcome : Result WorkingFormula Refusal → Result (List Monomial) Refusal
outcome (Ok w) = Ok (held w)
outcome (Err e) = Err e

-- a refused call leaves the memory as it was
abbrev pub Unchanged : Result (Unit {0}) Refusal → WorkingFormula → WorkingFormula → Type 0
Unchanged (Ok u) before after = Unit {0}
Unchanged (Err e) before after = after ≡ before

-- a list went behind what was held, or there is no room for it
abbrev pub Appended : List Monomial → List Monomial → Result (Unit {0}) Refusal → List Monomial → Type 0
Appended before list (Ok u) after = after ≡ before ++ list
Appended before list (Err e) after = (e ≡ SumTooLong) × (max_monomials < length (before ++ list))

-- n went in with what comes before it in the sum of a list and products of which n is the first: what is left of the list and the products behind n make up the rest
abbrev pub ProductIn : CoefficientRing → TermOrder → (before list : List Monomial) → (n : Monomial) → (left after : List Monomial) → Type 0
ProductIn ring order before list n left after = (products : List Monomial) → after ++ merged ring order left products ≡ before ++ merged ring order list (n ∷ products)

-- there is no room for the sum of a list and products of which n is the first
abbrev pub NoRoom : CoefficientRing → TermOrder → (before list : List Monomial) → (n : Monomial) → Refusal → Type 0
NoRoom ring order before list n e = (e ≡ SumTooLong) × ((products : List Monomial) → max_monomials < length (before ++ merged ring order list (n ∷ products)))
