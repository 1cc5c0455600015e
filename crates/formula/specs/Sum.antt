-- Adding a monomial times a line to a formula, on lists.
use Rattle.std.specs.Prelude.{Bool, true, cond, ◌&&◌, List, [], ◌∷◌, ◌++◌, length, Ok, Result, ◌==◌, nat_le}
use Rattle.std.specs.Ordering.{is_eq}
use Rattle.std.specs.declared.cmp.Ordering.TheVariants.{Less, Equal, Greater}
use Rattle.std.specs.declared.cmp.Ordering.{Ordering}
use Rattle.refusal.specs.declared.Refusal.{Refusal}
use Rattle.refusal.specs.declared.Refusal.TheVariants.{ExponentTooLarge, SumTooLong}
use Rattle.ring.specs.CoefficientRing.{CoefficientRing}
use Rattle.order.specs.Term.{product}
use Rattle.order.specs.TermOrder.{TermOrder, compared}
use Rattle.term.specs.Packed.{fits, monomial}
use Rattle.term.specs.declared.monomial.Monomial.{Monomial}
use Rattle.formula.specs.Formula.{code, max_monomials, provided, term}

-- a monomial, unless its code is 0
abbrev pub kept : Monomial → List Monomial
kept m = cond (code m == 0) [] (m ∷ [])

-- a list without its monomials of code 0
abbrev pub nonzero : List Monomial → List Monomial
nonzero [] = []
nonzero (m ∷ f) = kept m ++ nonzero f

-- the product of two monomials, where it fits
abbrev pub times : CoefficientRing → Monomial → Monomial → Monomial
times ring s m = monomial (product (term s) (term m)) (ring.product (code s) (code m))

-- the sum of two monomials that have one term
abbrev pub plus : CoefficientRing → Monomial → Monomial → Monomial
plus ring m n = monomial (term m) (ring.sum (code m) (code n))

-- whether no exponent passes 255 in a monomial times a list
abbrev pub products_fit : Monomial → List Monomial → Bool
products_fit s [] = true
products_fit s (m ∷ f) = fits (product (term s) (term m)) && products_fit s f

-- a monomial times a list, products of code 0 included
abbrev pub multiplied : CoefficientRing → Monomial → List Monomial → List Monomial
multiplied ring s [] = []
multiplied ring s (m ∷ f) = times ring s m ∷ multiplied ring s f

-- whether the terms of two monomials stand alike in an order
abbrev pub is_beside : TermOrder → Monomial → Monomial → Bool
is_beside order m n = is_eq (compared order (term m) (term n))

-- a monomial with the first of a list added where that has the same term
abbrev pub joined : CoefficientRing → TermOrder → List Monomial → Monomial → Monomial
joined ring order [] n = n
joined ring order (m ∷ f) n = cond (is_beside order m n) (plus ring m n) n

-- what is left of the list
abbrev pub unjoined : TermOrder → List Monomial → Monomial → List Monomial
unjoined order [] n = []
unjoined order (m ∷ f) n = cond (is_beside order m n) f (m ∷ f)

-- the next monomial in front of the rest, which is given for each of the three cases
abbrev pub picked : Ordering → CoefficientRing → Monomial → Monomial → (past_n past_both past_m : List Monomial) → List Monomial
picked Less ring m n past_n past_both past_m = kept n ++ past_n
picked Equal ring m n past_n past_both past_m = kept (plus ring m n) ++ past_both
picked Greater ring m n past_n past_both past_m = kept m ++ past_m

-- the sum of two lists with falling terms, without monomials of code 0
abbrev pub merged : CoefficientRing → TermOrder → List Monomial → List Monomial → List Monomial
merged ring order [] g = nonzero g
merged ring order (m ∷ f) [] = nonzero (m ∷ f)
merged ring order (m ∷ f) (n ∷ g) =
    picked (compared order (term m) (term n)) ring m n (merged ring order (m ∷ f) g) (merged ring order f g) (merged ring order f (n ∷ g))

-- a sum that is not too long
abbrev pub not_too_long : List Monomial → Result (List Monomial) Refusal
not_too_long sum = provided (nat_le (length sum) max_monomials) SumTooLong (Ok sum)

-- a formula plus a monomial times a line
abbrev pub added : CoefficientRing → TermOrder → List Monomial → Monomial → List Monomial → Result (List Monomial) Refusal
added ring order f s line = provided (products_fit s line) ExponentTooLarge (not_too_long (merged ring order f (multiplied ring s line)))
