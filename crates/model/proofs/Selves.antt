-- A line takes itself away: what head reduction leaves comes to zero by one step more once it is a line.
use Rattle.std.proofs.Common.{◌≡◌, ℕ, ◌<◌, true, eqb, List, [], ◌∷◌, ◌++◌, length, Some, None, Ok, Equal, sym, refl, ap, ◌∙◌, arith}
use Rattle.std.specs.List.{AllByRecursion}
use Rattle.std.proofs.lemmas.List.{get_or_push}
use Rattle.std.proofs.lemmas.Bool.{and_from, cond-true, eq-eqb}
use Rattle.refusal.specs.declared.Refusal.TheVariants.{ExponentTooLarge}
use Rattle.ring.specs.CoefficientRing.{CoefficientRing}
use Rattle.order.specs.Term.{Term, product, quotient, unit}
use Rattle.order.specs.TermOrder.{TermOrder, compared}
use Rattle.order.proofs.Compared.{compared_is}
use Rattle.order.proofs.Terms.{alike, division_laws, product_laws}
use Rattle.term.specs.Packed.{fits, largest, monomial}
use Rattle.term.specs.declared.monomial.Monomial.{Monomial}
use Rattle.term.specs.declared.monomial.Step.{Step}
use Rattle.formula.specs.Formula.{Coefficient, Formula, code, term}
use Rattle.formula.specs.Sum.{added, kept, merged, multiplied, not_too_long, picked, plus, products_fit, times}
use Rattle.formula.proofs.Parts.{code_plus, code_times, term_times}
use Rattle.basis.proofs.Rings.{negative_times, one_times}
use Rattle.basis.proofs.Codes.{code_ring}
use Rattle.model.specs.Reduction.{ReducesTo, at_head, fitting, stepped}
use Rattle.model.proofs.Outcomes.{provided_true}
use Rattle.model.proofs.Packings.{code_of_monomial, term_fits, term_of_monomial, unit_fits}
use Rattle.model.proofs.Searches.{fit, found_last}
use Rattle.model.proofs.Traces.{at_head_more, lawful_at_head, stepped_more}

module _ (ring : CoefficientRing) (order : TermOrder) where
  -- −1 at the empty product
  abbrev pub minus_one : Monomial
  minus_one = monomial unit (ring.negative ring.one)

  minus_term : (m : Monomial) → product (term minus_one) (term m) ≡ term m
  minus_term m = ap (λ z. product z (term m)) (term_of_monomial ring unit (ring.negative ring.one) unit_fits (ring.negative_below ring.one)) ∙ product_laws.with_unit (term m)

  minus_code : code minus_one ≡ ring.negative ring.one
  minus_code = code_of_monomial ring unit (ring.negative ring.one) (ring.negative_below ring.one)

  minus_fits : (m : Monomial) → fits (product (term minus_one) (term m)) ≡ true
  minus_fits m = ap fits (minus_term m) ∙ (division_laws.decided (term m) largest).1 (term_fits m)

  all_fit : (f : List Monomial) → products_fit minus_one f ≡ true
  all_fit [] = refl
  all_fit (m ∷ f) = and_from (fits (product (term minus_one) (term m))) (products_fit minus_one f) (minus_fits m) (all_fit f)

  -- −1 times a code is its negative
  minus_times : (c : ℕ) → c < ring.size → ring.product (ring.negative ring.one) c ≡ ring.negative c
  minus_times c h =
      ap (λ z. z.0) (negative_times (code_ring ring) (code_ring ring).one (c, h)) ∙ ap ring.negative (ap (λ z. z.0) (one_times (code_ring ring) (c, h)))

  gone : (m : Monomial) → code m < ring.size → kept (plus ring m (times ring minus_one m)) ≡ []
  gone m h = cond-true (eqb (code (plus ring m (times ring minus_one m))) 0) [] _ (eq-eqb _ 0
      (code_plus ring m (times ring minus_one m) ∙ ap (ring.sum (code m)) (code_times ring minus_one m ∙ ap (λ z. ring.product z (code m)) minus_code ∙ minus_times (code m) h) ∙ ring.sum_with_negative (code m) h))

  merged_self : (f : List Monomial) → AllByRecursion (λ m. Coefficient ring (code m)) f → merged ring order f (multiplied ring minus_one f) ≡ []
  merged_self [] h = refl
  merged_self (m ∷ f) h =
      let n : Monomial = times ring minus_one m in
      let g : List Monomial = multiplied ring minus_one f in
      let same : term n ≡ term m = term_times ring minus_one m (minus_fits m) ∙ minus_term m in
      let equal : compared order (term m) (term n) ≡ Equal = sym (compared_is order (term m) (term n) Equal (sym same)) in
      ap (λ o. picked o ring m n (merged ring order (m ∷ f) g) (merged ring order f g) (merged ring order f (n ∷ g))) equal
      ∙ ap (λ z. z ++ merged ring order f g) (gone m h.0.1) ∙ merged_self f h.1

  pub added_self : (f : List Monomial) → Formula ring order f → added ring order f minus_one f ≡ Ok []
  added_self f h =
      provided_true (products_fit minus_one f) ExponentTooLarge (not_too_long (merged ring order f (multiplied ring minus_one f))) (all_fit f)
      ∙ ap not_too_long (merged_self f h.coefficients)

  quotient_self : (t : Term) → quotient t t ≡ unit
  quotient_self t = alike (quotient t t) unit (omega arith)

  module _ (F : List (List Monomial)) (m : Monomial) (g : List Monomial) where
    -- the step by which a new line takes itself away
    abbrev pub self : Step
    self = record { factor = minus_one; line = length F }

    finds_self : Formula ring order (m ∷ g) → at_head ring F (m ∷ g) ≡ None → at_head ring (F ++ (m ∷ g) ∷ []) (m ∷ g) ≡ Some self
    finds_self h n = found_last (fitting ring ring.quotient (code m) (term m)) 0 F (m ∷ g) minus_one n
        (fit ring ring.quotient (code m) (term m) m g ring.one (omega arith) (ring.quotient_by_itself (code m) h.coefficients.0.1) ∙ ap (λ t. Some (monomial t (ring.negative ring.one))) (quotient_self (term m)))
        ∙ ap (λ j. Some (record { factor = minus_one; line = j })) (omega arith)

    takes_self : Formula ring order (m ∷ g) → stepped ring order (F ++ (m ∷ g) ∷ []) (m ∷ g) self ≡ Ok []
    takes_self h = ap (added ring order (m ∷ g) minus_one) (get_or_push F (m ∷ g) [] (length F) refl) ∙ added_self (m ∷ g) h

    -- among the lines with what is left at the end, what came to it comes to zero by one step more
    pub trace_self : Formula ring order (m ∷ g) → (f : List Monomial) (steps : List Step) → ReducesTo ring order F (at_head ring F) f steps (m ∷ g)
        → ReducesTo ring order (F ++ (m ∷ g) ∷ []) (at_head ring (F ++ (m ∷ g) ∷ [])) f (steps ++ self ∷ []) []
    trace_self h f [] t = (
      [],
      ap (at_head ring (F ++ (m ∷ g) ∷ [])) t.1 ∙ finds_self h (ap (at_head ring F) (sym t.1) ∙ t.0),
      ap (λ z. stepped ring order (F ++ (m ∷ g) ∷ []) z self) t.1 ∙ takes_self h,
      (refl, refl),
    )
    trace_self h f (s ∷ steps) t = (
      t.0,
      at_head_more ring order F ((m ∷ g) ∷ []) f s t.1,
      stepped_more ring order F ((m ∷ g) ∷ []) f s (lawful_at_head ring F f s t.1).inside ∙ t.2,
      trace_self h t.0 steps t.3,
    )
