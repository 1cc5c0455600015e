-- Steps that lie before a term: what takes heads away from a formula that is zero from a term on stays before that term.
use Rattle.std.proofs.Common.{◌≡◌, ◌-◌, ◌<◌, ◌⊎◌, List, [], ◌∷◌, get_or, Some, sym, refl, ap, ◌∙◌, subst, ap₂, inl, inr, arith}
use Rattle.std.specs.List.{AllByRecursion}
use Rattle.ring.specs.CoefficientRing.{CoefficientRing}
use Rattle.order.specs.Term.{Term, product}
use Rattle.order.specs.TermOrder.{TermOrder}
use Rattle.term.specs.declared.monomial.Monomial.{Monomial}
use Rattle.term.specs.declared.monomial.Step.{Step}
use Rattle.formula.specs.Formula.{Formula, code, term}
use Rattle.basis.proofs.Rings.{times_zero, zero_right}
use Rattle.basis.proofs.Codes.{Code, code_of, code_ring, same_code}
use Rattle.basis.proofs.SixTerms.{order_of_six, six_terms}
use Rattle.basis.proofs.Shifts.{shifted_after}
use Rattle.basis.proofs.Coefficients.{coefficient_below}
use Rattle.model.specs.Polynomials.{head_of}
use Rattle.model.specs.Reduction.{ReducesTo, at_head, fitting}
use Rattle.model.proofs.Outcomes.{none_some}
use Rattle.model.proofs.Packings.{term_fits}
use Rattle.model.proofs.Values.{added_formula, added_sum, co, headed, multiple}
use Rattle.model.proofs.Searches.{factor_term, fits_at, found}
use Rattle.model.proofs.Traces.{Good, good_line, lawful_at_head}

module _ (ring : CoefficientRing) (order : TermOrder) where
  open code_ring ring use {zero as 𝟎, sum as ◌+◌, product as ◌*◌}

  infixl 60 ◌+◌
  infixl 70 ◌*◌
  -- the coefficients of a formula after its head
  pub co_after : (f : List Monomial) → Formula ring order f → (x : Term) → order.before (head_of f).term x → co ring f x ≡ 𝟎
  unfolding coefficient_below
  co_after [] h x l = refl
  co_after (m ∷ f) h x l = same_code ring (co ring (m ∷ f) x) 𝟎 ((headed ring order m f h).none_after x l)

  pub multiple_after : (s : Monomial) (f : List Monomial) → Formula ring order f → (x : Term) → order.before (product (term s) (head_of f).term) x → multiple ring s f x ≡ 𝟎
  multiple_after s f h x l =
      ap (λ y. code_of ring (code s) * y) (shifted_after (code_ring ring) six_terms (order_of_six order) (term s) (head_of f).term (co ring f) (co_after f h) x l)
      ∙ times_zero (code_ring ring) (code_of ring (code s))

  -- no term at X or after it has a coefficient
  abbrev pub Under : Term → (Term → Code ring) → Type 0
  Under X f = (x : Term) → ¬ (order.before x X) → f x ≡ 𝟎

  pub not_before : {P : Type 0} (X x : Term) → ¬ (order.before x X) → (x ≡ X → P) → (order.before X x → P) → P
  not_before {P} X x n same after = by (order.trichotomy x X)
    where
      by : order.before x X ⊎ ((x ≡ X) ⊎ order.before X x) → P
      by (inl b) = absurd (n b)
      by (inr (inl e)) = same e
      by (inr (inr a)) = after a

  head_under : (X : Term) (m : Monomial) (f : List Monomial) → Formula ring order (m ∷ f) → Under X (co ring (m ∷ f)) → order.before (term m) X
  head_under X m f h u = by (order.trichotomy (term m) X)
    where
      bad : ¬ (order.before (term m) X) → ⊥
      bad n = let w = headed ring order m f h in w.not_zero (sym w.there ∙ ap (λ c. c.0) (u (term m) n))

      by : order.before (term m) X ⊎ ((term m ≡ X) ⊎ order.before X (term m)) → order.before (term m) X
      by (inl b) = b
      by (inr (inl e)) = absurd (bad (λ b. order.irreflexive X (subst (λ z. order.before z X) e b)))
      by (inr (inr a)) = absurd (bad (λ b. order.irreflexive X (order.transitive X (term m) X a b)))

  module _ (F : List (List Monomial)) (good : Good ring order F) where
    -- the product of a step's term and its line's head term
    abbrev pub step_product : Step → Term
    step_product s = product (term s.factor) (head_of (get_or F s.line [])).term

    pub product_at_head : (m : Monomial) (f : List Monomial) (s : Step) → at_head ring F (m ∷ f) ≡ Some s → product (term s.factor) (head_of (get_or F s.line [])).term ≡ term m
    product_at_head m f s e =
        let w = found (fitting ring ring.quotient (code m) (term m)) 0 F s e in
        let v = fits_at ring ring.quotient (code m) (term m) (get_or F (s.line - 0) []) s.factor w.passed in
        let z : s.line - 0 ≡ s.line = omega arith in
        ap (λ l. product (term s.factor) (head_of l).term) (ap (λ j. get_or F j []) (sym z) ∙ v.is) ∙ factor_term ring ring.quotient (code m) (term m) (get_or F (s.line - 0) []) s.factor (term_fits m) v

    step_before : (X : Term) (f : List Monomial) (s : Step) → Formula ring order f → Under X (co ring f) → at_head ring F f ≡ Some s → order.before (step_product s) X
    step_before X [] s h u e = none_some e
    step_before X (m ∷ f) s h u e = subst (λ t. order.before t X) (sym (product_at_head m f s e)) (head_under X m f h u)

    -- every step of a trace from a formula under X lies before X
    pub trace_before : (X : Term) (f : List Monomial) (steps : List Step) (g : List Monomial) → Formula ring order f → Under X (co ring f) → ReducesTo ring order F (at_head ring F) f steps g
        → AllByRecursion (λ s. order.before (product (term s.factor) (head_of (get_or F s.line [])).term) X) steps
    trace_before X f [] g h u t = tt
    trace_before X f (s ∷ steps) g h u t = (low, trace_before X t.0 steps g (added_formula ring order f s.factor (get_or F s.line []) t.0 h line coded t.2) under t.3)
      where
        low : order.before (step_product s) X
        low = step_before X f s h u t.1

        line : Formula ring order (get_or F s.line [])
        line = good_line ring order F good s.line

        coded : code s.factor < ring.size
        coded = (lawful_at_head ring F f s t.1).coded

        under : Under X (co ring t.0)
        under x n =
            added_sum ring order f s.factor (get_or F s.line []) t.0 h line coded t.2 x
            ∙ ap₂ ◌+◌ (u x n) (multiple_after s.factor (get_or F s.line []) line x
            (not_before X x n (λ e. subst (λ z. order.before (step_product s) z) (sym e) low) (λ a. order.transitive (step_product s) X x low a)))
            ∙ zero_right (code_ring ring) 𝟎
