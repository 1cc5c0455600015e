-- The coefficients of a sum are sums of coefficients.
use Rattle.std.proofs.Common.{◌≡◌, ℕ, ◌<◌, Bool, true, false, cond, List, [], ◌∷◌, ◌++◌, Decides, Ordering, Less, Equal, Greater, sym, refl, ap, ◌∙◌, ap₂}
use Rattle.std.proofs.lemmas.Bool.{and_parts}
use Rattle.std.proofs.lemmas.Bool.Decides.{Decides-like, not_from_Decides, same_from_decides}
use Rattle.std.specs.Ordering.{MatchOrdering}
use Rattle.std.specs.List.{AllByRecursion}
use Rattle.ring.specs.CoefficientRing.{CoefficientRing}
use Rattle.order.specs.Term.{Term, Divides, divides, product, quotient}
use Rattle.order.specs.TermOrder.{TermOrder, compared}
use Rattle.order.proofs.Compared.{compared_ranked}
use Rattle.order.proofs.Terms.{division_laws, product_laws}
use Rattle.term.specs.Packed.{fits}
use Rattle.term.specs.declared.monomial.Monomial.{Monomial}
use Rattle.formula.specs.Formula.{code, term}
use Rattle.formula.specs.Polynomial.{code_at, coefficient, multiple_coefficient, same}
use Rattle.formula.specs.Sum.{kept, merged, multiplied, nonzero, picked, plus, products_fit, times}
use Rattle.formula.proofs.Parts.{code_plus, code_times, kept_cases, term_plus, term_times}
use Rattle.formula.proofs.Polynomials.{code_at_below, code_at_other, coefficient_below, decides_same}
use Rattle.formula.proofs.Sums.{product_with_zero, sum_left_commutes, sum_of_sums, sum_zero_left, zero_below}

-- a number that a test leaves or not, where it is 0
cond_zero : (test : Bool) (c : ℕ) → c ≡ 0 → cond test c 0 ≡ 0
cond_zero true c e = e
cond_zero false c e = refl

module _ (ring : CoefficientRing) where
  -- codes below the size, 0 included
  abbrev pub Codes : List Monomial → Type 0
  Codes f = AllByRecursion (λ m. code m < ring.size) f

  coefficient_kept : (m : Monomial) (h : List Monomial) (t : Term) → coefficient ring (kept m ++ h) t ≡ ring.sum (code_at m t) (coefficient ring h t)
  coefficient_kept m h t =
      kept_cases (λ k. coefficient ring (k ++ h) t ≡ ring.sum (code_at m t) (coefficient ring h t)) m
      (λ e. sym (ap (λ c. ring.sum c (coefficient ring h t)) (cond_zero (same (term m) t) (code m) e) ∙ sum_zero_left ring (coefficient ring h t) (coefficient_below ring h t)))
      (λ _. refl)

  coefficient_nonzero : (f : List Monomial) (t : Term) → coefficient ring (nonzero f) t ≡ coefficient ring f t
  coefficient_nonzero [] t = refl
  coefficient_nonzero (m ∷ f) t = coefficient_kept m (nonzero f) t ∙ ap (ring.sum (code_at m t)) (coefficient_nonzero f t)

  -- a sum that a test leaves or not
  cond_sum : (test : Bool) (c d : ℕ) → cond test (ring.sum c d) 0 ≡ ring.sum (cond test c 0) (cond test d 0)
  cond_sum true c d = refl
  cond_sum false c d = sym (sum_zero_left ring 0 (zero_below ring))

  code_at_plus : (m n : Monomial) (t : Term) → term m ≡ term n → code_at (plus ring m n) t ≡ ring.sum (code_at m t) (code_at n t)
  code_at_plus m n t e =
      ap₂ (λ s c. cond (same s t) c 0) (term_plus ring m n) (code_plus ring m n)
      ∙ cond_sum (same (term m) t) (code m) (code n)
      ∙ ap (λ s. ring.sum (code_at m t) (cond (same s t) (code n) 0)) e

  pub coefficient_merged : (order : TermOrder) (f g : List Monomial) (t : Term) → Codes f → Codes g → coefficient ring (merged ring order f g) t ≡ ring.sum (coefficient ring f t) (coefficient ring g t)
  coefficient_merged order [] g t hf hg = coefficient_nonzero g t ∙ sym (sum_zero_left ring (coefficient ring g t) (coefficient_below ring g t))
  coefficient_merged order (m ∷ f) [] t hf hg = coefficient_nonzero (m ∷ f) t ∙ sym (ring.sum_with_zero (coefficient ring (m ∷ f) t) (coefficient_below ring (m ∷ f) t))
  coefficient_merged order (m ∷ f) (n ∷ g) t hf hg =
      by (compared order (term m) (term n)) (compared_ranked order (term m) (term n)) _ _ _ (coefficient_merged order (m ∷ f) g t hf hg.1) (coefficient_merged order f g t hf.1 hg.1) (coefficient_merged order f (n ∷ g) t hf.1 hg)
    where
      by : (o : Ordering) → MatchOrdering o (order.before (term m) (term n)) (term m ≡ term n) (order.before (term n) (term m)) → (past_n past_both past_m : List Monomial)
          → coefficient ring past_n t ≡ ring.sum (coefficient ring (m ∷ f) t) (coefficient ring g t)
          → coefficient ring past_both t ≡ ring.sum (coefficient ring f t) (coefficient ring g t)
          → coefficient ring past_m t ≡ ring.sum (coefficient ring f t) (coefficient ring (n ∷ g) t)
          → coefficient ring (picked o ring m n past_n past_both past_m) t ≡ ring.sum (coefficient ring (m ∷ f) t) (coefficient ring (n ∷ g) t)
      by Less h past_n past_both past_m p q r =
          coefficient_kept n past_n t ∙ ap (ring.sum (code_at n t)) p
          ∙ sum_left_commutes ring (code_at n t) (coefficient ring (m ∷ f) t) (coefficient ring g t) (code_at_below ring n t hg.0) (coefficient_below ring (m ∷ f) t) (coefficient_below ring g t)
      by Equal h past_n past_both past_m p q r =
          coefficient_kept (plus ring m n) past_both t ∙ ap₂ ring.sum (code_at_plus m n t h) q
          ∙ sum_of_sums ring (code_at m t) (code_at n t) (coefficient ring f t) (coefficient ring g t) (code_at_below ring m t hf.0) (code_at_below ring n t hg.0) (coefficient_below ring f t) (coefficient_below ring g t)
      by Greater h past_n past_both past_m p q r =
          coefficient_kept m past_m t ∙ ap (ring.sum (code_at m t)) r
          ∙ sym (ring.sum_associates (code_at m t) (coefficient ring f t) (coefficient ring (n ∷ g) t) (code_at_below ring m t hf.0) (coefficient_below ring f t) (coefficient_below ring (n ∷ g) t))

  -- a product that a test leaves or not
  cond_product : (test : Bool) (c d : ℕ) → c < ring.size → cond test (ring.product c d) 0 ≡ ring.product c (cond test d 0)
  cond_product true c d h = refl
  cond_product false c d h = sym (product_with_zero ring c h)

  module _ (s : Monomial) (code_below : code s < ring.size) where
    -- the product of terms is t exactly where the second is the quotient
    same_quotient : (m : Monomial) (t : Term) → Divides (term s) t → same (product (term s) (term m)) t ≡ same (term m) (quotient t (term s))
    same_quotient m t d =
        same_from_decides (same (product (term s) (term m)) t) (same (term m) (quotient t (term s)))
        (Decides-like (same (product (term s) (term m)) t) (λ e. product_laws.cancels (term s) (term m) (quotient t (term s)) (e ∙ sym (division_laws.times_divisor (term s) t d))) (λ e. ap (product (term s)) e ∙ division_laws.times_divisor (term s) t d) (decides_same (product (term s) (term m)) t))
        (decides_same (term m) (quotient t (term s)))

    code_at_multiple : (m : Monomial) (t : Term) → fits (product (term s) (term m)) ≡ true → Divides (term s) t → code_at (times ring s m) t ≡ ring.product (code s) (code_at m (quotient t (term s)))
    code_at_multiple m t h d =
        ap₂ (λ x c. cond (same x t) c 0) (term_times ring s m h) (code_times ring s m)
        ∙ ap (λ b. cond b (ring.product (code s) (code m)) 0) (same_quotient m t d)
        ∙ cond_product (same (term m) (quotient t (term s))) (code s) (code m) code_below

    at_multiples : (f : List Monomial) (t : Term) → products_fit s f ≡ true → Codes f → Divides (term s) t → coefficient ring (multiplied ring s f) t ≡ ring.product (code s) (coefficient ring f (quotient t (term s)))
    at_multiples [] t h c d = sym (product_with_zero ring (code s) code_below)
    at_multiples (m ∷ f) t h c d =
        let p = and_parts (fits (product (term s) (term m))) (products_fit s f) h in
        let q = quotient t (term s) in
        ap₂ ring.sum (code_at_multiple m t p.0 d) (at_multiples f t p.1 c.1 d)
        ∙ sym (ring.product_over_sum (code s) (code_at m q) (coefficient ring f q) code_below (code_at_below ring m q c.0) (coefficient_below ring f q))

    elsewhere : (f : List Monomial) (t : Term) → products_fit s f ≡ true → (Divides (term s) t → ⊥) → coefficient ring (multiplied ring s f) t ≡ 0
    elsewhere [] t h n = refl
    elsewhere (m ∷ f) t h n =
        let p = and_parts (fits (product (term s) (term m))) (products_fit s f) h in
        ap₂ ring.sum (code_at_other (times ring s m) t (λ e. n ((division_laws.exactly_multiples (term s) t).1 (term m, sym (term_times ring s m p.0) ∙ e)))) (elsewhere f t p.1 n)
        ∙ sum_zero_left ring 0 (zero_below ring)

    pub coefficient_multiplied : (f : List Monomial) (t : Term) → products_fit s f ≡ true → Codes f → coefficient ring (multiplied ring s f) t ≡ multiple_coefficient ring s f t
    coefficient_multiplied f t h c = by (divides (term s) t) (division_laws.decided (term s) t)
      where
        by : (b : Bool) → Decides b (Divides (term s) t) → coefficient ring (multiplied ring s f) t ≡ cond b (ring.product (code s) (coefficient ring f (quotient t (term s)))) 0
        by true d = at_multiples f t h c (d.0 refl)
        by false d = elsewhere f t h (not_from_Decides false d refl)
