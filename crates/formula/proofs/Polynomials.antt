-- Coefficients of lists: at and after the head, and that they determine a formula.
use Rattle.std.proofs.Common.{◌≡◌, ℕ, suc, ◌^◌, ◌<◌, ◌≤◌, Bool, true, false, cond, ◌⊎◌, List, [], ◌∷◌, length, Decides, sym, refl, ap, ◌∙◌, subst, ap₂, inl, inr, arith}
use Rattle.std.proofs.lemmas.Bool.{cond-true, cond-false}
use Rattle.std.proofs.lemmas.Bool.Decides.{Decides-and, Decides-eqb, Decides-like}
use Rattle.std.specs.List.{AllByRecursion}
use Rattle.ring.specs.CoefficientRing.{CoefficientRing}
use Rattle.order.specs.Term.{Term}
use Rattle.order.specs.TermOrder.{TermOrder}
use Rattle.order.proofs.Terms.{alike, alike_of}
use Rattle.term.specs.Packed.{packed}
use Rattle.term.specs.declared.monomial.Monomial.{Monomial}
use Rattle.term.proofs.Packing.{packing_laws}
use Rattle.formula.specs.Formula.{Formula, code, max_monomials, term}
use Rattle.formula.specs.Laws.{FormulaLaws}
use Rattle.formula.specs.Polynomial.{Head, Packed, SamePolynomial, code_at, coefficient, same}
use Rattle.formula.proofs.Checking.{all_before, checked_exactly_formulas}
use Rattle.formula.proofs.Sums.{sum_cancels, sum_zero_left, zero_below}

pub decides_same : (s t : Term) → Decides (same s t) (s ≡ t)
unfolding same
decides_same s t =
    Decides-like (same s t) (λ h. alike s t (record { a = h.0; b = h.1.0; c = h.1.1.0; d = h.1.1.1.0; e = h.1.1.1.1.0; f = h.1.1.1.1.1 })) (λ p. let h = alike_of s t p in (h.a, (h.b, (h.c, (h.d, (h.e, h.f))))))
    (Decides-and _ _ (Decides-eqb s.a t.a) (Decides-and _ _ (Decides-eqb s.b t.b) (Decides-and _ _ (Decides-eqb s.c t.c) (Decides-and _ _ (Decides-eqb s.d t.d) (Decides-and _ _ (Decides-eqb s.e t.e) (Decides-eqb s.f t.f))))))

-- a test that holds exactly for a false statement is false
pub refuted : {P : Type 0} (test : Bool) → Decides test P → (P → ⊥) → test ≡ false
refuted true d n = absurd (n (d.0 refl))
refuted false d n = refl

pub same_terms : {s t : Term} → s ≡ t → same s t ≡ true
same_terms {s} {t} e = (decides_same s t).1 e

pub other_terms : {s t : Term} → (s ≡ t → ⊥) → same s t ≡ false
other_terms {s} {t} n = refuted (same s t) (decides_same s t) n

pub code_at_own : (m : Monomial) (t : Term) → term m ≡ t → code_at m t ≡ code m
code_at_own m t e = cond-true (same (term m) t) (code m) 0 (same_terms e)

pub code_at_other : (m : Monomial) (t : Term) → (term m ≡ t → ⊥) → code_at m t ≡ 0
code_at_other m t n = cond-false (same (term m) t) (code m) 0 (other_terms n)

-- a smaller number, by a test
cond_below : (test : Bool) (c n : ℕ) → c < n → 0 < n → cond test c 0 < n
cond_below true c n h z = h
cond_below false c n h z = z

module _ (ring : CoefficientRing) where
  pub code_at_below : (m : Monomial) (t : Term) → code m < ring.size → code_at m t < ring.size
  code_at_below m t h = cond_below (same (term m) t) (code m) ring.size h (zero_below ring)

  pub coefficient_below : (f : List Monomial) (t : Term) → coefficient ring f t < ring.size
  coefficient_below [] t = zero_below ring
  coefficient_below (m ∷ f) t = ring.sum_below (code_at m t) (coefficient ring f t)

module _ (ring : CoefficientRing) (order : TermOrder) where
  apart : {s t : Term} → order.before s t → s ≡ t → ⊥
  apart {s} {t} h e = order.irreflexive t (subst (λ x. order.before x t) e h)

  pub zero_past : (f : List Monomial) (t : Term) → AllByRecursion (λ n. order.before (term n) t) f → coefficient ring f t ≡ 0
  zero_past [] t h = refl
  zero_past (m ∷ f) t h = ap₂ ring.sum (code_at_other m t (apart h.0)) (zero_past f t h.1) ∙ sum_zero_left ring 0 (zero_below ring)

  first_is_head : (m : Monomial) (f : List Monomial) → Formula ring order (m ∷ f) → Head ring order m (m ∷ f)
  first_is_head m f h = record {
    at_its_term = ap₂ ring.sum (code_at_own m (term m) refl) (zero_past f (term m) h.falling_terms.0) ∙ ring.sum_with_zero (code m) h.coefficients.0.1;
    zero_after = λ t l. zero_past (m ∷ f) t (l, all_before order (term m) t f l h.falling_terms.0);
  }

  pub rest_is_formula : (m : Monomial) (f : List Monomial) → Formula ring order (m ∷ f) → Formula ring order f
  rest_is_formula m f h = record { not_long = shorter (length f) h.not_long; coefficients = h.coefficients.1; falling_terms = h.falling_terms.1 }
    where
      shorter : (n : ℕ) → suc n ≤ max_monomials → n ≤ max_monomials
      shorter n h = omega arith

  -- a formula that is not zero has a coefficient that is not 0
  not_zero_at_head : (m : Monomial) (f : List Monomial) → Formula ring order (m ∷ f) → coefficient ring (m ∷ f) (term m) ≡ 0 → ⊥
  not_zero_at_head m f h e = positive (code m) h.coefficients.0.0 (sym (first_is_head m f h).at_its_term ∙ e)
    where
      positive : (c : ℕ) → 0 < c → c ≡ 0 → ⊥
      positive c h e = omega arith

  same_monomial : (m n : Monomial) → m.bits < 2 ^ 64 → n.bits < 2 ^ 64 → term m ≡ term n → code m ≡ code n → m ≡ n
  same_monomial m n hm hn s c = ap of_bits (sym (packing_laws.packed_of_parts m.bits hm) ∙ ap₂ packed s c ∙ packing_laws.packed_of_parts n.bits hn)
    where
      of_bits : ℕ → Monomial
      of_bits b = record { bits = b }

  known : (f g : List Monomial) → Formula ring order f → Formula ring order g → Packed f → Packed g → SamePolynomial ring f g → f ≡ g
  known [] [] hf hg pf pg e = refl
  known [] (n ∷ g) hf hg pf pg e = absurd (not_zero_at_head n g hg (sym (e (term n))))
  known (m ∷ f) [] hf hg pf pg e = absurd (not_zero_at_head m f hf (e (term m)))
  known (m ∷ f) (n ∷ g) hf hg pf pg e = by (order.trichotomy (term m) (term n)) (λ k. known f g (rest_is_formula m f hf) (rest_is_formula n g hg) pf.1 pg.1 (rest k))
    where
      rest : m ≡ n → SamePolynomial ring f g
      rest k t = sum_cancels ring (code_at m t) (coefficient ring f t) (coefficient ring g t) (code_at_below ring m t hf.coefficients.0.1) (coefficient_below ring f t) (coefficient_below ring g t) (e t ∙ ap (λ x. ring.sum (code_at x t) (coefficient ring g t)) (sym k))

      alike_heads : term m ≡ term n → m ≡ n
      alike_heads s = same_monomial m n pf.0 pg.0 s (sym (first_is_head m f hf).at_its_term ∙ e (term m) ∙ ap (coefficient ring (n ∷ g)) s ∙ (first_is_head n g hg).at_its_term)

      by : order.before (term m) (term n) ⊎ ((term m ≡ term n) ⊎ order.before (term n) (term m)) → (m ≡ n → f ≡ g) → m ∷ f ≡ n ∷ g
      by (inl l) k = absurd (not_zero_at_head n g hg (sym (e (term n)) ∙ (first_is_head m f hf).zero_after (term n) l))
      by (inr (inl s)) k = ap₂ ◌∷◌ (alike_heads s) (k (alike_heads s))
      by (inr (inr l)) k = absurd (not_zero_at_head m f hf (e (term m) ∙ (first_is_head n g hg).zero_after (term m) l))

pub formula_laws : (ring : CoefficientRing) (order : TermOrder) → FormulaLaws ring order
formula_laws ring order = record { granted_exactly_for_formulas = checked_exactly_formulas ring order; known_by_coefficients = known ring order; first_is_head = first_is_head ring order }
