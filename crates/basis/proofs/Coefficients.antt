-- The coefficients of sums, multiples and products of polynomials, as elements of the ring of codes.
use Rattle.std.proofs.Common.{◌≡◌, ℕ, ◌<◌, Bool, true, false, cond, [], ◌∷◌, ◌++◌, Decides, sym, refl, ap, ◌∙◌, ap₂}
use Rattle.std.proofs.lemmas.Bool.Decides.{not_from_Decides}
use Rattle.ring.specs.CoefficientRing.{CoefficientRing}
use Rattle.ring.specs.Within.{within}
use Rattle.order.specs.Term.{Term, unit, product}
use Rattle.order.proofs.Terms.{product_laws}
use Rattle.basis.specs.Polynomial.{Monomial, Polynomial, same_term, share, coefficient, scaled, difference}
use Rattle.basis.proofs.Rings.{zero_left, sum_nests, over_sum_right, times_zero, negative_times, one_times}
use Rattle.basis.proofs.Codes.{Code, same_code, zero_below, code_ring, code_of, code_of_code, code_of_product}
use Rattle.basis.proofs.SixTerms.{six_terms, same_term_decides}
use Rattle.basis.proofs.Shifts.{shifted, by_division, shifted_at_product, shifted_elsewhere, shifted_sum, shifted_zero, shifted_same}

module _ (ring : CoefficientRing) where
  open code_ring ring use {zero as 𝟎, sum as ◌+◌, negative as −◌, product as ◌*◌}

  infixl 60 ◌+◌
  infixl 70 ◌*◌
  infix 80 −◌
  unfoldable pub coefficient_below : (f : Polynomial) (t : Term) → coefficient ring f t < ring.size
  coefficient_below [] t = zero_below ring
  coefficient_below (m ∷ f) t = ring.sum_below (share ring m t) (coefficient ring f t)

  -- the coefficient at t, as an element of the ring of codes
  abbrev pub at : Polynomial → Term → Code ring
  at f t = (coefficient ring f t, coefficient_below f t)

  -- what a monomial with a code adds at t
  pub share_of_code : (m : Monomial) → m.coefficient < ring.size → (t : Term) → share ring m t ≡ cond (same_term m.term t) m.coefficient 0
  share_of_code m h t = ap (λ c. cond (same_term m.term t) c 0) (ap (λ c. c.0) (code_of_code ring m.coefficient h))

  -- c if the test holds, else zero
  abbrev when : Bool → Code ring → Code ring
  when b c = cond b c 𝟎

  at_cons : (m : Monomial) (f : Polynomial) (t : Term) → at (m ∷ f) t ≡ when (same_term m.term t) (code_of ring m.coefficient) + at f t
  at_cons m f t = same_code ring _ _ (ap (λ c. ring.sum c (coefficient ring f t)) (inside (same_term m.term t)))
    where
      inside : (b : Bool) → cond b (within ring.size m.coefficient m.coefficient 0) 0 ≡ (when b (code_of ring m.coefficient)).0
      inside true = refl
      inside false = refl

  pub at_append : (f g : Polynomial) (t : Term) → at (f ++ g) t ≡ at f t + at g t
  at_append [] g t = sym (zero_left (code_ring ring) (at g t)) ∙ same_code ring _ _ refl
  at_append (m ∷ f) g t =
      at_cons m (f ++ g) t ∙ ap (λ c. when (same_term m.term t) (code_of ring m.coefficient) + c) (at_append f g t)
      ∙ sym (ap (λ c. c + at g t) (at_cons m f t) ∙ sum_nests (code_ring ring) (when (same_term m.term t) (code_of ring m.coefficient)) (at f t) (at g t))

  -- a test that decides the same gives the same
  when_alike : {P Q : Type 0} (b c : Bool) (a : Code ring) → Decides b P → Decides c Q → (P → Q) → (Q → P) → when b a ≡ when c a
  when_alike true true a d e f g = refl
  when_alike true false a d e f g = absurd (not_from_Decides false e refl (f (d.0 refl)))
  when_alike false true a d e f g = absurd (not_from_Decides false d refl (g (e.0 refl)))
  when_alike false false a d e f g = refl

  when_not : {P : Type 0} (b : Bool) (a : Code ring) → Decides b P → ¬ P → when b a ≡ 𝟎
  when_not true a d n = absurd (n (d.0 refl))
  when_not false a d n = refl

  when_product : (b : Bool) (c a : Code ring) → when b (c * a) ≡ c * when b a
  when_product true c a = refl
  when_product false c a = sym (times_zero (code_ring ring) c)

  -- one monomial times the term s
  when_shifted : (s r : Term) (a : Code ring) (x : Term) → when (same_term (product s r) x) a ≡ shifted (code_ring ring) six_terms s (λ y. when (same_term r y) a) x
  when_shifted s r a = by_division (code_ring ring) six_terms (λ x. when (same_term (product s r) x) a ≡ shifted (code_ring ring) six_terms s (λ y. when (same_term r y) a) x) s
      (λ y. when_alike (same_term (product s r) (product s y)) (same_term r y) a (same_term_decides (product s r) (product s y)) (same_term_decides r y) (product_laws.cancels s r y) (ap (product s))
      ∙ sym (shifted_at_product (code_ring ring) six_terms s (λ y. when (same_term r y) a) y))
      (λ x n. when_not (same_term (product s r) x) a (same_term_decides (product s r) x) (λ e. n (r, e)) ∙ sym (shifted_elsewhere (code_ring ring) six_terms s (λ y. when (same_term r y) a) x n))

  pub at_scaled : (c : ℕ) (s : Term) (f : Polynomial) (x : Term) → at (scaled ring c s f) x ≡ code_of ring c * shifted (code_ring ring) six_terms s (at f) x
  unfolding coefficient_below
  at_scaled c s [] x = sym (ap (λ y. code_of ring c * y) (shifted_zero (code_ring ring) six_terms s x) ∙ times_zero (code_ring ring) (code_of ring c))
  at_scaled c s (m ∷ f) x =
      let a : Code ring = code_of ring m.coefficient in
      let one : Term → Code ring = λ y. when (same_term m.term y) a in
      let test : Bool = same_term (product s m.term) x in
      at_cons (record { coefficient = ring.product c m.coefficient; term = product s m.term }) (scaled ring c s f) x
      ∙ ap₂ ◌+◌ (ap (when test) (code_of_product ring c m.coefficient) ∙ when_product test (code_of ring c) a ∙ ap (λ y. code_of ring c * y) (when_shifted s m.term a x)) (at_scaled c s f x)
      ∙ sym (over_sum_right (code_ring ring) (code_of ring c) (shifted (code_ring ring) six_terms s one x) (shifted (code_ring ring) six_terms s (at f) x))
      ∙ ap (λ y. code_of ring c * y) (sym (shifted_same (code_ring ring) six_terms s (at (m ∷ f)) (λ y. one y + at f y) (at_cons m f) x ∙ shifted_sum (code_ring ring) six_terms s one (at f) x))

  pub shifted_by_unit : (f : Term → Code ring) (x : Term) → shifted (code_ring ring) six_terms unit f x ≡ f x
  shifted_by_unit f x = ap (shifted (code_ring ring) six_terms unit f) (sym (product_laws.with_unit x)) ∙ shifted_at_product (code_ring ring) six_terms unit f x

  pub at_difference : (f g : Polynomial) (x : Term) → at (difference ring f g) x ≡ at f x + − at g x
  at_difference f g x =
      at_append f (scaled ring (ring.negative ring.one) unit g) x
      ∙ ap (λ y. at f x + y) (at_scaled (ring.negative ring.one) unit g x
      ∙ ap₂ ◌*◌ (code_of_code ring (ring.negative ring.one) (ring.negative_below ring.one)) (shifted_by_unit (at g) x)
      ∙ negative_times (code_ring ring) (code_ring ring).one (at g x) ∙ ap (λ y. − y) (one_times (code_ring ring) (at g x)))
