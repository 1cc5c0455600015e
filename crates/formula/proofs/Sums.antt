-- Sums of codes: they are reordered and cancelled as in every ring.
use Rattle.std.proofs.Common.{◌≡◌, ℕ, ◌<◌, sym, ap, ◌∙◌, arith}
use Rattle.ring.specs.CoefficientRing.{CoefficientRing}

module _ (ring : CoefficientRing) where
  pub zero_below : 0 < ring.size
  zero_below = omega (arith, ring.size_at_least)

  pub sum_zero_left : (a : ℕ) → a < ring.size → ring.sum 0 a ≡ a
  sum_zero_left a h = ring.sum_commutes 0 a zero_below h ∙ ring.sum_with_zero a h

  pub sum_left_commutes : (a b c : ℕ) → a < ring.size → b < ring.size → c < ring.size → ring.sum a (ring.sum b c) ≡ ring.sum b (ring.sum a c)
  sum_left_commutes a b c ha hb hc = sym (ring.sum_associates a b c ha hb hc) ∙ ap (λ s. ring.sum s c) (ring.sum_commutes a b ha hb) ∙ ring.sum_associates b a c hb ha hc

  -- two sums of two, the inner ones changed
  pub sum_of_sums : (a b c d : ℕ) → a < ring.size → b < ring.size → c < ring.size → d < ring.size → ring.sum (ring.sum a b) (ring.sum c d) ≡ ring.sum (ring.sum a c) (ring.sum b d)
  sum_of_sums a b c d ha hb hc hd =
      ring.sum_associates a b (ring.sum c d) ha hb (ring.sum_below c d)
      ∙ ap (ring.sum a) (sum_left_commutes b c d hb hc hd)
      ∙ sym (ring.sum_associates a c (ring.sum b d) ha hc (ring.sum_below b d))

  sum_undone : (a b : ℕ) → a < ring.size → b < ring.size → ring.sum (ring.negative a) (ring.sum a b) ≡ b
  sum_undone a b ha hb =
      sym (ring.sum_associates (ring.negative a) a b (ring.negative_below a) ha hb)
      ∙ ap (λ s. ring.sum s b) (ring.sum_commutes (ring.negative a) a (ring.negative_below a) ha ∙ ring.sum_with_negative a ha)
      ∙ sum_zero_left b hb

  pub sum_cancels : (a b c : ℕ) → a < ring.size → b < ring.size → c < ring.size → ring.sum a b ≡ ring.sum a c → b ≡ c
  sum_cancels a b c ha hb hc e = sym (sum_undone a b ha hb) ∙ ap (ring.sum (ring.negative a)) e ∙ sum_undone a c ha hc

  pub product_with_zero : (a : ℕ) → a < ring.size → ring.product a 0 ≡ 0
  product_with_zero a h =
      let b = ring.product_below a 0 in
      sum_cancels (ring.product a 0) (ring.product a 0) 0 b b zero_below
      (sym (ring.product_over_sum a 0 0 h zero_below zero_below) ∙ ap (ring.product a) (ring.sum_with_zero 0 zero_below) ∙ sym (ring.sum_with_zero (ring.product a 0) b))
