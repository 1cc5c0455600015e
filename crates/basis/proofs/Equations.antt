-- The equations of the criterion, over any commutative ring.
use Rattle.std.proofs.Common.{◌≡◌, sym, ap, ◌∙◌}
use Rattle.basis.proofs.Rings.{CommutativeRing, ring_laws, sum_cancels}

module _ {A : Type 0} (R : CommutativeRing A) where
  open R use {zero as 𝟎, one as 𝟏, sum as ◌+◌, negative as −◌, product as ◌*◌}

  infixl 60 ◌+◌
  infixl 70 ◌*◌
  infix 80 −◌
  -- a − b = 0
  pub same_if_no_difference : (a b : A) → a + − b ≡ 𝟎 → a ≡ b
  same_if_no_difference a b h = sum_cancels R a b (− b) (h ∙ simp ring_laws)

  -- g = u·a + v·b with b = p·a is (u + v·p)·a
  pub one_factor : (g u v a b p : A) → g ≡ u * a + v * b → p * a ≡ b → g ≡ (u + v * p) * a
  one_factor g u v a b p h k = h ∙ ap (λ z. u * a + v * z) (sym k) ∙ simp ring_laws

  -- (1 − w·p)·b = 0, where g = w·a, p·g = a and q·g = b
  pub annihilates : (g w a b p q : A) → g ≡ w * a → p * g ≡ a → q * g ≡ b → (𝟏 + − (w * p)) * b ≡ 𝟎
  annihilates g w a b p q h k m =
      let cut : w * p * (q * g) ≡ q * g = sorted ∙ ap (λ z. q * (w * z)) k ∙ ap (λ z. q * z) (sym h) in
      ap (λ z. (𝟏 + − (w * p)) * z) (sym m) ∙ opened ∙ ap (λ z. q * g + − z) cut ∙ R.sum_with_negative (q * g)
    where
      sorted : w * p * (q * g) ≡ q * (w * (p * g))
      sorted = simp ring_laws

      opened : (𝟏 + − (w * p)) * (q * g) ≡ q * g + − (w * p * (q * g))
      opened = simp ring_laws

  -- e − w·q·f, where 1 − w·p = d·n
  pub swapped : (e f w p q d n : A) → d * n ≡ 𝟏 + − (w * p) → e + − (w * q * f) ≡ (− w) * (q * f + − (p * e)) + d * (n * e)
  swapped e f w p q d n h = first ∙ ap (λ z. (− w) * (q * f + − (p * e)) + z * e) (sym h) ∙ last
    where
      first : e + − (w * q * f) ≡ (− w) * (q * f + − (p * e)) + (𝟏 + − (w * p)) * e
      first = simp ring_laws

      last : (− w) * (q * f + − (p * e)) + d * n * e ≡ (− w) * (q * f + − (p * e)) + d * (n * e)
      last = simp ring_laws

  pub nothing_gathered : (f : A) → 𝟎 + − (𝟎 * f) ≡ 𝟎
  nothing_gathered f = simp ring_laws

  pub low_gathered : (p v c f : A) → (p + v) + − (c * f) ≡ p + (v + − (c * f))
  low_gathered p v c f = simp ring_laws

  pub top_gathered : (a e v k c f : A) → (a * e + v) + − ((a * k + c) * f) ≡ a * (e + − (k * f)) + (v + − (c * f))
  top_gathered a e v k c f = simp ring_laws

  pub put_back : (v c f d n : A) → d * n ≡ c → v ≡ (v + − (c * f)) + d * (n * f)
  put_back v c f d n h = first ∙ ap (λ z. (v + − (c * f)) + z * f) (sym h) ∙ ap (λ z. (v + − (c * f)) + z) (R.product_associates d n f)
    where
      first : v ≡ (v + − (c * f)) + c * f
      first = simp ring_laws

  -- a·x − b·y is −(b·y − a·x)
  pub turned_difference : (a b x y : A) → a * x + − (b * y) ≡ (− 𝟏) * (b * y + − (a * x))
  turned_difference a b x y = simp ring_laws

  pub alone : (a : A) → a ≡ 𝟏 * a + 𝟎 * a
  alone a = simp ring_laws

  pub zero_difference : (a b : A) → a * 𝟎 + − (b * 𝟎) ≡ 𝟎
  zero_difference a b = simp ring_laws

  -- q·a − p·b = 0, where p·g = a and q·g = b
  pub heads_cancel : (g a b p q : A) → p * g ≡ a → q * g ≡ b → q * a + (− p) * b ≡ 𝟎
  heads_cancel g a b p q h k = ap (λ z. q * z + (− p) * b) (sym h) ∙ ap (λ z. q * (p * g) + (− p) * z) (sym k) ∙ simp ring_laws
