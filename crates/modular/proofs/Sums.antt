-- Sum, negative and product modulo n make a commutative ring on the codes below n.
use Rattle.std.proofs.Common.{◌≡◌, ℕ, ◌+◌, ◌-◌, ◌*◌, ◌%◌, ◌<◌, ◌≤◌, sym, refl, ap, ◌∙◌, mod-lt, mod-eq_of_lt, arith}
use native.Mathlib.Nat.{mod-mod, mod_self, zero-mod}
use Rattle.ring.specs.CoefficientRing.{Multiple}
use Rattle.ring.proofs.Withins.{within_inside, within_outside, both_within_inside, both_within_outside_left, both_within_outside_right, within_either, both_within_either}
use Rattle.modular.specs.Modular.{modular_sum, modular_negative, modular_product}
use Rattle.modular.proofs.Congruences.{Alike, alike_sum, alike_product}

module _ (n : ℕ) (two : 2 ≤ n) where
  positive : 0 < n
  positive = omega arith

  -- codes that are alike are equal
  pub same_code : (a b : ℕ) → a < n → b < n → Alike n a b → a ≡ b
  same_code a b h k e = sym (mod-eq_of_lt h) ∙ e ∙ mod-eq_of_lt k

  pub rest_below : (x : ℕ) → x % n < n
  rest_below x = mod-lt x positive

  pub sum_below : (a b : ℕ) → modular_sum n a b < n
  sum_below a b = both_within_either (λ x. x < n) n a b ((a + b) % n) 0 (λ _ _. rest_below (a + b)) positive

  pub negative_below : (a : ℕ) → modular_negative n a < n
  negative_below a = within_either (λ x. x < n) n a ((n - a) % n) 0 (λ _. rest_below (n - a)) positive

  pub product_below : (a b : ℕ) → modular_product n a b < n
  product_below a b = both_within_either (λ x. x < n) n a b ((a * b) % n) 0 (λ _ _. rest_below (a * b)) positive

  pub sum_outside_left : (a b : ℕ) → n ≤ a → modular_sum n a b ≡ 0
  sum_outside_left a b h = both_within_outside_left n a b ((a + b) % n) 0 h

  pub sum_outside_right : (a b : ℕ) → n ≤ b → modular_sum n a b ≡ 0
  sum_outside_right a b h = both_within_outside_right n a b ((a + b) % n) 0 h

  pub negative_outside : (a : ℕ) → n ≤ a → modular_negative n a ≡ 0
  negative_outside a h = within_outside n a ((n - a) % n) 0 h

  pub product_outside_left : (a b : ℕ) → n ≤ a → modular_product n a b ≡ 0
  product_outside_left a b h = both_within_outside_left n a b ((a * b) % n) 0 h

  pub product_outside_right : (a b : ℕ) → n ≤ b → modular_product n a b ≡ 0
  product_outside_right a b h = both_within_outside_right n a b ((a * b) % n) 0 h

  -- a sum of codes is alike the sum of numbers that these are alike; so for products
  pub sum_alike : (a b x y : ℕ) → a < n → b < n → Alike n a x → Alike n b y → Alike n (modular_sum n a b) (x + y)
  sum_alike a b x y ha hb ex ey = ap (λ z. z % n) (both_within_inside n a b ((a + b) % n) 0 ha hb) ∙ mod-mod (a + b) n ∙ alike_sum n a x b y ex ey

  pub product_alike : (a b x y : ℕ) → a < n → b < n → Alike n a x → Alike n b y → Alike n (modular_product n a b) (x * y)
  product_alike a b x y ha hb ex ey = ap (λ z. z % n) (both_within_inside n a b ((a * b) % n) 0 ha hb) ∙ mod-mod (a * b) n ∙ alike_product n a x b y ex ey

  pub negative_alike : (a : ℕ) → a < n → Alike n (modular_negative n a) (n - a)
  negative_alike a h = ap (λ z. z % n) (within_inside n a ((n - a) % n) 0 h) ∙ mod-mod (n - a) n

  pub sum_commutes : (a b : ℕ) → a < n → b < n → modular_sum n a b ≡ modular_sum n b a
  sum_commutes a b ha hb =
      same_code _ _ (sum_below a b) (sum_below b a)
      (sum_alike a b a b ha hb refl refl ∙ ap (λ z. z % n) (omega arith) ∙ sym (sum_alike b a b a hb ha refl refl))

  pub sum_associates : (a b c : ℕ) → a < n → b < n → c < n → modular_sum n (modular_sum n a b) c ≡ modular_sum n a (modular_sum n b c)
  sum_associates a b c ha hb hc =
      same_code _ _ (sum_below (modular_sum n a b) c) (sum_below a (modular_sum n b c))
      (sum_alike (modular_sum n a b) c (a + b) c (sum_below a b) hc (sum_alike a b a b ha hb refl refl) refl
      ∙ ap (λ z. z % n) (omega arith)
      ∙ sym (sum_alike a (modular_sum n b c) a (b + c) ha (sum_below b c) refl (sum_alike b c b c hb hc refl refl)))

  pub sum_with_zero : (a : ℕ) → a < n → modular_sum n a 0 ≡ a
  sum_with_zero a h = same_code _ _ (sum_below a 0) h (sum_alike a 0 a 0 h positive refl refl ∙ ap (λ z. z % n) (omega arith))

  pub sum_with_negative : (a : ℕ) → a < n → modular_sum n a (modular_negative n a) ≡ 0
  sum_with_negative a h =
      same_code _ _ (sum_below a (modular_negative n a)) positive
      (sum_alike a (modular_negative n a) a (n - a) h (negative_below a) refl (negative_alike a h)
      ∙ ap (λ z. z % n) (omega arith) ∙ mod_self n ∙ sym (zero-mod n))

  pub product_commutes : (a b : ℕ) → a < n → b < n → modular_product n a b ≡ modular_product n b a
  product_commutes a b ha hb =
      same_code _ _ (product_below a b) (product_below b a)
      (product_alike a b a b ha hb refl refl ∙ ap (λ z. z % n) (omega arith) ∙ sym (product_alike b a b a hb ha refl refl))

  pub product_associates : (a b c : ℕ) → a < n → b < n → c < n → modular_product n (modular_product n a b) c ≡ modular_product n a (modular_product n b c)
  product_associates a b c ha hb hc =
      same_code _ _ (product_below (modular_product n a b) c) (product_below a (modular_product n b c))
      (product_alike (modular_product n a b) c (a * b) c (product_below a b) hc (product_alike a b a b ha hb refl refl) refl
      ∙ ap (λ z. z % n) (omega arith)
      ∙ sym (product_alike a (modular_product n b c) a (b * c) ha (product_below b c) refl (product_alike b c b c hb hc refl refl)))

  pub product_with_one : (a : ℕ) → a < n → modular_product n a 1 ≡ a
  product_with_one a h = same_code _ _ (product_below a 1) h (product_alike a 1 a 1 h two refl refl ∙ ap (λ z. z % n) (omega arith))

  pub product_over_sum : (a b c : ℕ) → a < n → b < n → c < n → modular_product n a (modular_sum n b c) ≡ modular_sum n (modular_product n a b) (modular_product n a c)
  product_over_sum a b c ha hb hc =
      same_code _ _ (product_below a (modular_sum n b c)) (sum_below (modular_product n a b) (modular_product n a c))
      (product_alike a (modular_sum n b c) a (b + c) ha (sum_below b c) refl (sum_alike b c b c hb hc refl refl)
      ∙ ap (λ z. z % n) (omega arith)
      ∙ sym (sum_alike (modular_product n a b) (modular_product n a c) (a * b) (a * c) (product_below a b) (product_below a c) (product_alike a b a b ha hb refl refl) (product_alike a c a c ha hc refl refl)))

  pub one_is_not_zero : ◌≡◌ {A = ℕ} 1 0 → ⊥
  one_is_not_zero e = omega arith

  -- x is a multiple of the code b as soon as some number times b is alike x, and only then
  pub multiple_from : (x b k : ℕ) → x < n → b < n → Alike n (k * b) x → Multiple n (modular_product n) x b
  multiple_from x b k hx hb e =
      (k % n, rest_below k, same_code _ _ (product_below (k % n) b) hx (product_alike (k % n) b k b (rest_below k) hb (mod-mod k n) refl ∙ e))

  pub multiple_alike : (x b : ℕ) → b < n → Multiple n (modular_product n) x b → (q : ℕ) × (q < n) × Alike n (q * b) x
  multiple_alike x b hb (q, hq, e) = (q, hq, sym (product_alike q b q b hq hb refl refl) ∙ ap (λ z. z % n) e)
