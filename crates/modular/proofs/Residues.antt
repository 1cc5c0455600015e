-- The gcd, the annihilator and the residue modulo n keep their laws.
use Rattle.std.proofs.Common.{◌≡◌, ℕ, ◌+◌, ◌-◌, ◌*◌, ◌/◌, ◌%◌, ◌<◌, ◌≤◌, unwrap_or, sym, refl, ap, ◌∙◌, subst, ap₂, mul_comm, arith}
use Prim.Native.Nat.{◌∣◌}
use native.Mathlib.Nat.{mod-le, mod-mod, div-add-mod, mul-div_cancel', add-mod_right, dvd-mul_left_of_dvd}
use Rattle.ring.specs.declared.Bezout.{Bezout}
use Rattle.ring.specs.CoefficientRing.{Multiple}
use Rattle.ring.proofs.Withins.{within_inside, within_outside, both_within_inside, both_within_outside_left, both_within_outside_right, within_either, both_within_either}
use Rattle.modular.specs.Divisor.{common_divisor}
use Rattle.modular.specs.Modular.{multiplier, modular_sum, modular_negative, modular_product, modular_gcd, modular_annihilator, modular_residue, divisor_of_three, left_cofactor, right_cofactor}
use Rattle.modular.proofs.Divisors.{Within, same_divisors, divisor_left, divisor_right}
use Rattle.modular.proofs.Congruences.{Alike, alike_sum, alike_times, alike_by_divisor, alike_zero, divides_alike}
use Rattle.modular.proofs.Turns.{factor_exists}
use Rattle.modular.proofs.Multipliers.{period, zero_of_period, period_of_zero}
use Rattle.modular.proofs.Cofactors.{left_is, right_is, left_below, right_below, cofactors_combine, divides_first, divides_second}
use Rattle.modular.proofs.Sums.{same_code, rest_below, sum_below, product_below, negative_below, sum_alike, product_alike, negative_alike, multiple_from, multiple_alike}

abbrev nothing : Bezout
nothing = record { g = 0; u = 0; v = 0 }

module _ (n : ℕ) (two : 2 ≤ n) where
  positive : 0 < n
  positive = omega arith

  -- the gcd of codes
  abbrev inner : (a b : ℕ) → Bezout
  inner a b = record { g = divisor_of_three n a b % n; u = left_cofactor n a b; v = right_cofactor n a b }

  gcd_inside : (a b : ℕ) → a < n → b < n → modular_gcd n a b ≡ inner a b
  gcd_inside a b ha hb = both_within_inside n a b (inner a b) nothing ha hb

  -- the gcd of codes, worked out from a divisor e of b and n by two solutions
  pub gcd_worked_out : (a b e g u v : ℕ) → a < n → b < n → e ≡ common_divisor b n → g ≡ common_divisor a e → u ≡ unwrap_or (multiplier e a g) 0
      → v ≡ unwrap_or (multiplier n b (g + (n - u * a % n))) 0 → record { g = g % n; u = u; v = v } ≡ modular_gcd n a b
  gcd_worked_out a b e g u v ha hb he hg hu hv =
      let ge : g ≡ divisor_of_three n a b = hg ∙ ap (common_divisor a) he in
      let ue : u ≡ left_cofactor n a b = hu ∙ ap₂ (λ x y. unwrap_or (multiplier x a y) 0) he ge ∙ sym (left_is n a b positive) in
      let ve : v ≡ right_cofactor n a b = hv ∙ ap₂ (λ x y. unwrap_or (multiplier n b (x + (n - y * a % n))) 0) ge ue ∙ sym (right_is n a b positive) in
      (λ i. record { g = ge i % n; u = ue i; v = ve i }) ∙ sym (gcd_inside a b ha hb)

  pub gcd_below : (a b : ℕ) → ((modular_gcd n a b).g < n) × ((modular_gcd n a b).u < n) × ((modular_gcd n a b).v < n)
  gcd_below a b =
      both_within_either (λ x. (x.g < n) × (x.u < n) × (x.v < n)) n a b (inner a b) nothing
      (λ _ _. (rest_below n two (divisor_of_three n a b), left_below n a b positive, right_below n a b positive))
      (positive, positive, positive)

  pub gcd_outside_left : (a b : ℕ) → n ≤ a → modular_gcd n a b ≡ nothing
  gcd_outside_left a b h = both_within_outside_left n a b (inner a b) nothing h

  pub gcd_outside_right : (a b : ℕ) → n ≤ b → modular_gcd n a b ≡ nothing
  gcd_outside_right a b h = both_within_outside_right n a b (inner a b) nothing h

  -- a combination of codes
  abbrev combination : (a b : ℕ) → Bezout → ℕ
  combination a b x = modular_sum n (modular_product n x.u a) (modular_product n x.v b)

  pub gcd_is_combination : (a b : ℕ) → a < n → b < n → (modular_gcd n a b).g ≡ combination a b (modular_gcd n a b)
  gcd_is_combination a b ha hb = subst (λ x. x.g ≡ combination a b x) (sym (gcd_inside a b ha hb)) inside
    where
      u : ℕ
      u = left_cofactor n a b

      v : ℕ
      v = right_cofactor n a b

      inside : divisor_of_three n a b % n ≡ combination a b (inner a b)
      inside =
          same_code n two _ _ (rest_below n two (divisor_of_three n a b)) (sum_below n two _ _)
          (mod-mod (divisor_of_three n a b) n ∙ sym (cofactors_combine n a b positive)
          ∙ sym (sum_alike n two _ _ (left_cofactor n a b * a) (right_cofactor n a b * b) (product_below n two _ a) (product_below n two _ b)
          (product_alike n two _ a _ a (left_below n a b positive) ha refl refl)
          (product_alike n two _ b _ b (right_below n a b positive) hb refl refl)))

  -- what divides a number divides its code
  divided : (x e : ℕ) → x < n → e ∣ x → Multiple n (modular_product n) x (e % n)
  divided x e hx h =
      multiple_from n two x (e % n) (x / e) hx (rest_below n two e)
      (alike_times n (e % n) e (x / e) (mod-mod e n) ∙ ap (λ z. z % n) (mul_comm (x / e) e ∙ mul-div_cancel' e h))

  pub gcd_divides_left : (a b : ℕ) → a < n → b < n → Multiple n (modular_product n) a (modular_gcd n a b).g
  gcd_divides_left a b ha hb = subst (λ x. Multiple n (modular_product n) a x.g) (sym (gcd_inside a b ha hb)) (divided a (divisor_of_three n a b) ha (divides_first n a b positive))

  pub gcd_divides_right : (a b : ℕ) → a < n → b < n → Multiple n (modular_product n) b (modular_gcd n a b).g
  gcd_divides_right a b ha hb = subst (λ x. Multiple n (modular_product n) b x.g) (sym (gcd_inside a b ha hb)) (divided b (divisor_of_three n a b) hb (divides_second n a b positive))

  pub annihilator_below : (a : ℕ) → modular_annihilator n a < n
  annihilator_below a = within_either (λ x. x < n) n a (n / common_divisor a n % n) 0 (λ _. rest_below n two (n / common_divisor a n)) positive

  pub annihilator_outside : (a : ℕ) → n ≤ a → modular_annihilator n a ≡ 0
  annihilator_outside a h = within_outside n a (n / common_divisor a n % n) 0 h

  annihilator_alike : (a : ℕ) → a < n → Alike n (modular_annihilator n a) (period a n positive)
  annihilator_alike a h = ap (λ z. z % n) (within_inside n a (n / common_divisor a n % n) 0 h) ∙ mod-mod (n / common_divisor a n) n

  pub annihilator_annihilates : (a : ℕ) → a < n → modular_product n (modular_annihilator n a) a ≡ 0
  annihilator_annihilates a h =
      same_code n two _ _ (product_below n two _ a) positive
      (product_alike n two _ a (period a n positive) a (annihilator_below a) h (annihilator_alike a h) refl
      ∙ ap (λ z. z % n) (omega arith) ∙ zero_of_period a n positive 1)

  pub annihilator_divides : (a e : ℕ) → a < n → e < n → modular_product n e a ≡ 0 → Multiple n (modular_product n) e (modular_annihilator n a)
  annihilator_divides a e ha he z =
      let k = period a n positive in
      let gone : Alike n (e * a) 0 = sym (product_alike n two e a e a he ha refl refl) ∙ ap (λ y. y % n) z in
      let whole : k * (e / k) ≡ e = mul-div_cancel' k (period_of_zero a n positive e gone) in
      multiple_from n two e _ (e / k) he (annihilator_below a)
      (alike_times n _ k (e / k) (annihilator_alike a ha) ∙ ap (λ y. y % n) (mul_comm (e / k) k ∙ whole))

  residue_inside : (a b : ℕ) → a < n → b < n → modular_residue n a b ≡ a % common_divisor b n
  residue_inside a b ha hb = both_within_inside n a b (a % common_divisor b n) 0 ha hb

  pub residue_below : (a b : ℕ) → modular_residue n a b < n
  residue_below a b = both_within_either (λ x. x < n) n a b (a % common_divisor b n) 0 (λ ha _. let l = mod-le a (common_divisor b n) in omega arith) positive

  pub residue_outside_left : (a b : ℕ) → n ≤ a → modular_residue n a b ≡ 0
  residue_outside_left a b h = both_within_outside_left n a b (a % common_divisor b n) 0 h

  pub residue_outside_right : (a b : ℕ) → n ≤ b → modular_residue n a b ≡ 0
  residue_outside_right a b h = both_within_outside_right n a b (a % common_divisor b n) 0 h

  pub residue_not_above : (a b : ℕ) → a < n → b < n → modular_residue n a b ≤ a
  residue_not_above a b ha hb = let e = residue_inside a b ha hb in let l = mod-le a (common_divisor b n) in omega arith

  -- a − c is alike a + (n − c)
  difference_alike : (a c : ℕ) → a < n → c < n → Alike n (modular_sum n a (modular_negative n c)) (a + (n - c))
  difference_alike a c ha hc = sum_alike n two a _ a (n - c) ha (negative_below n two c) refl (negative_alike n two c hc)

  pub residue_differs_by_multiple : (a b : ℕ) → a < n → b < n → Multiple n (modular_product n) (modular_sum n a (modular_negative n (modular_residue n a b))) b
  residue_differs_by_multiple a b ha hb =
      let d = common_divisor b n in
      let f = factor_exists b n positive in
      let r = modular_residue n a b in
      let is : r ≡ a % d = residue_inside a b ha hb in
      let whole = div-add-mod a d in
      let below = residue_below a b in
      let rest : Alike n (a + (n - r)) (d * (a / d)) = let e : a + (n - r) ≡ d * (a / d) + n = omega arith in ap (λ z. z % n) e ∙ add-mod_right (d * (a / d)) n in
      let scaled : Alike n (a / d * f.0 * b) (d * (a / d)) = ap (λ z. z % n) (omega arith) ∙ alike_times n (f.0 * b) d (a / d) f.1 ∙ ap (λ z. z % n) (mul_comm (a / d) d) in
      multiple_from n two _ b (a / d * f.0) (sum_below n two a _) hb (scaled ∙ sym rest ∙ sym (difference_alike a r ha below))

  pub residue_of_class : (a c b : ℕ) → a < n → c < n → b < n → Multiple n (modular_product n) (modular_sum n a (modular_negative n c)) b → modular_residue n a b ≡ modular_residue n c b
  residue_of_class a c b ha hc hb m =
      let d = common_divisor b n in
      let over = divisor_right b n positive in
      let q = multiple_alike n two _ b hb m in
      let gap : Alike n (q.0 * b) (a + (n - c)) = q.2 ∙ difference_alike a c ha hc in
      let none : Alike d (a + (n - c)) 0 = sym (alike_by_divisor n d (q.0 * b) (a + (n - c)) over gap) ∙ alike_zero d (q.0 * b) (dvd-mul_left_of_dvd d (divisor_left b n positive) q.0) in
      let full : Alike d (a + (n - c) + c) (0 + c) = alike_sum d (a + (n - c)) 0 c c none refl in
      let lifted : Alike d (a + n) a = alike_sum d a a n 0 refl (alike_zero d n over) ∙ ap (λ z. z % d) (omega arith) in
      let sides : a % d ≡ c % d = sym lifted ∙ ap (λ z. z % d) (omega arith) ∙ full ∙ ap (λ z. z % d) (omega arith) in
      residue_inside a b ha hb ∙ sides ∙ sym (residue_inside c b hc hb)

  -- a code that b divides is divided by all that divides b and n
  carried : (b c : ℕ) → b < n → Multiple n (modular_product n) c b → Within b n c n
  carried b c hb m e h k = let q = multiple_alike n two c b hb m in (divides_alike n e (q.0 * b) c k q.2 (dvd-mul_left_of_dvd e h q.0), k)

  pub residue_by_associate : (a b c : ℕ) → a < n → b < n → c < n → Multiple n (modular_product n) b c → Multiple n (modular_product n) c b → modular_residue n a b ≡ modular_residue n a c
  residue_by_associate a b c ha hb hc m k =
      residue_inside a b ha hb
      ∙ ap (λ z. a % z) (same_divisors b n c n positive positive (carried b c hb k) (carried c b hc m))
      ∙ sym (residue_inside a c ha hc)
