-- The gcd modulo n: the least cofactors are solutions, and g is the combination that they make.
use Rattle.std.proofs.Common.{◌≡◌, ℕ, ◌+◌, ◌-◌, ◌*◌, ◌%◌, ◌<◌, true, is_some, Some, None, Option, unwrap_or, sym, refl, ap, ◌∙◌, arith}
use Prim.Native.Nat.{◌∣◌}
use native.Mathlib.Nat.{dvd_refl, dvd_trans, dvd-mul_left_of_dvd}
use Rattle.std.proofs.lemmas.Bool.{eqb-true, eq-eqb}
use Rattle.modular.specs.Least.{least}
use Rattle.modular.specs.Divisor.{common_divisor}
use Rattle.modular.specs.Modular.{multiplier, divisor_of_three, combines, left_cofactor, right_cofactor}
use Rattle.modular.proofs.Leasts.{Sought, least_sought, least_is, least_some}
use Rattle.modular.proofs.Divisors.{divisor_positive, divisor_left, divisor_right, divisor_at_most}
use Rattle.modular.proofs.Congruences.{Alike, alike_sum, alike_cancel, alike_by_divisor, alike_zero, zero_alike, filled}
use Rattle.modular.proofs.Multipliers.{multiplier_found, multiplier_solves}

module _ (n a b : ℕ) (positive : 0 < n) where
  abbrev d : ℕ
  d = common_divisor b n

  abbrev g : ℕ
  g = divisor_of_three n a b

  pub right_positive : 0 < d
  right_positive = divisor_positive b n positive

  -- what v·b has to be alike so that u·a + v·b is alike g
  abbrev pub missing : ℕ → ℕ
  missing u = g + (n - u * a % n)

  missing_fills : (u : ℕ) → Alike n (missing u + u * a) g
  missing_fills u = ap (λ z. z % n) (omega arith) ∙ alike_sum n g g (u * a + (n - u * a % n)) 0 refl (filled n (u * a) positive) ∙ ap (λ z. z % n) (omega arith)

  -- v completes u exactly if v·b is alike what is missing
  completes : (u v : ℕ) → Alike n (v * b) (missing u) → Alike n (u * a + v * b) g
  completes u v h = ap (λ z. z % n) (omega arith) ∙ alike_sum n (v * b) (missing u) (u * a) (u * a) h refl ∙ missing_fills u

  completed : (u v : ℕ) → Alike n (u * a + v * b) g → Alike n (v * b) (missing u)
  completed u v h = alike_cancel n (v * b) (missing u) (u * a) positive (ap (λ z. z % n) (omega arith) ∙ h ∙ sym (missing_fills u))

  -- u can be completed exactly if u·a is alike g modulo the divisor of b and n
  divides_missing : (u : ℕ) → Alike d (u * a) g → d ∣ missing u
  divides_missing u h =
      let full : Alike d (missing u + u * a) g = alike_by_divisor n d (missing u + u * a) g (divisor_right b n positive) (missing_fills u) in
      zero_alike d (missing u) (alike_cancel d (missing u) 0 (u * a) right_positive (full ∙ sym h ∙ ap (λ z. z % d) (omega arith)))

  completable : (u : ℕ) → Alike d (u * a) g → is_some (least (combines n a b u) n) ≡ true
  completable u h =
      let f = multiplier_found b n positive (missing u) (divides_missing u h) in
      let s = multiplier_solves b n (missing u) f.0 f.1 in
      some_since (least (combines n a b u) n) (least_sought (combines n a b u) n) f.0 s.0 (eq-eqb _ _ (completes u f.0 s.1))
    where
      some_since : (o : Option ℕ) → Sought (combines n a b u) n o → (v : ℕ) → v < n → combines n a b u v ≡ true → is_some o ≡ true
      some_since None k v l t = absurd (k v l t)
      some_since (Some x) k v l t = refl

  completable_only : (u : ℕ) → is_some (least (combines n a b u) n) ≡ true → Alike d (u * a) g
  completable_only u t = go (least (combines n a b u) n) refl t
    where
      solved : (v : ℕ) → Alike n (u * a + v * b) g → Alike d (u * a) g
      solved v h =
          let low : Alike d (u * a + v * b) g = alike_by_divisor n d (u * a + v * b) g (divisor_right b n positive) h in
          let gone : Alike d (v * b) 0 = alike_zero d (v * b) (dvd-mul_left_of_dvd d (divisor_left b n positive) v) in
          ap (λ z. z % d) (omega arith) ∙ sym (alike_sum d (u * a) (u * a) (v * b) 0 refl gone) ∙ low

      go : (o : Option ℕ) → least (combines n a b u) n ≡ o → is_some o ≡ true → Alike d (u * a) g
      go None e t = cc
      go (Some v) e t = solved v (eqb-true _ _ (least_some (combines n a b u) n v e).1)

  -- the least u solves u·a = g modulo the divisor of b and n
  left_sought : (x : ℕ) → multiplier d a g ≡ Some x → least (λ u. is_some (least (combines n a b u) n)) n ≡ Some x
  left_sought x e =
      let s = multiplier_solves a d g x e in
      let most = divisor_at_most b n in
      let below = s.0 in
      least_is (λ u. is_some (least (combines n a b u) n)) n (Some x) (omega arith, completable x s.1, λ y l t. s.2 y l (completable_only y t))

  pub left_found : (x : ℕ) × (multiplier d a g ≡ Some x)
  left_found = multiplier_found a d right_positive g (dvd_refl g)

  pub left_is : left_cofactor n a b ≡ unwrap_or (multiplier d a g) 0
  left_is = ap (λ o. unwrap_or o 0) (left_sought left_found.0 left_found.1 ∙ sym left_found.1)

  left_solves : Alike d (left_cofactor n a b * a) g
  left_solves =
      let e : left_cofactor n a b ≡ left_found.0 = left_is ∙ ap (λ o. unwrap_or o 0) left_found.1 in
      ap (λ z. (z * a) % d) e ∙ (multiplier_solves a d g left_found.0 left_found.1).1

  pub left_below : left_cofactor n a b < n
  left_below =
      let e : left_cofactor n a b ≡ left_found.0 = left_is ∙ ap (λ o. unwrap_or o 0) left_found.1 in
      let below = (multiplier_solves a d g left_found.0 left_found.1).0 in
      let most = divisor_at_most b n in
      omega arith

  -- the least v solves v·b = what is missing, modulo n
  pub right_found : (x : ℕ) × (multiplier n b (missing (left_cofactor n a b)) ≡ Some x)
  right_found = multiplier_found b n positive (missing (left_cofactor n a b)) (divides_missing (left_cofactor n a b) left_solves)

  right_sought : (u x : ℕ) → multiplier n b (missing u) ≡ Some x → least (combines n a b u) n ≡ Some x
  right_sought u x e =
      let s = multiplier_solves b n (missing u) x e in
      least_is (combines n a b u) n (Some x) (s.0, eq-eqb _ _ (completes u x s.1), λ y l t. s.2 y l (completed u y (eqb-true _ _ t)))

  pub right_is : right_cofactor n a b ≡ unwrap_or (multiplier n b (missing (left_cofactor n a b))) 0
  right_is = ap (λ o. unwrap_or o 0) (right_sought (left_cofactor n a b) right_found.0 right_found.1 ∙ sym right_found.1)

  right_value : right_cofactor n a b ≡ right_found.0
  right_value = right_is ∙ ap (λ o. unwrap_or o 0) right_found.1

  pub right_below : right_cofactor n a b < n
  right_below = let e = right_value in let below = (multiplier_solves b n (missing (left_cofactor n a b)) right_found.0 right_found.1).0 in omega arith

  pub cofactors_combine : Alike n (left_cofactor n a b * a + right_cofactor n a b * b) g
  cofactors_combine =
      completes (left_cofactor n a b) (right_cofactor n a b)
      (ap (λ z. (z * b) % n) right_value ∙ (multiplier_solves b n (missing (left_cofactor n a b)) right_found.0 right_found.1).1)

  -- the divisor of the three numbers divides each of them
  pub divides_first : g ∣ a
  divides_first = divisor_left a d right_positive

  pub divides_second : g ∣ b
  divides_second = dvd_trans g (divisor_right a d right_positive) (divisor_left b n positive)
