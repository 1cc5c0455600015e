-- Numbers that are alike modulo n.
use Rattle.std.proofs.Common.{◌≡◌, ℕ, ◌+◌, ◌-◌, ◌*◌, ◌/◌, ◌%◌, ◌<◌, sym, refl, ap, ◌∙◌, ap₂, mod-lt, arith}
use Prim.Native.Nat.{◌∣◌}
use Rattle.std.proofs.Math.Nat.{add-mod}
use Rattle.std.proofs.lemmas.Nat.{mul-mod}
use native.Mathlib.Nat.{mod-add-mod, add-mod-mod, add-mod_right, div-add-mod, mul-add-mod_self_left, mod-mod_of_dvd, mul-mod_right, dvd_of_mod-eq-zero, mod-eq-zero_of_dvd}

-- a and b are alike modulo n
abbrev pub Alike : (n a b : ℕ) → Type 0
Alike n a b = a % n ≡ b % n

pub alike_sum : (n a b c d : ℕ) → Alike n a b → Alike n c d → Alike n (a + c) (b + d)
alike_sum n a b c d h k = add-mod a c n ∙ ap₂ (λ x y. (x + y) % n) h k ∙ sym (add-mod b d n)

pub alike_product : (n a b c d : ℕ) → Alike n a b → Alike n c d → Alike n (a * c) (b * d)
alike_product n a b c d h k = mul-mod a c n ∙ ap₂ (λ x y. (x * y) % n) h k ∙ sym (mul-mod b d n)

pub alike_times : (n a b c : ℕ) → Alike n a b → Alike n (c * a) (c * b)
alike_times n a b c h = alike_product n c c a b refl h

-- c and what is missing from it to a multiple of n come to nothing
pub filled : (n c : ℕ) → 0 < n → Alike n (c + (n - c % n)) 0
filled n c p =
    let whole = div-add-mod c n in
    let below = mod-lt c p in
    let come : c + (n - c % n) ≡ n * (c / n) + n = omega arith in
    ap (λ x. x % n) come ∙ add-mod_right (n * (c / n)) n ∙ mul-mod_right n (c / n) ∙ sym (zero_alike n)
  where
    zero_alike : (n : ℕ) → 0 % n ≡ 0
    zero_alike n = native.Mathlib.Nat.zero-mod n

pub alike_cancel : (n a b c : ℕ) → 0 < n → Alike n (a + c) (b + c) → Alike n a b
alike_cancel n a b c p h = sym (undone a) ∙ alike_sum n (a + c) (b + c) (n - c % n) (n - c % n) h refl ∙ undone b
  where
    undone : (x : ℕ) → Alike n (x + c + (n - c % n)) x
    undone x = ap (λ y. y % n) (omega arith) ∙ alike_sum n x x (c + (n - c % n)) 0 refl (filled n c p) ∙ ap (λ y. y % n) (omega arith)

-- alike modulo n is alike modulo each divisor of n
pub alike_by_divisor : (n d a b : ℕ) → d ∣ n → Alike n a b → Alike d a b
alike_by_divisor n d a b h k = sym (mod-mod_of_dvd d a h) ∙ ap (λ x. x % d) k ∙ mod-mod_of_dvd d b h

-- divisible by d is alike 0 modulo d
pub alike_zero : (d a : ℕ) → d ∣ a → Alike d a 0
alike_zero d a h = mod-eq-zero_of_dvd d h ∙ sym (native.Mathlib.Nat.zero-mod d)

pub zero_alike : (d a : ℕ) → Alike d a 0 → d ∣ a
zero_alike d a h = dvd_of_mod-eq-zero d (h ∙ native.Mathlib.Nat.zero-mod d)

-- what divides one of two alike numbers and n divides the other
pub divides_alike : (n d a b : ℕ) → d ∣ n → Alike n a b → d ∣ a → d ∣ b
divides_alike n d a b h k m = zero_alike d b (sym (alike_by_divisor n d a b h k) ∙ alike_zero d a m)
