-- The turns of Euclid's algorithm for b and n, with the factor by which b gives each remainder modulo n.
use Rattle.std.proofs.Common.{◌≡◌, ℕ, zero, suc, ◌+◌, ◌-◌, ◌*◌, ◌/◌, ◌%◌, ◌<◌, ◌≤◌, sym, refl, ap, ◌∙◌, mod-lt, one-mul, zero-mul, arith}
use native.Mathlib.Nat.{mod-mod, mod_self, div-add-mod, mod-add-mod, add-mod_right}
use Rattle.modular.specs.Divisor.{common_divisor}
use Rattle.modular.proofs.Divisors.{divisor_turn, divisor_of_rest, divisor_of_zero}
use Rattle.modular.proofs.Congruences.{Alike, alike_sum, alike_times, alike_product, alike_cancel}

-- r and s are two remainders in a row, x·b is alike r and y·b is alike s
pub record Turn (b n r s x y : ℕ) : Type 0 where
  pub positive : 0 < r
  pub same : common_divisor s r ≡ common_divisor b n
  pub first : Alike n (x * b) r
  pub second : Alike n (y * b) s

-- x less q·y, modulo n
abbrev pub less_multiple : (n x q y : ℕ) → ℕ
less_multiple n x q y = (x + (n - q * y % n)) % n

pub turn_start : (b n : ℕ) → 0 < n → Turn b n n (b % n) 0 1
turn_start b n p = record {
  positive = p;
  same = divisor_of_rest b n p;
  first = ap (λ z. z % n) (zero-mul b) ∙ native.Mathlib.Nat.zero-mod n ∙ sym (mod_self n);
  second = ap (λ z. z % n) (one-mul b) ∙ sym (mod-mod b n);
}

back : (n x q y : ℕ) → 0 < n → Alike n (less_multiple n x q y + q * y) x
back n x q y p =
    let below = mod-lt (q * y) p in
    let whole = div-add-mod (q * y) n in
    let come : x + (n - q * y % n) + q * y ≡ x + n * (q * y / n) + n = omega arith in
    mod-add-mod (x + (n - q * y % n)) n (q * y) ∙ ap (λ z. z % n) come ∙ add-mod_right (x + n * (q * y / n)) n ∙ ap (λ z. z % n) (omega arith) ∙ native.Mathlib.Nat.mul-add-mod_self_left n (q * y / n) x

-- the next factor gives the next remainder
next : (b n r s x y : ℕ) → 0 < n → Alike n (x * b) r → Alike n (y * b) s → Alike n (less_multiple n x (r / s) y * b) (r % s)
next b n r s x y p h k =
    let q = r / s in
    let z = less_multiple n x q y in
    let whole = div-add-mod r s in
    let taken : Alike n (q * y * b) (q * s) = ap (λ w. w % n) (omega arith) ∙ alike_times n (y * b) s q k in
    let given : Alike n (z * b + q * y * b) (x * b) = ap (λ w. w % n) (omega arith) ∙ alike_product n (z + q * y) x b b (back n x q y p) refl in
    let left : Alike n (z * b + q * s) (z * b + q * y * b) = alike_sum n (z * b) (z * b) (q * s) (q * y * b) refl (sym taken) in
    alike_cancel n (z * b) (r % s) (q * s) p (left ∙ given ∙ h ∙ ap (λ w. w % n) (omega arith))

pub turn_more : (b n r s x y : ℕ) → 0 < n → 0 < s → Turn b n r s x y → Turn b n s (r % s) y (less_multiple n x (r / s) y)
turn_more b n r s x y p q t = record {
  positive = q;
  same = divisor_turn r s t.positive q ∙ t.same;
  first = t.second;
  second = next b n r s x y p t.first t.second;
}

pub turn_end : (b n r s x y : ℕ) → s ≤ 0 → Turn b n r s x y → r ≡ common_divisor b n
turn_end b n r s x y h t =
    let none : s ≡ 0 = omega arith in
    sym (divisor_of_zero r t.positive) ∙ ap (λ z. common_divisor z r) (sym none) ∙ t.same

-- a number whose product with b is alike the greatest common divisor of b and n
abbrev pub Factor : (b n w : ℕ) → Type 0
Factor b n w = Alike n (w * b) (common_divisor b n)

pub turn_factor : (b n r s x y : ℕ) → s ≤ 0 → Turn b n r s x y → Factor b n x
turn_factor b n r s x y h t = t.first ∙ ap (λ z. z % n) (turn_end b n r s x y h t)

follow : (fuel b n r s x y : ℕ) → 0 < n → s < fuel → Turn b n r s x y → (w : ℕ) × Factor b n w
follow zero b n r s x y p l t = absurd (omega arith)
follow (suc fuel) b n r zero x y p l t = (x, turn_factor b n r 0 x y (omega arith) t)
follow (suc fuel) b n r (suc s) x y p l t =
    let below = mod-lt r {m = suc s} (omega arith) in
    follow fuel b n (suc s) (r % suc s) y (less_multiple n x (r / suc s) y) p (omega arith) (turn_more b n r (suc s) x y p (omega arith) t)

pub factor_exists : (b n : ℕ) → 0 < n → (w : ℕ) × Factor b n w
factor_exists b n p = follow (suc (b % n)) b n n (b % n) 0 1 p (omega arith) (turn_start b n p)
