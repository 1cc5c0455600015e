-- The greatest common divisor: it divides both numbers, and numbers with the same common divisors have the same greatest.
use Rattle.std.proofs.Common.{◌≡◌, ℕ, ◌%◌, ◌<◌, ◌≤◌, Bool, true, ◌&&◌, arith}
use Prim.Native.Nat.{◌∣◌}
use native.Mathlib.Nat.{le_of_dvd, dvd_of_mod-eq-zero, mod-eq-zero_of_dvd, dvd_refl, dvd-zero, dvd-mod_iff, one-dvd}
use Rattle.std.proofs.lemmas.Bool.{and_parts, and_from, eqb-true, eq-eqb}
use Rattle.modular.specs.Divisor.{divides, common_divisor}
use Rattle.modular.proofs.Leasts.{Greatest, greatest_is}

abbrev both : (a n d : ℕ) → Bool
both a n d = divides d a && divides d n

pub divides_true : (d a : ℕ) → d ∣ a → divides d a ≡ true
divides_true d a h = eq-eqb (a % d) 0 (mod-eq-zero_of_dvd d h)

pub true_divides : (d a : ℕ) → divides d a ≡ true → d ∣ a
true_divides d a e = dvd_of_mod-eq-zero d (eqb-true (a % d) 0 e)

found : (a n : ℕ) → Greatest (both a n) n (common_divisor a n)
unfolding common_divisor
found a n = greatest_is (both a n) n

pub divisor_greatest : (a n e : ℕ) → 0 < n → 0 < e → e ∣ a → e ∣ n → e ≤ common_divisor a n
divisor_greatest a n e p q h k = (found a n).above e q (le_of_dvd p k) (and_from _ _ (divides_true e a h) (divides_true e n k))

pub divisor_positive : (a n : ℕ) → 0 < n → 0 < common_divisor a n
divisor_positive a n p = divisor_greatest a n 1 p (omega arith) (one-dvd a) (one-dvd n)

parts : (a n : ℕ) → 0 < n → (divides (common_divisor a n) a ≡ true) × (divides (common_divisor a n) n ≡ true)
parts a n p = and_parts _ _ ((found a n).passes (divisor_positive a n p))

pub divisor_left : (a n : ℕ) → 0 < n → common_divisor a n ∣ a
divisor_left a n p = true_divides _ a (parts a n p).0

pub divisor_right : (a n : ℕ) → 0 < n → common_divisor a n ∣ n
divisor_right a n p = true_divides _ n (parts a n p).1

pub divisor_at_most : (a n : ℕ) → common_divisor a n ≤ n
divisor_at_most a n = (found a n).at_most

-- whatever divides a and n divides b and m
abbrev pub Within : (a n b m : ℕ) → Type 0
Within a n b m = (e : ℕ) → e ∣ a → e ∣ n → (e ∣ b) × (e ∣ m)

not_above : (a n b m : ℕ) → 0 < n → 0 < m → Within a n b m → common_divisor a n ≤ common_divisor b m
not_above a n b m p q h =
    let k = h (common_divisor a n) (divisor_left a n p) (divisor_right a n p) in
    divisor_greatest b m (common_divisor a n) q (divisor_positive a n p) k.0 k.1

pub same_divisors : (a n b m : ℕ) → 0 < n → 0 < m → Within a n b m → Within b m a n → common_divisor a n ≡ common_divisor b m
same_divisors a n b m p q h k = let x = not_above a n b m p q h in let y = not_above b m a n q p k in omega arith

pub divisor_of_zero : (n : ℕ) → 0 < n → common_divisor 0 n ≡ n
divisor_of_zero n p = let x = divisor_greatest 0 n n p p (dvd-zero n) (dvd_refl n) in let y = divisor_at_most 0 n in omega arith

-- one turn of Euclid's algorithm
pub divisor_turn : (r s : ℕ) → 0 < r → 0 < s → common_divisor (r % s) s ≡ common_divisor s r
divisor_turn r s p q = same_divisors (r % s) s s r q p (λ e h k. (k, (dvd-mod_iff e k).0 h)) (λ e h k. ((dvd-mod_iff e h).1 k, h))

pub divisor_of_rest : (a n : ℕ) → 0 < n → common_divisor (a % n) n ≡ common_divisor a n
divisor_of_rest a n p = same_divisors (a % n) n a n p p (λ e h k. ((dvd-mod_iff e k).0 h, k)) (λ e h k. ((dvd-mod_iff e k).1 h, k))

-- past every number there is no divisor
pub divisor_by_none : (a n : ℕ) → n ≡ 0 → common_divisor a n ≡ 0
divisor_by_none a n e = let l = divisor_at_most a n in omega arith
