-- Arithmetic modulo n on the codes 0 to n − 1.
use Rattle.std.specs.Prelude.{ℕ, ◌+◌, ◌-◌, ◌*◌, ◌/◌, ◌%◌, Bool, cond, is_some, Some, None, Option, ◌==◌, nat_eq}
use Rattle.std.specs.Option.{unwrap_or}
use Rattle.ring.specs.declared.Bezout.{Bezout}
use Rattle.ring.specs.Within.{within, both_within}
use Rattle.modular.specs.Least.{least}
use Rattle.modular.specs.Divisor.{common_divisor}

-- the number of a residue ring's kind
abbrev pub residue_kind : ℕ
residue_kind = 1

module _ (n : ℕ) where
  abbrev pub modular_sum : ℕ → ℕ → ℕ
  modular_sum a b = both_within n a b ((a + b) % n) 0

  abbrev pub modular_negative : ℕ → ℕ
  modular_negative a = within n a ((n - a) % n) 0

  abbrev pub modular_product : ℕ → ℕ → ℕ
  modular_product a b = both_within n a b ((a * b) % n) 0

  -- the least x below n for which x·b and c are alike modulo n, or none
  abbrev pub multiplier : ℕ → ℕ → Option ℕ
  multiplier b c = least (λ x. nat_eq (x * b % n) (c % n)) n

  -- the least q with q·b = a, but one where a is b
  abbrev pub modular_quotient : ℕ → ℕ → Option ℕ
  modular_quotient a b = both_within n a b (cond (a == b) (Some 1) (multiplier b a)) None

  -- the greatest common divisor of the numbers a, b and n
  abbrev pub divisor_of_three : ℕ → ℕ → ℕ
  divisor_of_three a b = common_divisor a (common_divisor b n)

  -- whether u·a + v·b is that divisor, modulo n
  abbrev pub combines : (a b u v : ℕ) → Bool
  combines a b u v = (u * a + v * b) % n == divisor_of_three a b % n

  -- the least u for which there is a v
  abbrev pub left_cofactor : ℕ → ℕ → ℕ
  left_cofactor a b = unwrap_or (least (λ u. is_some (least (combines a b u) n)) n) 0

  -- the least v for that u
  abbrev pub right_cofactor : ℕ → ℕ → ℕ
  right_cofactor a b = unwrap_or (least (combines a b (left_cofactor a b)) n) 0

  abbrev pub modular_gcd : ℕ → ℕ → Bezout
  modular_gcd a b = both_within n a b (record { g = divisor_of_three a b % n; u = left_cofactor a b; v = right_cofactor a b }) (record { g = 0; u = 0; v = 0 })

  abbrev pub modular_annihilator : ℕ → ℕ
  modular_annihilator a = within n a (n / common_divisor a n % n) 0

  abbrev pub modular_residue : ℕ → ℕ → ℕ
  modular_residue a b = both_within n a b (a % common_divisor b n) 0
