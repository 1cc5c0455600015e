-- What Euclid's algorithm for b and n comes to, and how that solves x·b = c modulo n.
use Rattle.std.specs.Prelude.{◌≡◌, ℕ, ◌*◌, ◌/◌, ◌%◌, ◌<◌, ◌≤◌, cond, Some, None, Option, ◌==◌}
use Rattle.modular.specs.Divisor.{common_divisor}
use Rattle.modular.specs.Modular.{multiplier}

-- the least solution of x·b = c modulo n, from the greatest common divisor d of b and n and a factor w with w·b = d;
-- none where d does not divide c, or where n, and so d, is 0
abbrev pub solved : (n c d w : ℕ) → Option ℕ
solved n c d w = cond (d == 0) None (cond (c % d == 0) (Some (w * (c / d) % (n / d))) None)

-- d is the greatest common divisor of b and n, not 0, and with w it solves x·b = c for every c
pub record Solves (b n d w : ℕ) : Type 0 where
  pub divisor : d ≡ common_divisor b n
  pub at_most : d ≤ n
  pub positive : 0 < d
  pub period_positive : 0 < n / d
  pub solves : (c : ℕ) → multiplier n b c ≡ solved n c d w
