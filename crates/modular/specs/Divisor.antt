-- Greatest common divisors of whole numbers.
use Rattle.std.specs.Prelude.{ℕ, ◌%◌, Bool, ◌&&◌, ◌==◌}
use Rattle.modular.specs.Least.{greatest}

-- whether d, not 0, divides a
abbrev pub divides : ℕ → ℕ → Bool
divides d a = a % d == 0

-- the greatest number that divides both a and n, where n is not 0; that of 0 and n is n
unfoldable pub common_divisor : ℕ → ℕ → ℕ
common_divisor a n = greatest (λ d. divides d a && divides d n) n
