-- The least number below a bound that passes a test, and the greatest up to a bound.
use Rattle.std.specs.Prelude.{ℕ, zero, suc, Bool, cond, Some, None, Option}

-- the first of two answers that there is
abbrev pub or_else : Option ℕ → Option ℕ → Option ℕ
or_else (Some x) o = Some x
or_else None o = o

-- the least number below the bound that passes the test, or none
unfoldable pub least : (ℕ → Bool) → ℕ → Option ℕ
least test zero = None
least test (suc n) = or_else (least test n) (cond (test n) (Some n) None)

-- the greatest number from 1 to the bound that passes the test, or 0
unfoldable pub greatest : (ℕ → Bool) → ℕ → ℕ
greatest test zero = 0
greatest test (suc n) = cond (test (suc n)) (suc n) (greatest test n)
