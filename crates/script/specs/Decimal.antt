-- Decimal numbers: digits only, no sign.
use Rattle.std.specs.Prelude.{ℕ, ◌+◌, ◌-◌, ◌*◌, cond, List, [], ◌∷◌, Ok, Err, Result, nat_le}
use Rattle.std.specs.Char.{is_ascii_digit}
use Rattle.script.specs.declared.fault.Fault.{Fault}
use Rattle.script.specs.declared.fault.Fault.TheVariants.{NotANumber, NumberTooLarge}

-- the number that digits write after those of n, at most `most`
abbrev pub number_after : ℕ → ℕ → List ℕ → Result ℕ Fault
number_after most n [] = cond (nat_le n most) (Ok n) (Err NumberTooLarge)
number_after most n (c ∷ cs) = cond (is_ascii_digit c) (number_after most (n * 10 + (c - 48)) cs) (Err NotANumber)

-- the number that a word writes: one digit or more, and nothing else
abbrev pub number_in : ℕ → List ℕ → Result ℕ Fault
number_in most [] = Err NotANumber
number_in most (c ∷ cs) = number_after most 0 (c ∷ cs)
