-- Packed monomials as 16 hexadecimal digits of either case.
use Rattle.std.specs.Prelude.{ℕ, ◌+◌, ◌*◌, cond, List, [], ◌∷◌, length, Ok, Err, Result, ◌==◌}
use Rattle.std.specs.Char.{digit_value, is_digit}
use Rattle.term.specs.declared.monomial.Monomial.{Monomial}
use Rattle.script.specs.declared.fault.Fault.{Fault}
use Rattle.script.specs.declared.fault.Fault.TheVariants.{NotPacked}

-- the number that hexadecimal digits of either case write after those of n
abbrev pub packed_after : ℕ → List ℕ → Result Monomial Fault
packed_after n [] = Ok (record { bits = n })
packed_after n (c ∷ cs) = cond (is_digit c 16) (packed_after (n * 16 + digit_value c) cs) (Err NotPacked)

-- the packed monomial that a word writes: 16 digits
abbrev pub packed_in : List ℕ → Result Monomial Fault
packed_in word = cond (length word == 16) (packed_after 0 word) (Err NotPacked)
