-- When a line is no text, and what is printed of a fault.
use Rattle.std.specs.Prelude.{◌≡◌, ℕ, Bool, true, false, List, codes, IsUtf8}
use Rattle.script.specs.declared.fault.Fault.{Fault}
use Rattle.script.specs.declared.fault.Fault.TheVariants as fault

-- why a line is no text: it is too long, or its bytes are no UTF-8
abbrev pub NoText : Fault → (too_long : Bool) → (bytes : List ℕ) → Type 0
NoText fault.LineTooLong too_long bytes = too_long ≡ true
NoText fault.NotUtf8 too_long bytes = (too_long ≡ false) × (IsUtf8 bytes → ⊥)
NoText fault.UnknownCommand too_long bytes = ⊥
NoText fault.UnknownWord too_long bytes = ⊥
NoText fault.MissingWord too_long bytes = ⊥
NoText fault.ExtraWord too_long bytes = ⊥
NoText fault.NotANumber too_long bytes = ⊥
NoText fault.NumberTooLarge too_long bytes = ⊥
NoText fault.NotPacked too_long bytes = ⊥

-- why a line is no command
abbrev pub text_of_fault : Fault → List ℕ
text_of_fault fault.LineTooLong = codes "line too long"
text_of_fault fault.NotUtf8 = codes "not UTF-8"
text_of_fault fault.UnknownCommand = codes "unknown command"
text_of_fault fault.UnknownWord = codes "unknown word"
text_of_fault fault.MissingWord = codes "missing word"
text_of_fault fault.ExtraWord = codes "extra word"
text_of_fault fault.NotANumber = codes "not a number"
text_of_fault fault.NumberTooLarge = codes "number too large"
text_of_fault fault.NotPacked = codes "not 16 hexadecimal digits"
