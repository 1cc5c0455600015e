-- The words of a line, which one or more spaces separate.
use Rattle.std.specs.Prelude.{ℕ, cond, List, [], ◌∷◌, take, drop, Some, None, Ok, Err, Option, Result, ◌==◌}
use Rattle.std.specs.List.{position_or_len}
use Rattle.script.specs.declared.fault.Fault.{Fault}
use Rattle.script.specs.declared.fault.Fault.TheVariants.{MissingWord, ExtraWord}
use Rattle.term.specs.declared.monomial.Monomial.{Monomial}
use Rattle.script.specs.Decimal.{number_in}
use Rattle.script.specs.Hexadecimal.{packed_in}

-- how many bytes stand before the first that is `stop`, or all of them
abbrev pub length_before : ℕ → List ℕ → ℕ
length_before stop bs = position_or_len (λ b. b == stop) bs

-- the byte of a space
abbrev pub space : ℕ
space = 32

-- what follows the spaces at the front
abbrev pub after_spaces : List ℕ → List ℕ
after_spaces [] = []
after_spaces (b ∷ bs) = cond (b == space) (after_spaces bs) (b ∷ bs)

-- the bytes up to the first space, none where there are none, and what follows them
abbrev pub front : List ℕ → Option (List ℕ)
front bs = cond (length_before space bs == 0) None (Some (take (length_before space bs) bs))

abbrev pub after_front : List ℕ → List ℕ
after_front bs = drop (length_before space bs) bs

-- the next word, if there is one, and what follows it
abbrev pub word : List ℕ → Option (List ℕ)
word bs = front (after_spaces bs)

abbrev pub after_word : List ℕ → List ℕ
after_word bs = after_front (after_spaces bs)

-- what was read, as something that could have been left out
abbrev pub optional : {A : Type 0} → Result A Fault → Result (Option A) Fault
optional (Ok read) = Ok (Some read)
optional (Err fault) = Err fault

-- the number at most `most` that a word reads as, if there is a word
abbrev pub number_of_word : ℕ → Option (List ℕ) → Result ℕ Fault
number_of_word most None = Err MissingWord
number_of_word most (Some w) = number_in most w

-- the same of a word that may be left out
abbrev pub number_of_optional : ℕ → Option (List ℕ) → Result (Option ℕ) Fault
number_of_optional most None = Ok None
number_of_optional most (Some w) = optional (number_in most w)

-- the packed monomial that a word reads as, if there is a word
abbrev pub packed_of_word : Option (List ℕ) → Result Monomial Fault
packed_of_word None = Err MissingWord
packed_of_word (Some w) = packed_in w

-- that there is no word
abbrev pub end_of_words : Option (List ℕ) → Result (Unit {0}) Fault
end_of_words None = Ok tt
end_of_words (Some w) = Err ExtraWord
