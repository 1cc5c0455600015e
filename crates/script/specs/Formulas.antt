-- The words of a formula: packed monomials up to the word `/` or the end of the line, or the word `0`.
use Rattle.std.specs.Prelude.{ℕ, zero, suc, Bool, cond, ◌&&◌, List, [], ◌∷◌, length, take, Some, None, Ok, Err, Option, Result, ◌==◌, slice_index}
use Rattle.term.specs.declared.monomial.Monomial.{Monomial}
use Rattle.script.specs.declared.fault.Fault.{Fault}
use Rattle.script.specs.declared.fault.Fault.TheVariants.{MissingWord, ExtraWord}
use Rattle.script.specs.Hexadecimal.{packed_in}
use Rattle.script.specs.Listed.{max_listed}
use Rattle.script.specs.Words.{after_word, word}

-- whether a word is one byte
abbrev pub is_byte : ℕ → List ℕ → Bool
is_byte byte w = length w == 1 && slice_index w 0 == byte

-- that a word is `/`
abbrev pub slash_word : Option (List ℕ) → Result (Unit {0}) Fault
slash_word None = Err MissingWord
slash_word (Some w) = cond (is_byte 47 w) (Ok tt) (Err ExtraWord)

-- a word, unless it is `/`
abbrev pub unless_slash : Option (List ℕ) → Option (List ℕ)
unless_slash None = None
unless_slash (Some w) = cond (is_byte 47 w) None (Some w)

-- the next word of this part of a line
abbrev pub part_word : List ℕ → Option (List ℕ)
part_word bs = unless_slash (word bs)

-- a monomial in front of the others
abbrev pub in_front : Result Monomial Fault → Result (List Monomial) Fault → Result (List Monomial) Fault
in_front (Err fault) rest = Err fault
in_front (Ok m) (Err fault) = Err fault
in_front (Ok m) (Ok f) = Ok (m ∷ f)

-- the next word as a monomial in front of those that follow, and nothing where the part ends
abbrev pub listed_from : Option (List ℕ) → Result (List Monomial) Fault → Result (List Monomial) Fault
listed_from None rest = Ok []
listed_from (Some w) rest = in_front (packed_in w) rest

-- the first n words of this part as monomials
abbrev pub words_as_monomials : ℕ → List ℕ → Result (List Monomial) Fault
words_as_monomials zero bs = Ok []
words_as_monomials (suc n) bs = listed_from (part_word bs) (words_as_monomials n (after_word bs))

-- all words of this part as monomials: there are not more words than bytes
abbrev pub monomials_in : List ℕ → Result (List Monomial) Fault
monomials_in bs = words_as_monomials (length bs) bs

-- a formula: one word at least, and the word `0` is the empty formula
abbrev pub formula_from : Option (List ℕ) → List ℕ → Result (List Monomial) Fault
formula_from None bs = Err MissingWord
formula_from (Some w) bs = cond (is_byte 48 w) (Ok []) (monomials_in bs)

abbrev pub formula_in : List ℕ → Result (List Monomial) Fault
formula_in bs = formula_from (part_word bs) bs

-- what is left of a line after the first n words of this part
abbrev pub left_from : Option (List ℕ) → (here further : List ℕ) → List ℕ
left_from None here further = here
left_from (Some w) here further = further

abbrev pub left_after : ℕ → List ℕ → List ℕ
left_after zero bs = bs
left_after (suc n) bs = left_from (part_word bs) bs (left_after n (after_word bs))

-- after all words of this part
abbrev pub after_part : List ℕ → List ℕ
after_part bs = left_after (length bs) bs

-- and after a formula, of which the word `0` is one
abbrev pub left_of_formula : Option (List ℕ) → List ℕ → List ℕ
left_of_formula None bs = bs
left_of_formula (Some w) bs = cond (is_byte 48 w) (after_word bs) (after_part bs)

abbrev pub after_formula : List ℕ → List ℕ
after_formula bs = left_of_formula (part_word bs) bs

-- as many of the monomials as are kept
abbrev pub first_listed : Result (List Monomial) Fault → Result (List Monomial) Fault
first_listed (Ok f) = Ok (take max_listed f)
first_listed (Err fault) = Err fault
