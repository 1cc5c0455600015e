-- Listing one monomial more, and the words of a formula.
use Rattle.std.proofs.Common.{◌≡◌, ℕ, zero, suc, ◌+◌, ◌<◌, ◌≤◌, Bool, true, false, cond, List, [], ◌∷◌, ◌++◌, length, take, set, Some, None, Ok, Err, Option, Result, sym, refl, ap, ◌∙◌, arith}
use Rattle.term.specs.declared.monomial.Monomial.{Monomial}
use Rattle.script.specs.declared.fault.Fault.{Fault}
use Rattle.script.specs.Formulas.{after_part, left_after, left_from, in_front, is_byte, listed_from, monomials_in, part_word, unless_slash, words_as_monomials}
use Rattle.script.specs.Hexadecimal.{packed_in}
use Rattle.script.specs.Listed.{max_listed}
use Rattle.script.specs.Words.{after_word, word}
use Rattle.script.proofs.Scans.{word_shorter}
use Rattle.script.proofs.Takes.{take_of_take}
use Rattle.std.proofs.lemmas.List.{append_assoc, append-nil, length-append, length-take, length-take-le, take_all, take-append-le, take_more_set}

-- where there is room for it
pub listed_more : {X : Type 0} (most n : ℕ) (xs : List X) (x : X) → length xs ≡ most → n < most → take (n + 1) (set xs n x) ≡ take most (take n xs ++ (x ∷ []))
listed_more most n xs x e h =
    let z : length (take n xs ++ (x ∷ [])) ≤ most = simp (length-append, length-take) (omega arith) in
    take_more_set xs n x (omega arith) ∙ sym (take_all most (take n xs ++ (x ∷ [])) z)

-- where there is none
pub listed_full : {X : Type 0} (most n : ℕ) (xs : List X) (x : X) → length xs ≡ most → n ≡ most → take n xs ≡ take most (take n xs ++ (x ∷ []))
listed_full most n xs x e h =
    let z : length (take n xs) ≡ n = length-take-le n xs (omega arith) in
    sym (take-append-le most (take n xs) (x ∷ []) (omega arith) ∙ take_all most (take n xs) (omega arith))

-- what is listed already, with what is left, as many as are kept
abbrev pub listed_with : List Monomial → Result (List Monomial) Fault → Result (List Monomial) Fault
listed_with held (Ok f) = Ok (take max_listed (held ++ f))
listed_with held (Err fault) = Err fault

-- a word of this part is a word
part_word_is_word : (o : Option (List ℕ)) (w : List ℕ) → unless_slash o ≡ Some w → o ≡ Some w
part_word_is_word None w h = let z : ◌≡◌ {A = ℕ} 0 1 = cc in absurd (omega arith)
part_word_is_word (Some v) w h = at (is_byte 47 v) h
  where
    at : (b : Bool) → cond b None (Some v) ≡ Some w → Some v ≡ Some w
    at true k = let z : ◌≡◌ {A = ℕ} 0 1 = cc in absurd (omega arith)
    at false k = k

-- how many words are asked for does not count, if they are as many as the bytes
words_enough : (m n : ℕ) (bs : List ℕ) → length bs ≤ m → length bs ≤ n → words_as_monomials m bs ≡ words_as_monomials n bs
words_enough zero zero bs p q = refl
words_enough zero (suc n) [] p q = refl
words_enough zero (suc n) (b ∷ bs) p q = absurd (omega arith)
words_enough (suc m) zero [] p q = refl
words_enough (suc m) zero (b ∷ bs) p q = absurd (omega arith)
words_enough (suc m) (suc n) bs p q =
    at (part_word bs) refl (λ short. words_enough m n (after_word bs) (omega arith) (omega arith))
  where
    at : (o : Option (List ℕ)) → part_word bs ≡ o → (length (after_word bs) < length bs → words_as_monomials m (after_word bs) ≡ words_as_monomials n (after_word bs)) → listed_from o (words_as_monomials m (after_word bs)) ≡ listed_from o (words_as_monomials n (after_word bs))
    at None e rest = refl
    at (Some w) e rest = ap (in_front (packed_in w)) (rest (word_shorter w bs (part_word_is_word (word bs) w e)))

-- the words left of a part, one by one
monomials_more : (bs : List ℕ) (w : List ℕ) → part_word bs ≡ Some w → monomials_in bs ≡ in_front (packed_in w) (monomials_in (after_word bs))
monomials_more [] w e = let z : ◌≡◌ {A = ℕ} 0 1 = cc in absurd (omega arith)
monomials_more (b ∷ bs) w e =
    let short = word_shorter w (b ∷ bs) (part_word_is_word (word (b ∷ bs)) w e) in
    ap (λ o. listed_from o (words_as_monomials (length bs) (after_word (b ∷ bs)))) e ∙
    ap (in_front (packed_in w)) (words_enough (length bs) (length (after_word (b ∷ bs))) (after_word (b ∷ bs)) (omega arith) (omega arith))

monomials_all : (bs : List ℕ) → part_word bs ≡ None → monomials_in bs ≡ Ok []
monomials_all [] e = refl
monomials_all (b ∷ bs) e = ap (λ o. listed_from o (words_as_monomials (length bs) (after_word (b ∷ bs)))) e

-- a monomial that is listed goes behind what is listed already
listed_with_front : (held : List Monomial) (m : Monomial) (rest : Result (List Monomial) Fault) → listed_with (take max_listed (held ++ (m ∷ []))) rest ≡ listed_with held (in_front (Ok m) rest)
listed_with_front held m (Ok f) =
    ap Ok (take_of_take max_listed (held ++ (m ∷ [])) f ∙ ap (take max_listed) (append_assoc held (m ∷ []) f))
listed_with_front held m (Err fault) = refl

-- one word more, in the loop over the words
pub word_more : (held : List Monomial) (bs w : List ℕ) (m : Monomial) → part_word bs ≡ Some w → Ok m ≡ packed_in w → listed_with (take max_listed (held ++ (m ∷ []))) (monomials_in (after_word bs)) ≡ listed_with held (monomials_in bs)
word_more held bs w m e p =
    listed_with_front held m (monomials_in (after_word bs)) ∙
    ap (λ r. listed_with held (in_front r (monomials_in (after_word bs)))) p ∙
    ap (listed_with held) (sym (monomials_more bs w e))

-- a word that is no monomial
pub word_wrong : (held : List Monomial) (bs w : List ℕ) (fault : Fault) → part_word bs ≡ Some w → Err fault ≡ packed_in w → Err fault ≡ listed_with held (monomials_in bs)
word_wrong held bs w fault e p =
    ap (λ r. listed_with held (in_front r (monomials_in (after_word bs)))) p ∙
    ap (listed_with held) (sym (monomials_more bs w e))

-- a word makes what is left shorter
pub part_shorter : (bs w : List ℕ) → part_word bs ≡ Some w → length (after_word bs) < length bs
part_shorter bs w e = word_shorter w bs (part_word_is_word (word bs) w e)

-- no word is left
pub words_all : (held : List Monomial) (bs : List ℕ) → length held ≤ 65 → part_word bs ≡ None → Ok held ≡ listed_with held (monomials_in bs)
words_all held bs h e =
    ap Ok (sym (ap (take max_listed) (append-nil held) ∙ take_all max_listed held h)) ∙ ap (listed_with held) (sym (monomials_all bs e))

-- what is left is the same, however many words are asked for, if they are as many as the bytes
left_enough : (m n : ℕ) (bs : List ℕ) → length bs ≤ m → length bs ≤ n → left_after m bs ≡ left_after n bs
left_enough zero zero bs p q = refl
left_enough zero (suc n) [] p q = refl
left_enough zero (suc n) (b ∷ bs) p q = absurd (omega arith)
left_enough (suc m) zero [] p q = refl
left_enough (suc m) zero (b ∷ bs) p q = absurd (omega arith)
left_enough (suc m) (suc n) bs p q =
    at (part_word bs) refl (λ short. left_enough m n (after_word bs) (omega arith) (omega arith))
  where
    at : (o : Option (List ℕ)) → part_word bs ≡ o → (length (after_word bs) < length bs → left_after m (after_word bs) ≡ left_after n (after_word bs)) → left_from o bs (left_after m (after_word bs)) ≡ left_from o bs (left_after n (after_word bs))
    at None e rest = refl
    at (Some w) e rest = rest (word_shorter w bs (part_word_is_word (word bs) w e))

-- after a word of this part, and where there is none
pub after_part_more : (bs w : List ℕ) → part_word bs ≡ Some w → after_part (after_word bs) ≡ after_part bs
after_part_more [] w e = let z : ◌≡◌ {A = ℕ} 0 1 = cc in absurd (omega arith)
after_part_more (b ∷ bs) w e =
    let short = word_shorter w (b ∷ bs) (part_word_is_word (word (b ∷ bs)) w e) in
    left_enough (length (after_word (b ∷ bs))) (length bs) (after_word (b ∷ bs)) (omega arith) (omega arith) ∙
    sym (ap (λ o. left_from o (b ∷ bs) (left_after (length bs) (after_word (b ∷ bs)))) e)

pub after_part_all : (bs : List ℕ) → part_word bs ≡ None → bs ≡ after_part bs
after_part_all [] e = refl
after_part_all (b ∷ bs) e = sym (ap (λ o. left_from o (b ∷ bs) (left_after (length bs) (after_word (b ∷ bs)))) e)
