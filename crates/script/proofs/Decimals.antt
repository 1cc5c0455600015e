-- Reading a decimal number digit by digit.
use Rattle.std.proofs.Common.{◌≡◌, ℕ, ◌+◌, ◌-◌, ◌*◌, ◌<◌, ◌≤◌, min, true, false, cond, leb, List, [], ◌∷◌, length, get_or, drop, Ok, Err, sym, refl, ap, ◌∙◌, ⊎_elim, arith}
use Rattle.std.specs.Char.{is_ascii_digit}
use Rattle.std.proofs.lemmas.List.{at_drop_more, at_drop_all}
use Rattle.std.proofs.lemmas.Bool.{le-leb, lt-leb, cases_lt, cond-true, cond-false}
use Rattle.script.specs.declared.fault.Fault.TheVariants.{NotANumber, NumberTooLarge}
use Rattle.script.specs.Decimal.{number_after, number_in}

-- two numbers that are both too large read on alike
number_after_large : (most m n : ℕ) (cs : List ℕ) → most < m → most < n → number_after most m cs ≡ number_after most n cs
number_after_large most m n [] p q = rw (lt-leb m most p, lt-leb n most q)
number_after_large most m n (c ∷ cs) p q =
    ap (λ r. cond (is_ascii_digit c) r (Err NotANumber))
    (number_after_large most (m * 10 + (c - 48)) (n * 10 + (c - 48)) cs (omega arith) (omega arith))

-- so a number may be cut at one more than the most
number_after_cut : (most n : ℕ) (cs : List ℕ) → number_after most (min n (most + 1)) cs ≡ number_after most n cs
number_after_cut most n cs =
    ⊎_elim
    (λ p. number_after_large most (min n (most + 1)) n cs (omega arith) p)
    (λ p. let e : min n (most + 1) ≡ n = omega arith in ap (λ k. number_after most k cs) e)
    (cases_lt most n)

number_after_more : (most n i : ℕ) (xs : List ℕ) → i < length xs → number_after most n (drop i xs) ≡ cond (is_ascii_digit (get_or xs i 0)) (number_after most (n * 10 + (get_or xs i 0 - 48)) (drop (i + 1) xs)) (Err NotANumber)
number_after_more most n i xs h = at_drop_more (number_after most n) xs i 0 h

number_after_all : (most n i : ℕ) (xs : List ℕ) → length xs ≤ i → number_after most n (drop i xs) ≡ cond (leb n most) (Ok n) (Err NumberTooLarge)
number_after_all most n i xs h = at_drop_all (number_after most n) xs i h

-- one digit more
pub digit_more : (most n i : ℕ) (xs : List ℕ) → i < length xs → is_ascii_digit (get_or xs i 0) ≡ true → number_after most (min (n * 10 + (get_or xs i 0 - 48)) (most + 1)) (drop (i + 1) xs) ≡ number_after most n (drop i xs)
digit_more most n i xs h d =
    number_after_cut most (n * 10 + (get_or xs i 0 - 48)) (drop (i + 1) xs) ∙ sym (number_after_more most n i xs h ∙ cond-true _ _ _ d)

-- what is no digit
pub digit_none : (most n i : ℕ) (xs : List ℕ) → i < length xs → is_ascii_digit (get_or xs i 0) ≡ false → number_after most n (drop i xs) ≡ Err NotANumber
digit_none most n i xs h d = number_after_more most n i xs h ∙ cond-false _ _ _ d

-- after the last digit
pub digits_all : (most n i : ℕ) (xs : List ℕ) → length xs ≤ i → n ≤ most → number_after most n (drop i xs) ≡ Ok n
digits_all most n i xs h p = number_after_all most n i xs h ∙ cond-true _ _ _ (le-leb n most p)

pub digits_all_large : (most n i : ℕ) (xs : List ℕ) → length xs ≤ i → most < n → number_after most n (drop i xs) ≡ Err NumberTooLarge
digits_all_large most n i xs h p = number_after_all most n i xs h ∙ cond-false _ _ _ (lt-leb n most p)

-- a word that is not empty is read from 0
pub number_in_some : (most : ℕ) (xs : List ℕ) → 0 < length xs → number_in most xs ≡ number_after most 0 xs
number_in_some most [] h = absurd (omega (arith, h))
number_in_some most (x ∷ xs) h = refl
