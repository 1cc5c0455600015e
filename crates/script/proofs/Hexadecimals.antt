-- Reading hexadecimal digits one by one.
use Rattle.std.proofs.Common.{◌≡◌, ℕ, ◌+◌, ◌*◌, ◌^◌, ◌<◌, ◌≤◌, true, false, cond, List, length, get_or, drop, Ok, Err, ◌∙◌, sym, pow-suc, add-one, arith, lit≤}
use Rattle.std.specs.Char.{digit_value, is_digit}
use native.Mathlib.Nat.{pow-le-pow_right}
use Rattle.std.proofs.lemmas.List.{at_drop_more, at_drop_all}
use Rattle.std.proofs.lemmas.Bool.{cond-true, cond-false, eq-eqb}
use Rattle.std.proofs.lemmas.Bool.Decides.{nat_tests}
use Rattle.script.specs.declared.fault.Fault.TheVariants.{NotPacked}
use Rattle.script.specs.Hexadecimal.{packed_after, packed_in}

packed_after_more : (n i : ℕ) (xs : List ℕ) → i < length xs → packed_after n (drop i xs) ≡ cond (is_digit (get_or xs i 0) 16) (packed_after (n * 16 + digit_value (get_or xs i 0)) (drop (i + 1) xs)) (Err NotPacked)
packed_after_more n i xs h = at_drop_more (packed_after n) xs i 0 h

-- one digit more
pub digit_more : (n i : ℕ) (xs : List ℕ) → i < length xs → digit_value (get_or xs i 0) < 16 → packed_after (n * 16 + digit_value (get_or xs i 0)) (drop (i + 1) xs) ≡ packed_after n (drop i xs)
digit_more n i xs h d =
    let t : is_digit (get_or xs i 0) 16 ≡ true = grind (arith, nat_tests) in
    sym (packed_after_more n i xs h ∙ cond-true _ _ _ t)

-- what is no digit
pub digit_none : (n i : ℕ) (xs : List ℕ) → i < length xs → 16 ≤ digit_value (get_or xs i 0) → packed_after n (drop i xs) ≡ Err NotPacked
digit_none n i xs h d =
    let t : is_digit (get_or xs i 0) 16 ≡ false = grind (arith, nat_tests) in
    packed_after_more n i xs h ∙ cond-false _ _ _ t

-- after the last digit
pub digits_all : (n i : ℕ) (xs : List ℕ) → length xs ≤ i → packed_after n (drop i xs) ≡ Ok (record { bits = n })
digits_all n i xs h = at_drop_all (packed_after n) xs i h

-- a word of 16 bytes is read from 0
pub packed_in_16 : (xs : List ℕ) → length xs ≡ 16 → packed_in xs ≡ packed_after 0 xs
packed_in_16 xs h = cond-true _ _ _ (eq-eqb (length xs) 16 h)

-- what i digits write is below 16 to the power i
pub digits_below : (n d i : ℕ) → n < 16 ^ i → d < 16 → n * 16 + d < 16 ^ (i + 1)
digits_below n d i h k = rw (add-one, pow-suc 16 i) (omega arith)

-- so one digit more fits
pub digits_fit : (n d i : ℕ) → n < 16 ^ i → i < 16 → d < 16 → n * 16 + d < 2 ^ 64
digits_fit n d i h l k =
    let j : i ≤ 15 = omega arith in
    let m : 16 ^ i ≤ 16 ^ 15 = pow-le-pow_right (lit≤ tt) j in
    omega arith
