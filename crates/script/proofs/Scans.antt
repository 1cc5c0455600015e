-- Looking through bytes, and cutting a line into words.
use Rattle.std.proofs.Common.{◌≡◌, ℕ, ◌-◌, ◌<◌, ◌≤◌, Bool, true, false, not, ◌==◌, cond, eqb, List, [], ◌∷◌, length, get_or, take, drop, Some, None, sym, refl, ap, ◌∙◌, arith}
use Rattle.std.proofs.lemmas.Bool.Decides.{nat_tests}
use Rattle.std.proofs.lemmas.List.{length-drop, take_all}
use Rattle.std.proofs.lemmas.Bool.{eq-eqb, ne_eqb, cond-true, cond-false}
use Rattle.std.specs.List.{position}
use Rattle.std.specs.Option.{unwrap_or}
use Rattle.std.proofs.lemmas.List.Sums.{prefix_len-le-length}
use Rattle.script.specs.Words.{after_front, after_spaces, after_word, front, length_before, word}

-- the bytes before the first that is looked for, by where it is found
pub length_before_first : (stop : ℕ) (xs : List ℕ) → unwrap_or (position (λ b. b == stop) xs) (length xs) ≡ length_before stop xs
length_before_first stop xs =
    let p = prefix_len-le-length (λ b. not (b == stop)) xs in
    grind (arith, nat_tests)

-- a space at the front, another byte, and nothing
pub after_spaces_more : (xs : List ℕ) → 0 < length xs → get_or xs 0 0 ≡ 32 → after_spaces (take (length xs - 1) (drop 1 xs)) ≡ after_spaces xs
after_spaces_more [] h e = absurd (omega (arith, h))
after_spaces_more (x ∷ xs) h e = ap after_spaces (take_all _ xs (omega arith)) ∙ sym (cond-true _ _ _ (eq-eqb _ _ e))

pub after_spaces_here : (xs : List ℕ) → (get_or xs 0 0 ≡ 32 → ⊥) → after_spaces xs ≡ xs
after_spaces_here [] e = refl
after_spaces_here (x ∷ xs) e = cond-false _ _ _ (ne_eqb _ _ e)

pub after_spaces_none : (xs : List ℕ) → length xs < 1 → after_spaces xs ≡ xs
after_spaces_none [] h = refl
after_spaces_none (x ∷ xs) h = absurd (omega (arith, h))

-- spaces make a line no longer
after_spaces_length : (xs : List ℕ) → length (after_spaces xs) ≤ length xs
after_spaces_length [] = omega arith
after_spaces_length (x ∷ xs) = at_space (eqb x 32) (after_spaces_length xs)
  where
    at_space : (b : Bool) → length (after_spaces xs) ≤ length xs → length (cond b (after_spaces xs) (x ∷ xs)) ≤ length (x ∷ xs)
    at_space true h = omega arith
    at_space false h = omega arith

-- there is a word only where its length is not 0, and then there are bytes
front_length : (n : ℕ) (w xs : List ℕ) → length_before 32 xs ≡ n → cond (eqb n 0) None (Some (take n xs)) ≡ Some w → 0 < n
front_length n w xs e h = at_zero (eqb n 0) refl h
  where
    at_zero : (b : Bool) → eqb n 0 ≡ b → cond b None (Some (take n xs)) ≡ Some w → 0 < n
    at_zero true t k = let z : ◌≡◌ {A = ℕ} 0 1 = cc in absurd (omega arith)
    at_zero false t k = grind (arith, nat_tests)

after_front_shorter : (w xs : List ℕ) → front xs ≡ Some w → length (after_front xs) < length xs
after_front_shorter w [] h = let z : ◌≡◌ {A = ℕ} 0 1 = cc in absurd (omega arith)
after_front_shorter w (x ∷ xs) h =
    let p = front_length (length_before 32 (x ∷ xs)) w (x ∷ xs) refl h in
    simp length-drop (omega arith)

-- a word makes what is left shorter
pub word_shorter : (w xs : List ℕ) → word xs ≡ Some w → length (after_word xs) < length xs
word_shorter w xs h =
    let p = after_front_shorter w (after_spaces xs) h in
    let q = after_spaces_length xs in
    omega arith
