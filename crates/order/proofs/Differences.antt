-- The relations by keys in plain words: which register decides.
use Rattle.std.proofs.Common.{◌≡◌, ℕ, zero, suc, ◌+◌, ◌-◌, ◌<◌, ◌≤◌, ◌⊎◌, ◌↔◌, List, [], ◌∷◌, length, get_or, sym, ◌∙◌, inl, inr, arith}
use Rattle.std.proofs.lemmas.List.{get_or_past, get_or-reverse}
use Rattle.std.proofs.lemmas.Bool.{cases_lt}
use Rattle.order.specs.Term.{Term, exponents, exponent, mirrored, degree}
use Rattle.order.specs.Keys.{ByKeys, lex_keys, partial_sums, reverse_keys}
use Rattle.order.specs.Differences.{FirstDifferenceSmaller, LastDifferenceLarger, DegreeThenLastDifference}

-- two lists compared from the front, by recursion and by the first place that differs
abbrev Smaller : List ℕ → List ℕ → Type 0
Smaller [] ys = ⊥
Smaller (x ∷ xs) [] = ⊥
Smaller (x ∷ xs) (y ∷ ys) = (x < y) ⊎ ((x ≡ y) × Smaller xs ys)

abbrev SmallerAtFirst : List ℕ → List ℕ → Type 0
SmallerAtFirst xs ys = (k : ℕ) × (k < length xs) × ((j : ℕ) → j < k → get_or xs j 0 ≡ get_or ys j 0) × (get_or xs k 0 < get_or ys k 0)

first_of : (xs ys : List ℕ) → Smaller xs ys → SmallerAtFirst xs ys
first_of [] ys h = absurd h
first_of (x ∷ xs) [] h = absurd h
first_of (x ∷ xs) (y ∷ ys) (inl h) = (0, omega arith, λ j l. absurd (omega arith), h)
first_of (x ∷ xs) (y ∷ ys) (inr (e, h)) = later (first_of xs ys h)
  where
    same : (k : ℕ) → ((j : ℕ) → j < k → get_or xs j 0 ≡ get_or ys j 0) → (j : ℕ) → j < suc k → get_or (x ∷ xs) j 0 ≡ get_or (y ∷ ys) j 0
    same k h zero l = e
    same k h (suc j) l = h j (omega arith)

    later : SmallerAtFirst xs ys → SmallerAtFirst (x ∷ xs) (y ∷ ys)
    later (k, l, h, d) = (suc k, omega arith, same k h, d)

from_first : (xs ys : List ℕ) → SmallerAtFirst xs ys → Smaller xs ys
from_first [] ys (k, l, h, d) = absurd (omega arith)
from_first (x ∷ xs) [] (k, l, h, d) = absurd (omega arith)
from_first (x ∷ xs) (y ∷ ys) (zero, l, h, d) = inl d
from_first (x ∷ xs) (y ∷ ys) (suc k, l, h, d) = inr (h 0 (omega arith), from_first xs ys (k, omega arith, λ j m. h (suc j) (omega arith), d))

pub lex_in_words : (s t : Term) → ByKeys lex_keys s t ↔ FirstDifferenceSmaller s t
lex_in_words s t = (first_of (exponents s) (exponents t), from_first (exponents s) (exponents t))

-- the exponents of a mirrored term are those from the last register on
exponent_of_mirrored : (t : Term) (k : ℕ) → k < 6 → exponent (mirrored t) k ≡ exponent t (5 - k)
exponent_of_mirrored t k = get_or-reverse (exponents t) k 0

exponent_past : (s t : Term) (k : ℕ) → 6 ≤ k → exponent s k ≡ exponent t k
exponent_past s t k l = get_or_past (exponents s) k 0 l ∙ sym (get_or_past (exponents t) k 0 l)

-- the last difference is the first from the end
first_from_last : (s t : Term) → LastDifferenceLarger s t → FirstDifferenceSmaller (mirrored t) (mirrored s)
first_from_last s t (k, l, h, d) =
    (5 - k, omega arith, λ j m. exponent_of_mirrored t j (omega arith) ∙ sym (h (5 - j) (omega arith)) ∙ sym (exponent_of_mirrored s j (omega arith)), omega (arith, exponent_of_mirrored (mirrored t) k l, exponent_of_mirrored (mirrored s) k l))

last_from_first : (s t : Term) → FirstDifferenceSmaller (mirrored t) (mirrored s) → LastDifferenceLarger s t
last_from_first s t (k, l, h, d) = (5 - k, omega arith, λ j m. same j m (cases_lt j 6), omega (arith, exponent_of_mirrored t k l, exponent_of_mirrored s k l))
  where
    same : (j : ℕ) → 5 - k < j → (j < 6) ⊎ (6 ≤ j) → exponent s j ≡ exponent t j
    same j m (inl i) = exponent_of_mirrored (mirrored s) j i ∙ sym (h (5 - j) (omega arith)) ∙ sym (exponent_of_mirrored (mirrored t) j i)
    same j m (inr i) = exponent_past s t j i

-- of two equal sums the one with the larger last part has the smaller rest
rest_of : (x y u v : ℕ) {R S : Type 0} → u + x ≡ v + y → (u ≡ v → R → S) → (y < x) ⊎ ((y ≡ x) × R) → (u < v) ⊎ ((u ≡ v) × S)
rest_of x y u v e go (inl h) = inl (omega arith)
rest_of x y u v e go (inr (p, r)) = let q : u ≡ v = omega arith in inr (q, go q r)

last_of : (x y u v : ℕ) {R S : Type 0} → u + x ≡ v + y → (u ≡ v → S → R) → (u < v) ⊎ ((u ≡ v) × S) → (y < x) ⊎ ((y ≡ x) × R)
last_of x y u v e go (inl h) = inl (omega arith)
last_of x y u v e go (inr (p, r)) = inr (omega arith, go p r)

none_left : (x y : ℕ) → x ≡ y → (y < x) ⊎ ((y ≡ x) × ⊥) → ⊥
none_left x y e (inl h) = omega arith
none_left x y e (inr (p, h)) = h

-- on a tie of the degrees the partial sums order terms as lex orders the mirrored ones, the other way round
mirrored_keys : (s t : Term) → degree s ≡ degree t → ByKeys lex_keys (mirrored t) (mirrored s) → ByKeys partial_sums s t
mirrored_keys s t e =
    rest_of _ _ _ _ e (λ e. rest_of _ _ _ _ e (λ e. rest_of _ _ _ _ e (λ e. rest_of _ _ _ _ e (λ e. rest_of _ _ _ _ e (none_left s.a t.a)))))

pub mirrored_lex : (s t : Term) → degree s ≡ degree t → ByKeys partial_sums s t → ByKeys lex_keys (mirrored t) (mirrored s)
mirrored_lex s t e =
    last_of _ _ _ _ e (λ e. last_of _ _ _ _ e (λ e. last_of _ _ _ _ e (λ e. last_of _ _ _ _ e (λ e. last_of _ _ _ _ e (λ e h. absurd h)))))

in_words : (s t : Term) → ByKeys reverse_keys s t → DegreeThenLastDifference s t
in_words s t (inl h) = inl h
in_words s t (inr (e, h)) = inr (e, last_from_first s t ((lex_in_words (mirrored t) (mirrored s)).0 (mirrored_lex s t e h)))

by_words : (s t : Term) → DegreeThenLastDifference s t → ByKeys reverse_keys s t
by_words s t (inl h) = inl h
by_words s t (inr (e, h)) = inr (e, mirrored_keys s t e ((lex_in_words (mirrored t) (mirrored s)).1 (first_from_last s t h)))

pub reverse_in_words : (s t : Term) → ByKeys reverse_keys s t ↔ DegreeThenLastDifference s t
reverse_in_words s t = (in_words s t, by_words s t)
