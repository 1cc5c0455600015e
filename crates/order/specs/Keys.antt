-- Relations given by keys: a key is a number for each term, and the term with the smaller key is before.
use Rattle.std.specs.Prelude.{◌≡◌, ℕ, ◌+◌, ◌<◌, ◌⊎◌, List, [], ◌∷◌}
use Rattle.order.specs.Term.{Term, degree}

-- one key decides, and leaves a tie to another relation
abbrev pub KeyFirst : (key : Term → ℕ) → (Rest : Term → Term → Type 0) → Term → Term → Type 0
KeyFirst key Rest s t = (key s < key t) ⊎ ((key s ≡ key t) × Rest s t)

-- the first key that differs decides
abbrev pub ByKeys : List (Term → ℕ) → Term → Term → Type 0
ByKeys [] s t = ⊥
ByKeys (key ∷ keys) s t = KeyFirst key (ByKeys keys) s t

-- lex: the exponents from a on
abbrev pub lex_keys : List (Term → ℕ)
lex_keys = (λ t. t.a) ∷ (λ t. t.b) ∷ (λ t. t.c) ∷ (λ t. t.d) ∷ (λ t. t.e) ∷ (λ t. t.f) ∷ []

-- the degrees without the last register, without the last two, and so on
abbrev pub partial_sums : List (Term → ℕ)
partial_sums = (λ t. t.a + t.b + t.c + t.d + t.e) ∷ (λ t. t.a + t.b + t.c + t.d) ∷ (λ t. t.a + t.b + t.c) ∷ (λ t. t.a + t.b) ∷ (λ t. t.a) ∷ []

-- reverse: the total degree, then the partial sums
abbrev pub reverse_keys : List (Term → ℕ)
reverse_keys = degree ∷ partial_sums
