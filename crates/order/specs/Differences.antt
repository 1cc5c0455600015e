-- How two terms differ, in plain words: the first and the last register in which they do.
use Rattle.std.specs.Prelude.{◌≡◌, ℕ, ◌<◌, ◌⊎◌}
use Rattle.order.specs.Term.{Term, exponent, degree}

-- the first register that differs, from a, has the smaller exponent in s
abbrev pub FirstDifferenceSmaller : Term → Term → Type 0
FirstDifferenceSmaller s t = (k : ℕ) × (k < 6) × ((j : ℕ) → j < k → exponent s j ≡ exponent t j) × (exponent s k < exponent t k)

-- the last register that differs has the larger exponent in s
abbrev pub LastDifferenceLarger : Term → Term → Type 0
LastDifferenceLarger s t = (k : ℕ) × (k < 6) × ((j : ℕ) → k < j → exponent s j ≡ exponent t j) × (exponent t k < exponent s k)

-- the total degree of s is smaller, or it is the same and the last register that differs has the larger exponent in s
abbrev pub DegreeThenLastDifference : Term → Term → Type 0
DegreeThenLastDifference s t = (degree s < degree t) ⊎ ((degree s ≡ degree t) × LastDifferenceLarger s t)
