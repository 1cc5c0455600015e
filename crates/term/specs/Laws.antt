-- What the packing and the three orders are to keep, in plain words.
use Rattle.std.specs.Prelude.{◌≡◌, ℕ, ◌^◌, ◌<◌, ◌⊎◌, ◌↔◌}
use Rattle.order.specs.Term.{Term, weighted}
use Rattle.order.specs.TermOrder.{TermOrder}
use Rattle.order.specs.Differences.{FirstDifferenceSmaller, DegreeThenLastDifference}
use Rattle.term.specs.Packed.{term_of, coefficient_of, packed, Fits}

-- a packed number is its term and its code, and nothing else
pub record PackingLaws : Type 0 where
  pub term_of_packed : (t : Term) (c : ℕ) → Fits t → c < 65536 → term_of (packed t c) ≡ t
  pub coefficient_of_packed : (t : Term) (c : ℕ) → c < 65536 → coefficient_of (packed t c) ≡ c
  pub packed_below : (t : Term) (c : ℕ) → Fits t → c < 65536 → packed t c < 2 ^ 64
  pub packed_of_parts : (m : ℕ) → m < 2 ^ 64 → packed (term_of m) (coefficient_of m) ≡ m
  pub term_fits : (m : ℕ) → Fits (term_of m)
  -- so 3·a²·b is hexadecimal 0201000000000003
  pub three_a²_b : packed (record { a = 2; b = 1; c = 0; d = 0; e = 0; f = 0 }) 3 ≡ 0x0201_0000_0000_0003

-- the first register that differs decides, and the larger exponent is greater
abbrev pub FirstRegisterDecides : TermOrder → Type 0
FirstRegisterDecides order = (s t : Term) → order.before s t ↔ FirstDifferenceSmaller s t

-- the larger total degree is greater; on a tie the last register that differs decides, and the smaller exponent is greater
abbrev pub DegreeThenLastRegisterDecides : TermOrder → Type 0
DegreeThenLastRegisterDecides order = (s t : Term) → order.before s t ↔ DegreeThenLastDifference s t

-- the larger sum of exponent times weight is greater, and a tie is left to the order below
abbrev pub WeightDecides : (weights : Term) → (below order : TermOrder) → Type 0
WeightDecides w below order = (s t : Term) → order.before s t ↔ ((weighted w s < weighted w t) ⊎ ((weighted w s ≡ weighted w t) × below.before s t))
