-- Terms: products of powers of the registers a to f, each known by its six exponents, which may be any whole numbers.
use Rattle.std.specs.Prelude.{ℕ, ◌+◌, ◌-◌, ◌*◌, ◌≤◌, max, Bool, ◌&&◌, List, [], ◌∷◌, nat_le, slice_index}

pub record Term : Type 0 where
  pub a : ℕ
  pub b : ℕ
  pub c : ℕ
  pub d : ℕ
  pub e : ℕ
  pub f : ℕ

-- the term whose six exponents are all n
abbrev pub level : ℕ → Term
level n = record { a = n; b = n; c = n; d = n; e = n; f = n }

-- the empty product
abbrev pub unit : Term
unit = level 0

-- the exponents of two terms put together, register by register
abbrev pub joined : (ℕ → ℕ → ℕ) → Term → Term → Term
joined with s t = record { a = with s.a t.a; b = with s.b t.b; c = with s.c t.c; d = with s.d t.d; e = with s.e t.e; f = with s.f t.f }

-- the product of two terms: exponents add up
abbrev pub product : Term → Term → Term
product = joined ◌+◌

-- the quotient of a term by one that divides it
abbrev pub quotient : Term → Term → Term
quotient = joined ◌-◌

-- the least common multiple: the larger exponent of each register
abbrev pub lcm : Term → Term → Term
lcm = joined max

-- s divides t: no exponent is larger
pub record Divides (s t : Term) : Type 0 where
  pub a : s.a ≤ t.a
  pub b : s.b ≤ t.b
  pub c : s.c ≤ t.c
  pub d : s.d ≤ t.d
  pub e : s.e ≤ t.e
  pub f : s.f ≤ t.f

-- whether s divides t
abbrev pub divides : Term → Term → Bool
divides s t = nat_le s.a t.a && (nat_le s.b t.b && (nat_le s.c t.c && (nat_le s.d t.d && (nat_le s.e t.e && nat_le s.f t.f))))

-- the exponents in the order of the registers, and the one of register k, counted from 0
abbrev pub exponents : Term → List ℕ
exponents t = t.a ∷ t.b ∷ t.c ∷ t.d ∷ t.e ∷ t.f ∷ []

abbrev pub exponent : Term → ℕ → ℕ
exponent t k = slice_index (exponents t) k

-- the term with these exponents
abbrev pub of_exponents : List ℕ → Term
of_exponents xs = record { a = slice_index xs 0; b = slice_index xs 1; c = slice_index xs 2; d = slice_index xs 3; e = slice_index xs 4; f = slice_index xs 5 }

-- the term with the exponents of a to f at f to a
abbrev pub mirrored : Term → Term
mirrored t = record { a = t.f; b = t.e; c = t.d; d = t.c; e = t.b; f = t.a }

-- the total degree
abbrev pub degree : Term → ℕ
degree t = t.a + t.b + t.c + t.d + t.e + t.f

-- the sum of exponent times weight, the weights given like exponents
abbrev pub weighted : (weights : Term) → Term → ℕ
weighted w t = w.a * t.a + w.b * t.b + w.c * t.c + w.d * t.d + w.e * t.e + w.f * t.f
