-- Packed monomials. The number holds, most significant first, the exponents of a to f in 8 bits each and a coefficient code in 16 bits.
use Rattle.std.specs.Prelude.{ℕ, ◌+◌, ◌*◌, ◌/◌, ◌%◌, Bool}
use Rattle.order.specs.Term.{Term, level, Divides, divides}
use Rattle.term.specs.declared.monomial.Monomial.{Monomial}

-- the term of a packed number
abbrev pub term_of : ℕ → Term
term_of m = record { a = m / 0x0100_0000_0000_0000 % 256; b = m / 0x0001_0000_0000_0000 % 256; c = m / 0x0000_0100_0000_0000 % 256; d = m / 0x0000_0001_0000_0000 % 256; e = m / 0x0000_0000_0100_0000 % 256; f = m / 0x0000_0000_0001_0000 % 256 }

-- its coefficient code
abbrev pub coefficient_of : ℕ → ℕ
coefficient_of m = m % 65536

-- the packed number of a term with exponents up to 255 and a code below 65536
abbrev pub packed : Term → ℕ → ℕ
packed t c = t.a * 0x0100_0000_0000_0000 + t.b * 0x0001_0000_0000_0000 + t.c * 0x0000_0100_0000_0000 + t.d * 0x0000_0001_0000_0000 + t.e * 0x0000_0000_0100_0000 + t.f * 0x0000_0000_0001_0000 + c

-- the term with every exponent 255; a term fits a packed number exactly when it divides that one
abbrev pub largest : Term
largest = level 255

abbrev pub Fits : Term → Type 0
Fits t = Divides t largest

abbrev pub fits : Term → Bool
fits t = divides t largest

-- a term and a code as a monomial
abbrev pub monomial : Term → ℕ → Monomial
monomial t c = record { bits = packed t c }
