-- How a sheet writes lines as bytes.
use Rattle.std.specs.Prelude.{ℕ, zero, suc, ◌+◌, ◌*◌, ◌/◌, ◌%◌, List, [], ◌∷◌, ◌++◌, length}
use Rattle.std.specs.List.{flat_map}
use Rattle.term.specs.declared.monomial.Monomial.{Monomial}
use Rattle.term.specs.declared.monomial.Step.{Step}
use Rattle.layout.specs.Line.{Line}

-- the bytes of a monomial
abbrev pub monomial_width : ℕ
monomial_width = 8

-- the bytes of a step
abbrev pub step_width : ℕ
step_width = 9

-- the top bit of a line's first byte, which a line with steps has
abbrev pub steps_bit : ℕ
steps_bit = 128

-- a number of 64 bits, most significant byte first
abbrev pub number_bytes : ℕ → List ℕ
number_bytes m =
    (m / 0x0100_0000_0000_0000 % 256) ∷ (m / 0x0001_0000_0000_0000 % 256) ∷ (m / 0x0000_0100_0000_0000 % 256) ∷ (m / 0x0000_0001_0000_0000 % 256)
    ∷ (m / 0x0000_0000_0100_0000 % 256) ∷ (m / 0x0000_0000_0001_0000 % 256) ∷ (m / 0x0000_0000_0000_0100 % 256) ∷ (m % 256) ∷ []

-- a monomial: its number
abbrev pub monomial_bytes : Monomial → List ℕ
monomial_bytes m = number_bytes m.bits

-- a step: its factor, then its line
abbrev pub step_bytes : Step → List ℕ
step_bytes s = number_bytes s.factor.bits ++ (s.line ∷ [])

-- the head of a line with n monomials: n for a relation, else n with the top bit and the number of steps
abbrev pub head_bytes : (n steps : ℕ) → List ℕ
head_bytes n zero = n ∷ []
head_bytes n (suc m) = (steps_bit + n) ∷ (suc m ∷ [])

-- what follows the head: the monomials, then the steps
abbrev pub body_bytes : Line → List ℕ
body_bytes l = flat_map monomial_bytes l.formula ++ flat_map step_bytes l.steps

abbrev pub line_bytes : Line → List ℕ
line_bytes l = head_bytes (length l.formula) (length l.steps) ++ body_bytes l

-- a ring's kind and an order's kind in one byte, the ring's in the upper half
abbrev pub kinds_byte : (ring order : ℕ) → ℕ
kinds_byte ring order = ring * 16 + order

-- a sheet: the byte of its kinds, the number of its lines, its lines
abbrev pub sheet_bytes : (kinds : ℕ) → List Line → List ℕ
sheet_bytes kinds lines = kinds ∷ (length lines ∷ flat_map line_bytes lines)

-- the bytes of the head of a line with so many steps
abbrev pub head_size : ℕ → ℕ
head_size zero = 1
head_size (suc m) = 2

-- the bytes of so many monomials and steps
abbrev pub body_size : (n steps : ℕ) → ℕ
body_size n m = monomial_width * n + step_width * m

-- the bytes of a line
abbrev pub line_size : Line → ℕ
line_size l = head_size (length l.steps) + body_size (length l.formula) (length l.steps)
