-- How bytes are read as a sheet.
use Rattle.std.specs.Prelude.{ℕ, zero, suc, ◌+◌, ◌-◌, ◌*◌, Bool, cond, ◌&&◌, List, [], ◌∷◌, length, drop, Some, None, Option, nat_le, nat_lt, slice_index}
use Rattle.term.specs.declared.monomial.Monomial.{Monomial}
use Rattle.term.specs.declared.monomial.Step.{Step}
use Rattle.layout.specs.Line.{Line, max_count}
use Rattle.layout.specs.Writing.{monomial_width, step_width, steps_bit, body_size}

-- the largest number of lines of a sheet
abbrev pub max_lines : ℕ
max_lines = 64

-- what was read, and the bytes after it
pub record Read (A : Type 0) : Type 0 where
  pub item : A
  pub rest : List ℕ

-- none, or what comes next
abbrev pub and_then : {A B : Type 0} → Option A → (A → Option B) → Option B
and_then None f = None
and_then (Some x) f = f x

-- the number that the first 8 bytes write
abbrev pub number_in : List ℕ → ℕ
number_in bs =
    slice_index bs 0 * 0x0100_0000_0000_0000 + slice_index bs 1 * 0x0001_0000_0000_0000 + slice_index bs 2 * 0x0000_0100_0000_0000 + slice_index bs 3 * 0x0000_0001_0000_0000
    + slice_index bs 4 * 0x0000_0000_0100_0000 + slice_index bs 5 * 0x0000_0000_0001_0000 + slice_index bs 6 * 0x0000_0000_0000_0100 + slice_index bs 7

abbrev pub monomial_in : List ℕ → Monomial
monomial_in bs = record { bits = number_in bs }

-- the step that the first 9 bytes write
abbrev pub step_in : List ℕ → Step
step_in bs = record { factor = monomial_in bs; line = slice_index bs monomial_width }

-- n items of one width, each by what the bytes from its start on write
abbrev pub items_in : {A : Type 0} → (width : ℕ) → (List ℕ → A) → (n : ℕ) → List ℕ → List A
items_in width one zero bs = []
items_in width one (suc n) bs = one bs ∷ items_in width one n (drop width bs)

abbrev pub monomials_in : ℕ → List ℕ → List Monomial
monomials_in n bs = items_in monomial_width monomial_in n bs

abbrev pub steps_in : ℕ → List ℕ → List Step
steps_in m bs = items_in step_width step_in m bs

-- a count of 1 to 64
abbrev pub counted : ℕ → Bool
counted n = nat_le 1 n && nat_le n max_count

-- how many monomials and steps a line has
pub record Counts : Type 0 where
  pub monomials : ℕ
  pub steps : ℕ

-- the rest of the head of a line with n monomials that is no relation
abbrev pub read_steps : ℕ → List ℕ → Option (Read Counts)
read_steps n [] = None
read_steps n (m ∷ rest) = cond (counted m) (Some (record { item = record { monomials = n; steps = m }; rest = rest })) None

-- the head of a line: a first byte without the top bit is a relation's
abbrev pub read_head : List ℕ → Option (Read Counts)
read_head [] = None
read_head (b ∷ rest) = cond (nat_lt b steps_bit) (Some (record { item = record { monomials = b; steps = 0 }; rest = rest })) (read_steps (b - steps_bit) rest)

-- the line with these counts that the bytes after its head write
abbrev pub line_in : Counts → List ℕ → Line
line_in c bs = record { formula = monomials_in c.monomials bs; steps = steps_in c.steps (drop (monomial_width * c.monomials) bs) }

abbrev pub size_of : Counts → ℕ
size_of c = body_size c.monomials c.steps

-- a line whose head was read; none where it has no monomial or too many, or the bytes end
abbrev pub read_body : Read Counts → Option (Read Line)
read_body h =
    cond (counted h.item.monomials && nat_le (size_of h.item) (length h.rest))
    (Some (record { item = line_in h.item h.rest; rest = drop (size_of h.item) h.rest }))
    None

abbrev pub read_line : List ℕ → Option (Read Line)
read_line bs = and_then (read_head bs) read_body

-- a line, and the lines after it
abbrev pub one_more : Line → Read (List Line) → Option (Read (List Line))
one_more l r = Some (record { item = l ∷ r.item; rest = r.rest })

-- so many lines
abbrev pub read_lines : ℕ → List ℕ → Option (Read (List Line))
read_lines zero bs = Some (record { item = []; rest = bs })
read_lines (suc n) bs = and_then (read_line bs) (λ r. and_then (read_lines n r.rest) (one_more r.item))

-- a sheet: the byte of its kinds, and its lines
pub record Sheet : Type 0 where
  pub kinds : ℕ
  pub lines : List Line

-- no byte may be left over
abbrev pub whole : ℕ → Read (List Line) → Option Sheet
whole kinds r = elim r.rest [ [] ↦ Some (record { kinds = kinds; lines = r.item }) | b ∷ bs ↦ None ]

-- bytes as a sheet; none under two bytes, above 64 lines, where a line does not read, or for bytes left over
abbrev pub decoded : List ℕ → Option Sheet
decoded [] = None
decoded (kinds ∷ []) = None
decoded (kinds ∷ (n ∷ rest)) = cond (nat_le n max_lines) (and_then (read_lines n rest) (whole kinds)) None
