-- The lines of a workbook, and which of them a sheet can hold.
use Rattle.std.specs.Prelude.{ℕ, ◌^◌, ◌<◌, ◌≤◌, List, length}
use Rattle.std.specs.List.{AllByRecursion}
use Rattle.term.specs.declared.monomial.Monomial.{Monomial}
use Rattle.term.specs.declared.monomial.Step.{Step}

-- a line: its formula, and the steps whose sum it is; a relation has no steps
pub record Line : Type 0 where
  pub formula : List Monomial
  pub steps : List Step

-- the largest number of monomials or steps of a line
abbrev pub max_count : ℕ
max_count = 64

-- a number of 8 bits
abbrev pub Byte : ℕ → Type 0
Byte b = b < 256

-- a step whose factor is a number of 64 bits and whose line is a byte
abbrev pub PackedStep : Step → Type 0
PackedStep s = (s.factor.bits < 2 ^ 64) × Byte s.line

-- a line that a sheet can hold
pub record FitsSheet (l : Line) : Type 0 where
  pub some : 1 ≤ length l.formula
  pub few : length l.formula ≤ max_count
  pub short : length l.steps ≤ max_count
  pub packed : AllByRecursion (λ m. m.bits < 2 ^ 64) l.formula
  pub named : AllByRecursion PackedStep l.steps
