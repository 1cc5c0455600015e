-- A workbook: its lines, the count of its settled jobs, and its limits.
use Rattle.std.specs.Prelude.{ℕ, ◌+◌, ◌*◌, ◌≤◌, Bool, ◌&&◌, List, [], ◌∷◌, ◌++◌, map, length, Ok, Result, nat_le, nat_lt}
use Rattle.refusal.specs.declared.Refusal.{Refusal}
use Rattle.refusal.specs.declared.Refusal.TheVariants.{LinesFull, TablesFull}
use Rattle.term.specs.declared.monomial.Monomial.{Monomial}
use Rattle.term.specs.declared.monomial.Step.{Step}
use Rattle.formula.specs.Formula.{provided}
use Rattle.layout.specs.Line.{Line}
use Rattle.layout.specs.Reading.{max_lines}

-- the largest number of monomials of all lines together, and of steps
abbrev pub table_size : ℕ
table_size = 2048

-- lines are numbered from 0, in the order in which they were entered
pub record State : Type 0 where
  pub lines : List Line
  pub settled : ℕ

-- a workbook just opened
abbrev pub opened : State
opened = record { lines = []; settled = 0 }

-- the formulas of lines
abbrev pub formulas : List Line → List (List Monomial)
formulas lines = map (λ line. line.formula) lines

-- the formula of a line without steps, which is a relation; none of another line
abbrev pub relation_of : (steps : List Step) → (formula : List Monomial) → List (List Monomial)
relation_of [] f = f ∷ []
relation_of (s ∷ steps) f = []

-- the relations among lines, in order
abbrev pub relations : List Line → List (List Monomial)
relations [] = []
relations (line ∷ lines) = relation_of line.steps line.formula ++ relations lines

-- how many monomials all lines have, and how many steps
abbrev pub all_monomials : List Line → ℕ
all_monomials [] = 0
all_monomials (line ∷ lines) = length line.formula + all_monomials lines

abbrev pub all_steps : List Line → ℕ
all_steps [] = 0
all_steps (line ∷ lines) = length line.steps + all_steps lines

-- L lines have L² jobs
abbrev pub jobs : List Line → ℕ
jobs lines = length lines * length lines

-- a workbook is complete when all jobs of its lines are settled
abbrev pub complete : State → Bool
complete state = nat_le (jobs state.lines) state.settled

-- whether the tables have room for a line
abbrev pub has_room : List Line → Line → Bool
has_room lines line = nat_le (all_monomials lines + length line.formula) table_size && nat_le (all_steps lines + length line.steps) table_size

-- the lines with one more at the end, if there is room for it
abbrev pub entered : List Line → Line → Result (List Line) Refusal
entered lines line =
    provided (nat_lt (length lines) max_lines) LinesFull
    (provided (has_room lines line) TablesFull (Ok (lines ++ line ∷ [])))

-- the limits that every workbook keeps
pub record WithinLimits (state : State) : Type 0 where
  pub lines : length state.lines ≤ max_lines
  pub monomials : all_monomials state.lines ≤ table_size
  pub steps : all_steps state.lines ≤ table_size
  pub settled_jobs : state.settled ≤ jobs state.lines
