-- The rules of a sheet, which do not say how they are checked.
use Rattle.std.specs.Prelude.{◌≡◌, ℕ, ◌<◌, ◌≤◌, true, List, [], ◌∷◌, map, length, take, Ok, slice_index_or}
use Rattle.std.specs.List.{AllByRecursion}
use Rattle.ring.specs.CoefficientRing.{CoefficientRing}
use Rattle.order.specs.TermOrder.{TermOrder}
use Rattle.term.specs.declared.monomial.Monomial.{Monomial}
use Rattle.term.specs.declared.monomial.Step.{Step}
use Rattle.formula.specs.Formula.{Coefficient, Formula, code}
use Rattle.basis.specs.Basis.{DividedByLine}
use Rattle.basis.specs.Criterion.{gcd_at_lcm}
use Rattle.layout.specs.Line.{FitsSheet, Line, max_count}
use Rattle.layout.specs.Reading.{max_lines}
use Rattle.model.specs.Polynomials.{line_of}
use Rattle.model.specs.Workbook.{formulas, jobs}
use Rattle.model.specs.Jobs.{Job, job, numbered_line}
use Rattle.model.specs.Reduction.{ReducesTo, at_head, summed}
use Rattle.model.specs.Settling.{job_polynomial}
use Rattle.model.specs.Calls.{has_head, sheet}
use Rattle.model.specs.Audit.{audit_reductions}

-- the line of a number; no monomials and no steps where there is none
abbrev pub numbered : List Line → ℕ → Line
numbered lines k = slice_index_or lines k (record { formula = []; steps = [] })

module _ (ring : CoefficientRing) (order : TermOrder) where
  -- f is the sum of the steps over the formulas before it, added one at a time; a relation has no steps
  abbrev pub Derived : List (List Monomial) → (f : List Monomial) → (steps : List Step) → Type 0
  Derived F f [] = Unit {0}
  Derived F f (s ∷ steps) = summed ring order F [] (s ∷ steps) ≡ Ok f

  -- a lawful line after the formulas before it: a formula that is not zero, and up to 64 steps over those whose sum it is
  pub record LineLawful (F : List (List Monomial)) (line : Line) : Type 0 where
    pub formula : Formula ring order line.formula
    pub not_zero : has_head line.formula ≡ true
    pub short : length line.steps ≤ max_count
    pub earlier : AllByRecursion (λ s. s.line < length F) line.steps
    pub coefficients : AllByRecursion (λ s. Coefficient ring (code s.factor)) line.steps
    pub sum : Derived F line.formula line.steps

  -- a line of a sheet that keeps the rules is lawful and fits a sheet
  pub record LineKept (F : List (List Monomial)) (line : Line) : Type 0 where
    pub fits : FitsSheet line
    pub lawful : LineLawful F line

  -- the polynomial of a job comes to zero by head reductions, in time
  pub record Vanishes (F : List (List Monomial)) (job : Job) : Type 0 where
    pub polynomial : List Monomial
    pub built : job_polynomial ring order F job ≡ Ok polynomial
    pub steps : List Step
    pub to_zero : ReducesTo ring order F (at_head ring F) polynomial steps []
    pub few : length steps ≤ audit_reductions

  -- an A- or S-polynomial comes to zero; for a G-job some line's head divides g·T
  abbrev pub JobKept : List (List Monomial) → Job → Type 0
  JobKept F (Job.A k) = Vanishes F (Job.A k)
  JobKept F (Job.G i k) = DividedByLine ring (map line_of F) (gcd_at_lcm ring (numbered_line ring F i) (numbered_line ring F k))
  JobKept F (Job.S i k) = Vanishes F (Job.S i k)

  -- each line keeps the rules after those before it
  abbrev pub EachKept : List Line → Type 0
  EachKept lines = (k : ℕ) → k < length lines → LineKept (formulas (take k lines)) (numbered lines k)

  -- lines that keep the rules: each after those before it, and every job over all of them
  pub record LinesKept (lines : List Line) : Type 0 where
    pub few : length lines ≤ max_lines
    pub each : EachKept lines
    pub every_job : (j : ℕ) → j < jobs lines → JobKept (formulas lines) (job j)

  -- bytes that keep the rules are the sheet of such lines
  pub record SheetKept (bytes : List ℕ) : Type 0 where
    pub lines : List Line
    pub written : bytes ≡ sheet ring order lines
    pub kept : LinesKept lines
