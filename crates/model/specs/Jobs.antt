-- Jobs: which lines a number stands for, and the polynomial of each job as steps.
use Rattle.std.specs.Prelude.{ℕ, zero, suc, ◌-◌, ◌*◌, ◌/◌, ◌%◌, cond, List, [], ◌∷◌, ◌++◌, ◌==◌, nat_le, slice_index_or}
use Rattle.ring.specs.CoefficientRing.{CoefficientRing}
use Rattle.order.specs.Term.{Term, unit}
use Rattle.term.specs.Packed.{monomial}
use Rattle.term.specs.declared.monomial.Monomial.{Monomial}
use Rattle.term.specs.declared.monomial.Step.{Step}
use Rattle.formula.specs.Formula.{code}
use Rattle.basis.specs.Basis.{Line}
use Rattle.basis.specs.Criterion.{head_gcd, head_lcm, head_over, term_over_head}
use Rattle.model.specs.Polynomials.{line_of}

-- the A-job of a line, and the G-job and the S-job of two lines
pub data Job : Type 0 where
  A : ℕ → Job
  G S : ℕ → ℕ → Job

-- the greatest number whose square is not above j
abbrev pub root : ℕ → ℕ
root zero = 0
root (suc j) = let r = root j in cond (nat_le (suc r * suc r) (suc j)) (suc r) r

-- the jobs of line k in turn: 0 is its A-job, 2i + 1 the G-job of lines i and k, 2i + 2 their S-job
abbrev pub job_of_line : ℕ → ℕ → Job
job_of_line k zero = Job.A k
job_of_line k (suc d) = cond (d % 2 == 0) (Job.G (d / 2) k) (Job.S (d / 2) k)

-- job j belongs to line k, k² the greatest square not above j
unfoldable pub job : ℕ → Job
job j = job_of_line (root j) (j - root j * root j)

module _ (ring : CoefficientRing) where
  -- a code times the line of a number, raised to the term t
  abbrev pub raised : (code : ℕ) → (t : Term) → Line → (number : ℕ) → Step
  raised c t line k = record { factor = monomial (term_over_head t line) c; line = k }

  -- the formula of a number, with its head
  abbrev pub numbered_line : List (List Monomial) → ℕ → Line
  numbered_line F k = line_of (slice_index_or F k [])

  -- the A-polynomial of line k, as steps
  abbrev pub a_steps : Line → (k : ℕ) → List Step
  a_steps line k = record { factor = monomial unit (ring.annihilator line.head.coefficient); line = k } ∷ []

  -- the G-polynomial of lines i and k, as steps in the order written
  abbrev pub g_steps : (left right : Line) → (i k : ℕ) → List Step
  g_steps left right i k = raised (head_gcd ring left right).u (head_lcm left right) left i ∷ raised (head_gcd ring left right).v (head_lcm left right) right k ∷ []

  -- their S-polynomial, as steps in the order written
  abbrev pub s_steps : (left right : Line) → (i k : ℕ) → List Step
  s_steps left right i k =
      let g = (head_gcd ring left right).g in
      raised (head_over ring g right) (head_lcm left right) left i ∷ raised (ring.negative (head_over ring g left)) (head_lcm left right) right k ∷ []

  -- the polynomial of a job over the formulas of the lines
  abbrev pub polynomial_steps : List (List Monomial) → Job → List Step
  polynomial_steps F (Job.A k) = a_steps (numbered_line F k) k
  polynomial_steps F (Job.G i k) = g_steps (numbered_line F i) (numbered_line F k) i k
  polynomial_steps F (Job.S i k) = s_steps (numbered_line F i) (numbered_line F k) i k

-- a step, unless its coefficient is 0
abbrev pub taken : Step → List Step
taken s = cond (code s.factor == 0) [] (s ∷ [])

-- the steps whose coefficient is not 0
abbrev pub all_taken : List Step → List Step
all_taken [] = []
all_taken (s ∷ steps) = taken s ++ all_taken steps
