-- Settling a job: what it does to the lines of a workbook.
use Rattle.std.specs.Prelude.{ℕ, List, [], ◌∷◌, ◌++◌, Some, None, Ok, Option, Result}
use Rattle.refusal.specs.declared.Refusal.{Refusal}
use Rattle.ring.specs.CoefficientRing.{CoefficientRing}
use Rattle.order.specs.TermOrder.{TermOrder}
use Rattle.term.specs.declared.monomial.Monomial.{Monomial}
use Rattle.term.specs.declared.monomial.Step.{Step}
use Rattle.basis.specs.Criterion.{gcd_at_lcm}
use Rattle.layout.specs.Line.{Line}
use Rattle.model.specs.Workbook.{entered, formulas}
use Rattle.model.specs.Jobs.{Job, all_taken, numbered_line, polynomial_steps}
use Rattle.model.specs.Reduction.{Reduction, at_head, covering, reduced, summed, then}

-- how many reductions a job may use
abbrev pub job_reductions : ℕ
job_reductions = 62

-- what is left of a job's polynomial becomes a line, unless it is zero
abbrev pub left_entered : List Line → (steps : List Step) → (left : List Monomial) → Result (List Line) Refusal
left_entered lines steps [] = Ok lines
left_entered lines steps (m ∷ f) = entered lines (record { formula = m ∷ f; steps = steps })

module _ (ring : CoefficientRing) (order : TermOrder) where
  -- the step by which the lowest line takes away g·T, the gcd of two lines' head coefficients at the lcm of their head terms
  abbrev pub cover : List (List Monomial) → ℕ → ℕ → Option Step
  cover F i k = let m = gcd_at_lcm ring (numbered_line ring F i) (numbered_line ring F k) in covering ring F m.coefficient m.term

  -- the polynomial of a job over the formulas, worked out step by step
  abbrev pub job_polynomial : List (List Monomial) → Job → Result (List Monomial) Refusal
  job_polynomial F job = summed ring order F [] (all_taken (polynomial_steps ring F job))

  -- the polynomial of a job, reduced at its head
  abbrev pub job_reduced : List (List Monomial) → ℕ → Job → Result Reduction Refusal
  job_reduced F n job = then (job_polynomial F job) (λ f. reduced ring order F (at_head ring F) n f)

  -- an A- or S-job reduces heads and enters what is left, with all its steps
  abbrev pub by_reduction : List Line → Job → Result (List Line) Refusal
  by_reduction lines job = then (job_reduced (formulas lines) job_reductions job) (λ r. left_entered lines (all_taken (polynomial_steps ring (formulas lines) job) ++ r.steps) r.formula)

  -- a G-job that some line covers is settled without a line; else the G-polynomial is entered
  abbrev pub unless_covered : Option Step → List Line → Job → Result (List Line) Refusal
  unless_covered (Some s) lines job = Ok lines
  unless_covered None lines job = then (job_polynomial (formulas lines) job) (λ f. entered lines (record { formula = f; steps = all_taken (polynomial_steps ring (formulas lines) job) }))

  -- the lines after a job is settled
  abbrev pub settled_by : List Line → Job → Result (List Line) Refusal
  settled_by lines (Job.A k) = by_reduction lines (Job.A k)
  settled_by lines (Job.G i k) = unless_covered (cover (formulas lines) i k) lines (Job.G i k)
  settled_by lines (Job.S i k) = by_reduction lines (Job.S i k)
