-- The audit of a sheet for a ring and an order, in the order of its answers, and the answer that a C host gets.
use Rattle.std.specs.Prelude.{ℕ, zero, suc, Bool, true, false, not, ◌&&◌, List, [], ◌∷◌, ◌++◌, length, is_some, is_ok, Some, None, Ok, Err, Option, Result, ◌==◌, nat_le, nat_lt}
use Rattle.refusal.specs.declared.Refusal.{Refusal}
use Rattle.refusal.specs.declared.Refusal.TheVariants.{NotASheet, NotSettled, NotTheSum, OtherKinds, StepOutOfRange}
use Rattle.ring.specs.CoefficientRing.{CoefficientRing}
use Rattle.order.specs.TermOrder.{TermOrder}
use Rattle.term.specs.declared.monomial.Monomial.{Monomial}
use Rattle.term.specs.declared.monomial.Step.{Step}
use Rattle.formula.specs.Formula.{checked, code, is_coefficient, provided}
use Rattle.layout.specs.Line.{Line}
use Rattle.layout.specs.Reading.{max_lines, read_line}
use Rattle.layout.specs.Writing.{kinds_byte}
use Rattle.model.specs.Workbook.{formulas, jobs}
use Rattle.model.specs.Jobs.{Job, job}
use Rattle.model.specs.Reduction.{Reduction, summed, then}
use Rattle.model.specs.Settling.{cover, job_reduced}
use Rattle.model.specs.Calls.{has_head}

-- how many reductions a job may use in an audit: one more than in a workbook, since a line that was entered takes itself away
abbrev pub audit_reductions : ℕ
audit_reductions = 63

-- whether two lists of monomials are the same
abbrev pub same_list : List Monomial → List Monomial → Bool
same_list [] [] = true
same_list [] (n ∷ g) = false
same_list (m ∷ f) [] = false
same_list (m ∷ f) (n ∷ g) = m.bits == n.bits && same_list f g

-- whether a sum is granted and is f
abbrev pub is_sum : Result (List Monomial) Refusal → (f : List Monomial) → Bool
is_sum (Ok g) f = same_list g f
is_sum (Err refusal) f = false

-- whether a reduction is granted and leaves nothing
abbrev pub is_zero : Result Reduction Refusal → Bool
is_zero (Ok r) = not (has_head r.formula)
is_zero (Err refusal) = false

-- go on with what was read; what does not read is no sheet
abbrev pub given : {X Y : Type 0} → Option X → (X → Result Y Refusal) → Result Y Refusal
given None next = Err NotASheet
given (Some x) next = next x

-- all lines are read, and no byte may be left over
abbrev pub all_read : List Line → List ℕ → Result (List Line) Refusal
all_read lines [] = Ok lines
all_read lines (b ∷ bytes) = Err NotASheet

module _ (ring : CoefficientRing) where
  -- whether a step names one of n lines and has a coefficient
  abbrev pub is_step : ℕ → Step → Bool
  is_step n s = nat_lt s.line n && is_coefficient ring (code s.factor)

  abbrev pub are_steps : ℕ → List Step → Bool
  are_steps n [] = true
  are_steps n (s ∷ steps) = is_step n s && are_steps n steps

  module _ (order : TermOrder) where
    -- whether f is the sum of its steps over the formulas before it; a relation has no steps
    abbrev pub is_derived : List (List Monomial) → (f : List Monomial) → (steps : List Step) → Bool
    is_derived F f [] = true
    is_derived F f (s ∷ steps) = is_sum (summed ring order F [] (s ∷ steps)) f

    -- a line after the formulas before it: a formula, lawful steps, and their sum
    abbrev pub line_checked : {X : Type 0} → List (List Monomial) → Line → Result X Refusal → Result X Refusal
    line_checked F line next =
        provided (is_ok (checked ring order line.formula)) NotASheet
        (provided (are_steps (length F) line.steps) StepOutOfRange
        (provided (is_derived F line.formula line.steps) NotTheSum next))

    -- n lines after those before them, each wholly before the next is looked at
    abbrev pub lines_checked : ℕ → (before : List Line) → List ℕ → Result (List Line) Refusal
    lines_checked zero before bytes = all_read before bytes
    lines_checked (suc n) before bytes = given (read_line bytes) (λ r. line_checked (formulas before) r.item (lines_checked n (before ++ r.item ∷ []) r.rest))

    -- whether a job, worked over all lines, comes to zero or is covered
    abbrev pub is_settled : List (List Monomial) → Job → Bool
    is_settled F (Job.A k) = is_zero (job_reduced ring order F audit_reductions (Job.A k))
    is_settled F (Job.G i k) = is_some (cover ring order F i k)
    is_settled F (Job.S i k) = is_zero (job_reduced ring order F audit_reductions (Job.S i k))

    -- whether the first n jobs are settled
    abbrev pub are_settled : List (List Monomial) → ℕ → Bool
    are_settled F zero = true
    are_settled F (suc n) = is_settled F (job n) && are_settled F n

    -- the jobs, once every line stands
    abbrev pub jobs_checked : List Line → Result (Unit {0}) Refusal
    jobs_checked lines = provided (are_settled (formulas lines) (jobs lines)) NotSettled (Ok tt)

    -- the audit
    abbrev pub audited : List ℕ → Result (Unit {0}) Refusal
    audited [] = Err NotASheet
    audited (kinds ∷ []) = Err NotASheet
    audited (kinds ∷ n ∷ bytes) =
        provided (kinds == kinds_byte ring.kind order.kind) OtherKinds
        (provided (nat_le n max_lines) NotASheet
        (then (lines_checked n [] bytes) jobs_checked))
