-- What each call does to a workbook, and what it answers and leaves in the caller's memory.
use Rattle.std.specs.Prelude.{ℕ, zero, suc, min, Bool, true, false, cond, ◌&&◌, List, [], ◌∷◌, ◌++◌, map, length, drop, Ok, Err, Result, nat_le}
use Rattle.refusal.specs.declared.Refusal.{Refusal}
use Rattle.refusal.specs.declared.Refusal.TheVariants.{EmptyFormula, MemoryTooShort, NotComplete}
use Rattle.ring.specs.CoefficientRing.{CoefficientRing}
use Rattle.order.specs.TermOrder.{TermOrder}
use Rattle.term.specs.Packed.{monomial}
use Rattle.term.specs.declared.monomial.Monomial.{Monomial}
use Rattle.term.specs.declared.monomial.Step.{Step}
use Rattle.formula.specs.Formula.{checked, code, provided, term}
use Rattle.layout.specs.Line.{Line}
use Rattle.layout.specs.Writing.{kinds_byte, sheet_bytes}
use Rattle.model.specs.Workbook.{State, complete, entered, formulas}
use Rattle.model.specs.Jobs.{job}
use Rattle.model.specs.Reduction.{Reduction, at_greatest, reduced, then}
use Rattle.model.specs.Settling.{settled_by}
use Rattle.model.specs.declared.answers.Advance.{Advance}
use Rattle.model.specs.declared.answers.Judgement.{Judgement}
use Rattle.model.specs.declared.answers.Remainder.{Remainder}
use Rattle.model.specs.declared.answers.Report.{Report}
use Rattle.model.specs.declared.answers.Stop.{Stop}
use Rattle.model.specs.declared.answers.Stop.TheVariants.{Complete, Reached, Refused}
use Rattle.model.specs.declared.answers.Verdict.{Verdict}
use Rattle.model.specs.declared.answers.Verdict.TheVariants.{In, Out, Open}

-- the largest allowance of steps; a larger one counts as this
abbrev pub max_allowance : ℕ
max_allowance = 1024

-- whether a formula is not zero
abbrev pub has_head : List Monomial → Bool
has_head [] = false
has_head (m ∷ f) = true

-- memory with a list written at its start
abbrev pub written_over : {X : Type 0} → (list memory : List X) → List X
written_over list memory = list ++ drop (length list) memory

-- what an advance leaves and answers
pub record Advanced : Type 0 where
  pub state : State
  pub answer : Advance

-- an advance that stops at once
abbrev pub stopped : State → Stop → Advanced
stopped state stop = record { state = state; answer = record { settled = 0; stop = stop } }

-- an advance with one settled job before it
abbrev pub one_more : Advanced → Advanced
one_more a = record { state = a.state; answer = record { settled = suc a.answer.settled; stop = a.answer.stop } }

-- go on after a settled job, and stop at one that is refused
abbrev pub if_settled : State → Result State Refusal → (State → Advanced) → Advanced
if_settled state (Ok after) next = one_more (next after)
if_settled state (Err refusal) next = stopped state (Refused refusal)

-- what a report answers
abbrev pub reported : State → Report
reported state = record { lines = length state.lines; settled = state.settled; complete = complete state }

-- what a remainder answers, and what it leaves in both memories
pub record RemainderLeft : Type 0 where
  pub answer : Result Remainder Refusal
  pub result : List Monomial
  pub trail : List Step

-- a refused remainder leaves both memories as they were
abbrev pub nothing_left : Refusal → List Monomial → List Step → RemainderLeft
nothing_left refusal result trail = record { answer = Err refusal; result = result; trail = trail }

-- in for zero; out for another remainder in a complete workbook, and else open
abbrev pub verdict : (is_complete : Bool) → List Monomial → Verdict
verdict is_complete [] = In
verdict is_complete (m ∷ f) = cond is_complete Out Open

-- what a write answers, and what it leaves in memory
pub record SheetLeft : Type 0 where
  pub answer : Result ℕ Refusal
  pub memory : List ℕ

module _ (ring : CoefficientRing) where
  -- a step with the other sign
  abbrev pub opposite : Step → Step
  opposite s = record { factor = monomial (term s.factor) (ring.negative (code s.factor)); line = s.line }

  -- the trail of a remainder: the amounts that its steps subtract
  abbrev pub trail_of : List Step → List Step
  trail_of steps = map opposite steps

  -- what is left of a formula, in both memories if they are long enough
  abbrev pub into_memory : Result Reduction Refusal → (result : List Monomial) → (trail : List Step) → RemainderLeft
  into_memory (Err refusal) result trail = nothing_left refusal result trail
  into_memory (Ok r) result trail =
      cond (nat_le (length r.formula) (length result) && nat_le (length r.steps) (length trail))
      (record {
        answer = Ok (record { length = length r.formula; steps = length r.steps });
        result = written_over r.formula result;
        trail = written_over (trail_of r.steps) trail;
      })
      (nothing_left MemoryTooShort result trail)

  module _ (order : TermOrder) where
    -- relate: the checks, then the formula is the last line, a relation; its number is the number of lines before it
    abbrev pub related : State → List Monomial → Result State Refusal
    related state f =
        then (checked ring order f) (λ _.
        provided (has_head f) EmptyFormula
        (then (entered state.lines (record { formula = f; steps = [] })) (λ lines. Ok (record { lines = lines; settled = state.settled }))))

    -- the workbook with its next job settled
    abbrev pub next_settled : State → Result State Refusal
    next_settled state = then (settled_by ring order state.lines (job state.settled)) (λ lines. Ok (record { lines = lines; settled = suc state.settled }))

    -- advance: jobs are settled in order until all are, so many are, or one is refused
    abbrev pub advanced : ℕ → State → Advanced
    advanced zero state = cond (complete state) (stopped state Complete) (stopped state Reached)
    advanced (suc k) state = let more = if_settled state (next_settled state) (λ after. advanced k after) in cond (complete state) (stopped state Complete) more

    -- what is left of a formula that is checked, with the steps added on the way
    abbrev pub remaining : List Line → (f : List Monomial) → (allowance : ℕ) → Result Reduction Refusal
    remaining lines f allowance = then (checked ring order f) (λ _. reduced ring order (formulas lines) (at_greatest ring (formulas lines)) (min allowance max_allowance) f)

    -- remainder
    abbrev pub remainder : State → (f : List Monomial) → (allowance : ℕ) → (result : List Monomial) → (trail : List Step) → RemainderLeft
    remainder state f allowance result trail = into_memory (remaining state.lines f allowance) result trail

    -- decide
    abbrev pub decided : State → (f : List Monomial) → (allowance : ℕ) → Result Judgement Refusal
    decided state f allowance = then (remaining state.lines f allowance) (λ r. Ok (record { verdict = verdict (complete state) r.formula; steps = length r.steps }))

    -- the sheet of lines
    abbrev pub sheet : List Line → List ℕ
    sheet lines = sheet_bytes (kinds_byte ring.kind order.kind) lines

    -- write: the sheet at the start of memory, and its length
    abbrev pub written : State → (memory : List ℕ) → SheetLeft
    written state memory =
        cond (complete state)
        (cond (nat_le (length (sheet state.lines)) (length memory))
        (record { answer = Ok (length (sheet state.lines)); memory = written_over (sheet state.lines) memory })
        (record { answer = Err MemoryTooShort; memory = memory }))
        (record { answer = Err NotComplete; memory = memory })
