-- When each call is granted, and what it leaves then and else.
use Rattle.std.specs.Prelude.{◌≡◌, ℕ, ◌+◌, ◌<◌, ◌≤◌, min, true, false, ◌↔◌, List, [], ◌∷◌, ◌++◌, length, take, Ok, Err}
use Rattle.refusal.specs.declared.Refusal.{Refusal}
use Rattle.ring.specs.CoefficientRing.{CoefficientRing}
use Rattle.order.specs.TermOrder.{TermOrder}
use Rattle.term.specs.declared.monomial.Monomial.{Monomial}
use Rattle.term.specs.declared.monomial.Step.{Step}
use Rattle.formula.specs.Formula.{Formula}
use Rattle.layout.specs.Line.{Line}
use Rattle.layout.specs.Reading.{max_lines}
use Rattle.model.specs.Workbook.{State, WithinLimits, complete, formulas, has_room}
use Rattle.model.specs.Reduction.{ReducesTo, Reduction, at_greatest}
use Rattle.model.specs.Calls.{RemainderLeft, SheetLeft, advanced, decided, has_head, max_allowance, next_settled, nothing_left, related, remainder, sheet, trail_of, verdict, written, written_over}
use Rattle.model.specs.Runs.{Call, Run, called, run}
use Rattle.model.specs.Rules.{LineLawful, numbered}
use Rattle.model.specs.declared.answers.Judgement.{Judgement}
use Rattle.model.specs.declared.answers.Remainder.{Remainder}
use Rattle.model.specs.declared.answers.Stop.TheVariants.{Complete, Reached, Refused}

-- there is room for one more line
abbrev pub Roomy : List Line → Line → Type 0
Roomy lines line = (length lines < max_lines) × (has_room lines line ≡ true)

-- a formula as a line without steps, and the workbook with it at the end
abbrev pub as_relation : List Monomial → Line
as_relation f = record { formula = f; steps = [] }

abbrev pub with_relation : State → List Monomial → State
with_relation state f = record { lines = state.lines ++ as_relation f ∷ []; settled = state.settled }

-- both memories are long enough
abbrev pub Holds : Reduction → (result : List Monomial) → (trail : List Step) → Type 0
Holds left result trail = (length left.formula ≤ length result) × (length left.steps ≤ length trail)

abbrev pub lengths_of : Reduction → Remainder
lengths_of left = record { length = length left.formula; steps = length left.steps }

module _ (ring : CoefficientRing) where
  -- what a granted remainder answers and leaves
  abbrev pub remainder_left : Reduction → List Monomial → List Step → RemainderLeft
  remainder_left left result trail = record { answer = Ok (lengths_of left); result = written_over left.formula result; trail = written_over (trail_of ring left.steps) trail }

  module _ (order : TermOrder) where
    -- what a relate asks
    abbrev pub Relatable : State → List Monomial → Type 0
    Relatable state f = Formula ring order f × (has_head f ≡ true) × Roomy state.lines (as_relation f)

    -- f is a formula, and comes to what is left by at most so many steps, each of which lowers the greatest monomial that can be lowered
    abbrev pub Lowered : List Line → (f : List Monomial) → (allowance : ℕ) → Reduction → Type 0
    Lowered lines f allowance left =
        Formula ring order f
        × (ReducesTo ring order (formulas lines) (at_greatest ring (formulas lines)) f left.steps left.formula × (length left.steps ≤ min allowance max_allowance))

    -- what a remainder asks, with what is left and the steps to it
    pub record Remains (state : State) (f : List Monomial) (allowance : ℕ) (result : List Monomial) (trail : List Step) (r : Remainder) : Type 0 where
      pub left : Reduction
      pub lowered : Lowered state.lines f allowance left
      pub holding : Holds left result trail
      pub counts : r ≡ lengths_of left

    -- what a granted write answers and leaves
    abbrev pub sheet_left : State → (memory : List ℕ) → SheetLeft
    sheet_left state memory = record { answer = Ok (length (sheet ring order state.lines)); memory = written_over (sheet ring order state.lines) memory }

    -- each call that may be refused is granted exactly where its checks pass; it leaves what it is to leave then, and else everything as it was
    pub record GrantedExactly : Type 0 where
      pub relate : (state : State) (f : List Monomial) (after : State) → (related ring order state f ≡ Ok after) ↔ (Relatable state f × (after ≡ with_relation state f))
      pub remainder_granted : (state : State) (f : List Monomial) (allowance : ℕ) (result : List Monomial) (trail : List Step) (r : Remainder)
          → ((remainder ring order state f allowance result trail).answer ≡ Ok r) ↔ Remains state f allowance result trail r
      pub remainder_leaves : (state : State) (f : List Monomial) (allowance : ℕ) (result : List Monomial) (trail : List Step) (r : Remainder) (w : Remains state f allowance result trail r)
          → remainder ring order state f allowance result trail ≡ remainder_left w.left result trail
      pub remainder_refused : (state : State) (f : List Monomial) (allowance : ℕ) (result : List Monomial) (trail : List Step) (refusal : Refusal)
          → (remainder ring order state f allowance result trail).answer ≡ Err refusal → remainder ring order state f allowance result trail ≡ nothing_left refusal result trail
      pub decide : (state : State) (f : List Monomial) (allowance : ℕ) (j : Judgement)
          → (decided ring order state f allowance ≡ Ok j) ↔ ((left : Reduction) × Lowered state.lines f allowance left × (j ≡ record { verdict = verdict (complete state) left.formula; steps = length left.steps }))
      pub write_granted : (state : State) (memory : List ℕ) (n : ℕ)
          → ((written ring order state memory).answer ≡ Ok n) ↔ ((complete state ≡ true) × (n ≡ length (sheet ring order state.lines)) × (length (sheet ring order state.lines) ≤ length memory))
      pub write_leaves : (state : State) (memory : List ℕ) (n : ℕ) → (written ring order state memory).answer ≡ Ok n → written ring order state memory ≡ sheet_left state memory
      pub write_refused : (state : State) (memory : List ℕ) (refusal : Refusal) → (written ring order state memory).answer ≡ Err refusal → (written ring order state memory).memory ≡ memory

    -- what an advance by k does: it settles jobs one by one, and stops for the reason it gives
    pub record AdvanceLaw (k : ℕ) (state : State) : Type 0 where
      -- the jobs it settled are counted, and are no more than were asked for
      pub counted : (advanced ring order k state).state.settled ≡ state.settled + (advanced ring order k state).answer.settled
      pub at_most : (advanced ring order k state).answer.settled ≤ k
      -- it says complete exactly when the workbook is complete, also for k = 0
      pub says_complete : ((advanced ring order k state).answer.stop ≡ Complete) ↔ (complete (advanced ring order k state).state ≡ true)
      -- it says reached only when k jobs were settled
      pub says_reached : (advanced ring order k state).answer.stop ≡ Reached → (advanced ring order k state).answer.settled ≡ k
      -- it says refused only where the next job is refused, and fewer than k were settled
      pub says_refused : (refusal : Refusal) → (advanced ring order k state).answer.stop ≡ Refused refusal
          → (next_settled ring order (advanced ring order k state).state ≡ Err refusal) × ((advanced ring order k state).answer.settled < k)
      -- lines are only added, at the end
      pub lines_stay : (more : List Line) × ((advanced ring order k state).state.lines ≡ state.lines ++ more)

    -- every workbook of a run keeps the limits, and each of its lines is lawful after those before it, so names earlier lines only
    pub record RunLimits (calls : List Call) : Type 0 where
      pub within : WithinLimits (run ring order calls).state
      pub lawful_lines : (k : ℕ) → k < length (run ring order calls).state.lines → LineLawful ring order (formulas (take k (run ring order calls).state.lines)) (numbered (run ring order calls).state.lines k)
      -- a further relation leaves a complete workbook incomplete
      pub relate_leaves_incomplete : complete (run ring order calls).state ≡ true → (f : List Monomial) (after : State) → related ring order (run ring order calls).state f ≡ Ok after → complete after ≡ false

    -- only a granted relate and an advance change the workbook, and only a granted relate changes the relations
    pub record OnlyRelateAndAdvanceChange (r : Run) : Type 0 where
      pub refused_relate : (f : List Monomial) (refusal : Refusal) → related ring order r.state f ≡ Err refusal → ((called ring order r (Call.Relate f)).state ≡ r.state) × ((called ring order r (Call.Relate f)).relations ≡ r.relations)
      pub granted_relate : (f : List Monomial) (after : State) → related ring order r.state f ≡ Ok after → ((called ring order r (Call.Relate f)).state ≡ after) × ((called ring order r (Call.Relate f)).relations ≡ r.relations ++ f ∷ [])
      pub advance_keeps_relations : (k : ℕ) → (called ring order r (Call.Advance k)).relations ≡ r.relations
      pub report_keeps : ((called ring order r Call.Report).state ≡ r.state) × ((called ring order r Call.Report).relations ≡ r.relations)
      pub remainder_keeps : (f : List Monomial) (allowance : ℕ) (result : List Monomial) (trail : List Step)
          → ((called ring order r (Call.Remainder f allowance result trail)).state ≡ r.state) × ((called ring order r (Call.Remainder f allowance result trail)).relations ≡ r.relations)
      pub decide_keeps : (f : List Monomial) (allowance : ℕ) → ((called ring order r (Call.Decide f allowance)).state ≡ r.state) × ((called ring order r (Call.Decide f allowance)).relations ≡ r.relations)
      pub write_keeps : (memory : List ℕ) → ((called ring order r (Call.Write memory)).state ≡ r.state) × ((called ring order r (Call.Write memory)).relations ≡ r.relations)

    -- so it is for every advance, every list of calls and every run
    abbrev pub AdvanceLaws : Type 0
    AdvanceLaws = (k : ℕ) (state : State) → AdvanceLaw k state

    abbrev pub LimitsOfRuns : Type 0
    LimitsOfRuns = (calls : List Call) → RunLimits calls

    abbrev pub OnlyRelateAndAdvance : Type 0
    OnlyRelateAndAdvance = (r : Run) → OnlyRelateAndAdvanceChange r
