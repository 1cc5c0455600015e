-- Lists of calls on a workbook just opened: the state they lead to, the relations granted on the way, and the answers.
use Rattle.std.specs.Prelude.{ℕ, List, [], ◌∷◌, ◌++◌, length, Ok, Err, Result}
use Rattle.refusal.specs.declared.Refusal.{Refusal}
use Rattle.ring.specs.CoefficientRing.{CoefficientRing}
use Rattle.order.specs.TermOrder.{TermOrder}
use Rattle.term.specs.declared.monomial.Monomial.{Monomial}
use Rattle.term.specs.declared.monomial.Step.{Step}
use Rattle.model.specs.Workbook.{State, opened}
use Rattle.model.specs.Calls.{Advanced, RemainderLeft, SheetLeft, advanced, decided, related, remainder, reported, written}
use Rattle.model.specs.declared.answers.Judgement.{Judgement}
use Rattle.model.specs.declared.answers.Advance.{Advance as AdvanceAnswer}
use Rattle.model.specs.declared.answers.Report.{Report as ReportAnswer}

-- a call with its arguments and the memory lent to it
pub data Call : Type 0 where
  Relate : (formula : List Monomial) → Call
  Advance : (jobs : ℕ) → Call
  Report : Call
  Remainder : (formula : List Monomial) → (allowance : ℕ) → (result : List Monomial) → (trail : List Step) → Call
  Decide : (formula : List Monomial) → (allowance : ℕ) → Call
  Write : (memory : List ℕ) → Call

-- what a call answers and leaves in the memory lent to it
pub data Answer : Type 0 where
  Line : Result ℕ Refusal → Answer
  Progress : AdvanceAnswer → Answer
  Standing : ReportAnswer → Answer
  Left : RemainderLeft → Answer
  Decision : Result Judgement Refusal → Answer
  Sheet : SheetLeft → Answer

-- a workbook with what was granted and answered since it was opened
pub record Run : Type 0 where
  pub state : State
  pub relations : List (List Monomial)
  pub answers : List Answer

abbrev pub at_start : Run
at_start = record { state = opened; relations = []; answers = [] }

-- a call that leaves the workbook as it was
abbrev pub answering : Run → Answer → Run
answering r answer = record { state = r.state; relations = r.relations; answers = r.answers ++ answer ∷ [] }

-- a granted relate puts its formula last among the relations
abbrev pub relating : Run → List Monomial → Result State Refusal → Run
relating r f (Ok state) = record { state = state; relations = r.relations ++ f ∷ []; answers = r.answers ++ Answer.Line (Ok (length r.state.lines)) ∷ [] }
relating r f (Err refusal) = answering r (Answer.Line (Err refusal))

abbrev pub advancing : Run → Advanced → Run
advancing r a = record { state = a.state; relations = r.relations; answers = r.answers ++ Answer.Progress a.answer ∷ [] }

module _ (ring : CoefficientRing) (order : TermOrder) where
  abbrev pub called : Run → Call → Run
  called r (Call.Relate f) = relating r f (related ring order r.state f)
  called r (Call.Advance k) = advancing r (advanced ring order k r.state)
  called r Call.Report = answering r (Answer.Standing (reported r.state))
  called r (Call.Remainder f allowance result trail) = answering r (Answer.Left (remainder ring order r.state f allowance result trail))
  called r (Call.Decide f allowance) = answering r (Answer.Decision (decided ring order r.state f allowance))
  called r (Call.Write memory) = answering r (Answer.Sheet (written ring order r.state memory))

  abbrev pub run_from : Run → List Call → Run
  run_from r [] = r
  run_from r (call ∷ calls) = run_from (called r call) calls

  abbrev pub run : List Call → Run
  run calls = run_from at_start calls
