-- What each command answers, and which ring and order stand after it.
use Rattle.std.specs.Prelude.{ℕ, cond, List, Ok, Err, Result}
use Rattle.refusal.specs.declared.Refusal.{Refusal}
use Rattle.refusal.specs.declared.Refusal.TheVariants.{RingSize}
use Rattle.ring.specs.CoefficientRing.{CoefficientRing}
use Rattle.order.specs.TermOrder.{TermOrder, compared}
use Rattle.formula.specs.Formula.{term}
use Rattle.ring_plan.specs.declared.RingPlan.{RingPlan}
use Rattle.ring_plan.specs.Rings.{size_of, possible}
use Rattle.script.specs.Listed.{listed}
use Rattle.script.specs.declared.command.PlainCommand.{PlainCommand}
use Rattle.script.specs.declared.command.PlainCommand.TheVariants as command
use Rattle.script.specs.declared.command.FormulaCommand.{FormulaCommand}
use Rattle.script.specs.declared.command.FormulaCommand.TheVariants.{Show, Add}
use Rattle.answer.specs.declared.Answer.{Answer}
use Rattle.answer.specs.declared.Answer.TheVariants as answer
use Rattle.answer.specs.Formulas.{shown_formula, sum_of}
use Rattle.answer.specs.Operated.{operated}
use Rattle.answer.specs.Texts.{text_of_formula}
use Rattle.panel.specs.Orders.{AnyOrder, meaning_of}

-- what a plan answers: the number of codes of its ring, or a refusal
abbrev pub planned : RingPlan → Result Answer Refusal
planned plan = cond (possible plan) (Ok (answer.Ring (size_of plan))) (Err RingSize)

-- the plan of the ring that stands after a plan: that plan, or the old one where there is no such ring
abbrev pub plan_after : RingPlan → RingPlan → RingPlan
plan_after old plan = cond (possible plan) plan old

-- what a command without formulas answers where a ring and an order stand
abbrev pub answer_of : CoefficientRing → TermOrder → PlainCommand → Result Answer Refusal
answer_of ring order (command.Ring plan) = planned plan
answer_of ring order (command.Order new) = Ok (answer.Order (meaning_of new).kind)
answer_of ring order (command.Operation operation) = Ok (operated ring operation)
answer_of ring order (command.Compare a b) = Ok (answer.Comparison (compared order (term a) (term b)))

-- the line that a command with formulas answers
abbrev pub formula_line_of : CoefficientRing → TermOrder → FormulaCommand → List ℕ
formula_line_of ring order (Show f) = text_of_formula ring.one (shown_formula ring order (listed f))
formula_line_of ring order (Add a) = text_of_formula ring.one (sum_of ring order (listed a.formula) a.factor (listed a.line))

-- the plan of the ring that stands after a command without formulas; one with formulas changes nothing
abbrev pub ring_after : RingPlan → PlainCommand → RingPlan
ring_after old (command.Ring plan) = plan_after old plan
ring_after old (command.Order new) = old
ring_after old (command.Operation operation) = old
ring_after old (command.Compare a b) = old

-- the order that stands after a command without formulas
abbrev pub order_after : AnyOrder → PlainCommand → AnyOrder
order_after old (command.Ring plan) = old
order_after old (command.Order new) = new
order_after old (command.Operation operation) = old
order_after old (command.Compare a b) = old
