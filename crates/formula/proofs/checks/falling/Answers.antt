-- The test of each two neighbours gives the answer.
use Rattle.std.proofs.Common.{rules, tests}
use Rattle.std.proofs.lemmas.Fn.{always_returns_same}
use Rattle.formula.specs.Formula.{is_before}
use Rattle.formula.proofs.Checking.{falling_by_neighbours}
use Rattle.formula.proofs.checks.falling.Goals as goal

pub returns : goal.returns
returns g c =
    let order = g.O.Order.meaning c.args.order.now in
    falling_by_neighbours order c.args.formula.now c.is_sorted_by.result (c.is_sorted_by.ensures.cases (λ m n. is_before order n m) (always_returns_same _ _ _ (λ a r f k. search (rules, tests))))
