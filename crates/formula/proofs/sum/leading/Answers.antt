-- As many monomials are counted as pass the test in front.
use Rattle.std.proofs.Common.{◌∙◌, rules, tests}
use Rattle.std.proofs.lemmas.Iterator.{YieldsList-from_slice}
use Rattle.std.proofs.lemmas.Iterator.Consumers.{count_from_yields_List}
use Rattle.std.proofs.lemmas.Iterator.Search.{YieldsList-from_take_while}
use Rattle.std.proofs.lemmas.List.Folds.{length-prefix_len}
use Rattle.formula.specs.Formula.{is_after}
use Rattle.formula.proofs.sum.leading.Goals as goal

pub returns : goal.returns
returns g c =
    let order = g.O.Order.meaning c.args.order.now in
    let list = c.args.list.now in
    count_from_yields_List _ _ c.count.ensures.ran (YieldsList-from_take_while _ (is_after order c.args.product) (YieldsList-from_slice list cc) c.take_while.ensures.closure c.take_while.ensures.done (λ x b q k. search (rules, tests))) ∙ length-prefix_len (is_after order c.args.product) list
