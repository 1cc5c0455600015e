-- The pair of a pair is made exactly where its plan is granted.
use Rattle.std.proofs.lemmas.Result.{err_from_is_err_and}
use Rattle.ring_plan.proofs.Plans.{refused_pair, refused_last, made_triple}
use Rattle.ring_plan.proofs.making.residue_triple.Goals as goal

pub returns-in_err-left : goal.returns-in_err-left
returns-in_err-left c =
    let a = c.args in
    let p = err_from_is_err_and c.from_residual.result c.from_residual.ensures.1 in
    rw (p.1, p.2) (refused_pair a.p a.q a.r c.in_err-left.field-0.0 c.in_err-left.ensures)

pub returns-in_err-right : goal.returns-in_err-right
returns-in_err-right c =
    let a = c.args in
    let p = err_from_is_err_and c.from_residual-in_err-right.result c.from_residual-in_err-right.ensures.1 in
    rw (p.1, p.2) (refused_last a.p a.q a.r c.in_err-right.field-0.0 c.in_err-right.ensures)

pub returns : goal.returns
returns c =
    let a = c.args in
    made_triple c.in_ok-left.left c.in_ok-right.right a.p a.q a.r _ c.in_ok-left.ensures c.in_ok-right.ensures c.new-2.ensures.value
