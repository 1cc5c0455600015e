-- The pair is made exactly where its plan is granted.
use Rattle.std.proofs.lemmas.Result.{err_from_is_err_and}
use Rattle.ring_plan.proofs.Plans.{refused_left, refused_right, made_pair}
use Rattle.ring_plan.proofs.making.residue_pair.Goals as goal

pub returns-in_err-left : goal.returns-in_err-left
returns-in_err-left c =
    let p = err_from_is_err_and c.from_residual.result c.from_residual.ensures.1 in
    rw (p.1, p.2) (refused_left c.args.p c.args.q c.in_err-left.field-0.0 c.in_err-left.ensures)

pub returns-in_err-right : goal.returns-in_err-right
returns-in_err-right c =
    let p = err_from_is_err_and c.from_residual-in_err-right.result c.from_residual-in_err-right.ensures.1 in
    rw (p.1, p.2) (refused_right c.args.p c.args.q c.in_err-right.field-0.0 c.in_err-right.ensures)

pub returns : goal.returns
returns c = made_pair c.in_ok-left.left c.in_ok-right.right c.args.p c.args.q _ c.in_ok-left.ensures c.in_ok-right.ensures c.new-3.ensures.value
