use Rattle.std.proofs.Common.{arith}
use Rattle.modular.proofs.Turns.{turn_start, turn_more, turn_end, turn_factor}
use Rattle.modular.proofs.Multipliers.{solves_divisor}
use Rattle.modular.proofs.euclid.divisor_with_factor.Goals as goal

pub loop-s-init : goal.loop-s-init
loop-s-init c = turn_start c.args.b c.args.n (omega arith)

pub loop-s-preserved : goal.loop-s-preserved
loop-s-preserved c = rw c.less_multiple.ensures (turn_more _ _ _ _ _ _ (omega arith) c.loop-s-test.true c.loop-s.invariant)

pub returns : goal.returns
returns c =
    let turn = c.loop-s.invariant in
    solves_divisor c.args.b c.args.n c.loop-s.r c.loop-s.x (omega arith) (turn_end _ _ _ _ _ _ c.loop-s-test.false turn) (turn_factor _ _ _ _ _ _ c.loop-s-test.false turn)
