use Rattle.modular.proofs.Turns.{Turn}
use Rattle.modular.proofs.euclid.divisor_with_factor.Given as goal

abbrev pub invariant-loop-s : goal.invariant-loop-s
invariant-loop-s l = Turn l.b l.n l.r l.s l.x l.y

abbrev pub decreases-loop-s : goal.decreases-loop-s
decreases-loop-s l = l.s
