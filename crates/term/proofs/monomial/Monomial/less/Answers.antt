use Rattle.std.proofs.Common.{arith}
use Rattle.term.proofs.Packing.{quotient_found}
use Rattle.term.proofs.monomial.Monomial.less.Goals as goal

pub returns : goal.returns
returns c = quotient_found c.args.self.bits c.args.divisor.bits (omega arith) (omega arith) c.requires
