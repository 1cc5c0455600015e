-- The law of adding at the ring and the order given, which the check does not find with the lemma named on the function.
use Rattle.formula.proofs.Adding.{addition_law}
use Rattle.formula.proofs.laws.addition_law.Goals as goal

pub returns : goal.returns
returns g c = addition_law (g.R.Ring.meaning c.args.polynomials.now.ring) (g.O.Order.meaning c.args.polynomials.now.order)
