-- Unique remainders at this ring and this order, which the check does not find with the lemma named on the function.
use Rattle.basis.proofs.Remainders.{remainders_are_unique}
use Rattle.basis.proofs.remainders_are_unique.Goals as goal

pub returns : goal.returns
returns g c = remainders_are_unique (g.R.Ring.meaning c.args.polynomials.now.ring) (g.O.Order.meaning c.args.polynomials.now.order)
