-- What is refused, at this ring and this order, which the check does not find with the lemma named on the function.
use Rattle.model.proofs.RefusedInOrder.{refused_in_order}
use Rattle.model.proofs.laws.refusals_come_in_order.Goals as goal

pub returns : goal.returns
returns g c = record { refused_in_order = refused_in_order (g.R.Ring.meaning c.args.polynomials.now.ring) (g.O.Order.meaning c.args.polynomials.now.order) }
