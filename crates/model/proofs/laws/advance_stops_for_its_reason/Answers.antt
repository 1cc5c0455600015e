-- The law of an advance, at this ring and this order, which the check does not find with the lemma named on the function.
use Rattle.model.proofs.Advances.{advance_law}
use Rattle.model.proofs.laws.advance_stops_for_its_reason.Goals as goal

pub returns : goal.returns
returns g c = record { advance_law = advance_law (g.R.Ring.meaning c.args.polynomials.now.ring) (g.O.Order.meaning c.args.polynomials.now.order) }
