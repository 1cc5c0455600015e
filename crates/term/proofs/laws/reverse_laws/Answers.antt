use Rattle.std.proofs.Common.{refl}
use Rattle.term.specs.Orders.{reverse}
use Rattle.term.proofs.PackedOrders.{degree_then_last_register_decides}
use Rattle.term.proofs.laws.reverse_laws.Goals as goal

pub returns : goal.returns
unfolding reverse
returns c = record { kind = refl; in_words = degree_then_last_register_decides }
