use Rattle.std.proofs.Common.{refl}
use Rattle.term.specs.Orders.{lex}
use Rattle.term.proofs.PackedOrders.{first_register_decides}
use Rattle.term.proofs.laws.lex_laws.Goals as goal

pub returns : goal.returns
unfolding lex
returns c = record { kind = refl; in_words = first_register_decides }
