-- The comparison of the degrees, and on a tie of the mirrored terms.
use Rattle.std.proofs.Common.{◌∙◌, inl, rules}
use Rattle.order.specs.Term.{degree}
use Rattle.term.specs.Orders.{reverse}
use Rattle.term.specs.Packed.{term_of}
use Rattle.term.proofs.Packing.{packing_laws}
use Rattle.term.proofs.PackedOrders.{first_then, reverse_tie, then_on_tie}
use Rattle.term.proofs.kinds.ReverseOrder.compare.Goals as goal

pub returns-clause-value : goal.returns-clause-value
unfolding reverse
returns-clause-value c =
    let s = term_of c.args.a.bits in
    let t = term_of c.args.b.bits in
    first_then reverse degree s t inl inl c.degree.ensures c.degree-2.ensures c.cmp.ensures _
    (λ e h. h ∙ reverse_tie s t c.cmp-2.result (packing_laws.term_fits c.args.a.bits) (packing_laws.term_fits c.args.b.bits) e (search rules)) (then_on_tie _ _ _ c.then.ensures)
