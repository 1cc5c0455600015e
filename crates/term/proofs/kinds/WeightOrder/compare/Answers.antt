-- The comparison of the sums, and on a tie by the order below.
use Rattle.std.proofs.Common.{◌∙◌, inl, sym}
use Rattle.order.specs.Term.{weighted}
use Rattle.term.specs.Orders.{weight}
use Rattle.term.specs.Packed.{term_of}
use Rattle.term.proofs.PackedOrders.{decided, first_then, undecided, weight_tie}
use Rattle.term.proofs.kinds.WeightOrder.compare.Goals as goal

pub returns-then-is_ne : goal.returns-then-is_ne
unfolding weight
returns-then-is_ne g c =
    let w = term_of c.args.self.now.weights.bits in
    let below = g.O.Order.meaning c.args.self.now.below in
    let s = term_of c.args.a.bits in
    let t = term_of c.args.b.bits in
    first_then (weight w below) (weighted w) s t inl inl c.weighted_degree.ensures c.weighted_degree-2.ensures c.cmp-by_weight.ensures _
    (λ e h. absurd h) (decided _ (sym c.is_ne.ensures ∙ c.if-is_ne.true))

pub returns : goal.returns
unfolding weight
returns g c =
    let w = term_of c.args.self.now.weights.bits in
    let below = g.O.Order.meaning c.args.self.now.below in
    let s = term_of c.args.a.bits in
    let t = term_of c.args.b.bits in
    first_then (weight w below) (weighted w) s t inl inl c.weighted_degree.ensures c.weighted_degree-2.ensures c.cmp-by_weight.ensures _
    (λ e h. h ∙ weight_tie w below s t e) (undecided _ (sym c.is_ne.ensures ∙ c.if-is_ne.false) c.compare.ensures)
