-- The three orders, each with its number, its relation and the proof of its laws.
use Rattle.std.proofs.Common.{lit≤}
use Rattle.order.specs.Term.{Term, weighted}
use Rattle.order.specs.TermOrder.{TermOrder}
use Rattle.order.specs.Keys.{KeyFirst, ByKeys, lex_keys, reverse_keys}
use Rattle.order.proofs.Keys.{order_of, by_keys, key_first, lawful}
use Rattle.order.proofs.Orders.{lex_additive, lex_apart, reverse_additive, reverse_apart, weighted_additive}

-- kind 1: the exponents from a on
unfoldable pub lex : TermOrder
lex = order_of 1 (lit≤ tt) (lit≤ tt) (ByKeys lex_keys) (by_keys lex_keys lex_additive) lex_apart

-- kind 2: the total degree, then the degrees without the last registers
unfoldable pub reverse : TermOrder
reverse = order_of 2 (lit≤ tt) (lit≤ tt) (ByKeys reverse_keys) (by_keys reverse_keys reverse_additive) reverse_apart

-- kind 3, over any order: the sum of exponent times weight, then the order below
unfoldable pub weight : (weights : Term) → (below : TermOrder) → TermOrder
weight w below = order_of 3 (lit≤ tt) (lit≤ tt) (KeyFirst (weighted w) below.before) (key_first (weighted w) (weighted_additive w) (lawful below)) (λ s t h. h.1)
