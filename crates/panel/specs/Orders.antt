-- The orders of a script and what they mean.
use Rattle.either.specs.declared.Either.{Either}
use Rattle.either.specs.declared.Either.TheVariants.{Left}
use Rattle.order.specs.TermOrder.{TermOrder}
use Rattle.term.specs.Orders.{lex, reverse, weight}
use Rattle.term.specs.Packed.{term_of}
use Rattle.term.specs.EitherOrder.{order_meaning}
use Rattle.term.specs.declared.kinds.Lex.{Lex}
use Rattle.term.specs.declared.kinds.Reverse.{Reverse}
use Rattle.term.specs.declared.kinds.Weight.{Weight}

-- lex or reverse
abbrev pub PlainOrder : Type 0
PlainOrder = Either Lex Reverse

-- one of them, or a weight over one of them
abbrev pub AnyOrder : Type 0
AnyOrder = Either PlainOrder (Weight PlainOrder)

-- what they mean
abbrev pub plain_meaning : PlainOrder → TermOrder
plain_meaning order = order_meaning (λ _. lex) (λ _. reverse) order

abbrev pub weight_meaning : Weight PlainOrder → TermOrder
weight_meaning order = weight (term_of order.weights.bits) (plain_meaning order.below)

abbrev pub meaning_of : AnyOrder → TermOrder
meaning_of order = order_meaning plain_meaning weight_meaning order

-- the order that a script starts with
abbrev pub first_order : AnyOrder
first_order = Left (Left (record {}))
