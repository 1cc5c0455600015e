-- What one of two orders means: what the one means that the value holds.
use Rattle.either.specs.declared.Either.{Either}
use Rattle.either.specs.declared.Either.TheVariants.{Left, Right}
use Rattle.order.specs.TermOrder.{TermOrder}

abbrev pub order_meaning : {L R : Type 0} → (L → TermOrder) → (R → TermOrder) → Either L R → TermOrder
order_meaning left right (Left order) = left order
order_meaning left right (Right order) = right order
