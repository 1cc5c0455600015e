-- What one of two rings means: what the one means that the value holds.
use Rattle.either.specs.declared.Either.{Either}
use Rattle.either.specs.declared.Either.TheVariants.{Left, Right}
use Rattle.ring.specs.CoefficientRing.{CoefficientRing}

abbrev pub ring_meaning : {L R : Type 0} → (L → CoefficientRing) → (R → CoefficientRing) → Either L R → CoefficientRing
ring_meaning left right (Left ring) = left ring
ring_meaning left right (Right ring) = right ring
