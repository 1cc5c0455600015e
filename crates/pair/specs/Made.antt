-- What making a pair gives.
use Rattle.std.specs.Prelude.{cond, Ok, Err, Result}
use Rattle.refusal.specs.declared.Refusal.{Refusal}
use Rattle.refusal.specs.declared.Refusal.TheVariants.{RingSize}
use Rattle.ring.specs.declared.ring.Ring.{Ghosts}
use Rattle.ring.specs.CoefficientRing.{CoefficientRing}
use Rattle.pair.specs.declared.PairRing.{PairRing}
use Rattle.pair.specs.Paired.{few_enough}

-- the sides of the pair that is made of two values which stand for the rings L and R, refused where it would have more than 65,536 codes
abbrev pub made : {A B : Type 0} → (L R : CoefficientRing) → A → B → Result (A × B) Refusal
made L R a b = cond (few_enough L R) (Ok (a, b)) (Err RingSize)

-- the sides of the pair that was made
abbrev pub parts_of : {A B : Type 0} {L : Ghosts A} {R : Ghosts B} → Result (PairRing A B L R) Refusal → Result (A × B) Refusal
parts_of (Ok pair) = Ok (pair.left, pair.right)
parts_of (Err refusal) = Err refusal
