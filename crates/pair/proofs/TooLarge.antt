-- Two rings that have too many pairs.
use Rattle.std.proofs.Common.{◌≡◌, Bool, true, false, sym, refl}
use Rattle.std.proofs.lemmas.Bool.{false≢true}
use Rattle.ring.specs.CoefficientRing.{CoefficientRing}
use Rattle.pair.specs.Paired.{TooLargeIsLeft, few_enough, paired_if}

module _ (L R : CoefficientRing) where
  -- whatever the test of the pairs tells
  left_if : (few : Bool) (is : few_enough L R ≡ few) → few ≡ false → paired_if L R few is ≡ L
  left_if true is h = absurd (false≢true (sym h))
  left_if false is h = refl

  -- so the meaning of their pair is the left ring
  pub too_large_is_left : TooLargeIsLeft L R
  too_large_is_left h = left_if (few_enough L R) refl h
