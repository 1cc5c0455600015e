-- The codes of a pair taken apart into their sides.
use Rattle.std.specs.Prelude.{ℕ, Some, None, Option}
use Rattle.ring.specs.CoefficientRing.{CoefficientRing}
use Rattle.ring.specs.Within.{within, both_within}
use Rattle.ring.specs.Pair.{pair_size, left, right}
use Rattle.pair.specs.declared.sides.Sides.{Sides}

module _ (L R : CoefficientRing) where
  -- the two sides of a number
  abbrev pub sides_of : ℕ → Sides
  sides_of a = record { left = left L R a; right = right L R a }

  -- the sides of a code of the pair, none for another number
  abbrev pub split : ℕ → Option Sides
  split a = within (pair_size L R) a (Some (sides_of a)) None

  -- the sides of two codes of the pair, none where either is another number
  abbrev pub both_split : ℕ → ℕ → Option (Sides × Sides)
  both_split a b = both_within (pair_size L R) a b (Some (sides_of a, sides_of b)) None
