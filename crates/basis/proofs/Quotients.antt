-- The quotient by a divisor is a code, and gives back the product.
use Rattle.std.proofs.Common.{◌≡◌, ℕ, ◌<◌, Some, None, Option, unwrap_or, refl}
use Rattle.ring.specs.CoefficientRing.{CoefficientRing, Multiple}
use Rattle.basis.proofs.Codes.{zero_below}

module _ (ring : CoefficientRing) (a b : ℕ) where
  below : (o : Option ℕ) → ring.quotient a b ≡ o → unwrap_or o 0 < ring.size
  below (Some q) e = ring.quotient_below a b q e
  below None e = zero_below ring

  pub quotient_is_code : unwrap_or (ring.quotient a b) 0 < ring.size
  quotient_is_code = below (ring.quotient a b) refl

  gives_back : (o : Option ℕ) → ring.quotient a b ≡ o → a < ring.size → b < ring.size → Multiple ring.size ring.product a b → ring.product (unwrap_or o 0) b ≡ a
  gives_back (Some q) e ha hb m = ring.quotient_times_divisor a b q ha hb e
  gives_back None e ha hb m = absurd (ring.quotient_none_without_multiple a b ha hb e m)

  pub quotient_gives_back : a < ring.size → b < ring.size → Multiple ring.size ring.product a b → ring.product (unwrap_or (ring.quotient a b) 0) b ≡ a
  quotient_gives_back = gives_back (ring.quotient a b) refl
