-- What follows from the laws in every ring: quotients tell multiples.
use Rattle.std.proofs.Common.{◌≡◌, ℕ, ◌<◌, true, ◌↔◌, is_some, Some, None, Option, sym, refl, ◌∙◌}
use Rattle.std.proofs.lemmas.Bool.{false≢true}
use Rattle.std.proofs.lemmas.Option.{none-some}
use Rattle.ring.specs.CoefficientRing.{CoefficientRing}
use Rattle.ring.specs.Derived.{Divides, DivisibilityLaws, QuotientAlwaysNone}

module _ (ring : CoefficientRing) where
  -- what a quotient tells of multiples, for an answer o of the ring
  multiples_by_quotient : (a b : ℕ) (o : Option ℕ) → ring.quotient a b ≡ o → a < ring.size → b < ring.size → (is_some o ≡ true) ↔ Divides ring b a
  multiples_by_quotient a b None e ha hb =
      ((λ t. absurd (false≢true t)), λ m. absurd (ring.quotient_none_without_multiple a b ha hb e m))
  multiples_by_quotient a b (Some q) e ha hb =
      ((λ _. (q, ring.quotient_below a b q e, ring.quotient_times_divisor a b q ha hb e)), λ _. refl)

  not_always_none : QuotientAlwaysNone ring → ⊥
  not_always_none always =
      none-some ring.one (sym (always ring.one ring.one) ∙ ring.quotient_by_itself ring.one ring.one_below)

  pub divisibility_laws : DivisibilityLaws ring
  divisibility_laws = record { true_exactly_for_multiples = λ a b. multiples_by_quotient a b (ring.quotient a b) refl; quotient_is_not_always_none = not_always_none }
