-- Multiples and quotients in a pair of rings: both go by sides.
use Rattle.std.proofs.Common.{◌≡◌, ℕ, ◌<◌, Some, None, Option, sym, refl, ap, ◌∙◌}
use Rattle.std.proofs.lemmas.Option.{none-some}
use Rattle.ring.specs.CoefficientRing.{CoefficientRing, Multiple}
use Rattle.ring.specs.Pair.{pair_size, left, right, joined, pair_product, joined_quotient, pair_quotient}
use Rattle.ring.proofs.Withins.{both_within_inside, both_within_either}
use Rattle.ring.proofs.PairCodes.{left_of_joined, right_of_joined, joined_below}
use Rattle.ring.proofs.PairSides.{Side, ring_on, code_on, Reads, itself, reads_below, equal_by_sides, choose, product_on}
use Rattle.ring.proofs.PairSides.Side.{on_left, on_right}

module _ (L R : CoefficientRing) where
  -- x is a multiple of y on side s
  abbrev MultipleOn : Side → ℕ → ℕ → Type 0
  MultipleOn s x y = Multiple (ring_on L R s).size (ring_on L R s).product x y

  pub multiple_on : {s : Side} {a b x y : ℕ} → Reads L R s a x → Reads L R s b y → Multiple (pair_size L R) (pair_product L R) a b → MultipleOn s x y
  multiple_on {s} p q (c, h, e) =
      (code_on L R s c, reads_below (itself s h), sym (product_on (itself s h) q).is ∙ ap (code_on L R s) e ∙ p.is)

  pub multiple_by_sides : {a b : ℕ} {x y : Side → ℕ} → ((s : Side) → Reads L R s a (x s)) → ((s : Side) → Reads L R s b (y s)) → ((s : Side) → MultipleOn s (x s) (y s)) → Multiple (pair_size L R) (pair_product L R) a b
  multiple_by_sides {x = x} {y} p q each =
      let (c, h, on) = choose L R (λ s z. (ring_on L R s).product z (y s) ≡ x s) each in
      (c, h, equal_by_sides (λ s. product_on (itself s h) (q s)) p on)

  -- o and p hold two codes, and q is their pair
  abbrev Joins : (o p : Option ℕ) (q : ℕ) → Type 0
  Joins o p q = (x : ℕ) × (y : ℕ) × (o ≡ Some x) × (p ≡ Some y) × (q ≡ joined L R x y)

  joined_quotient_joins : (o p : Option ℕ) (q : ℕ) → joined_quotient L R o p ≡ Some q → Joins o p q
  joined_quotient_joins None p q e = absurd (none-some q e)
  joined_quotient_joins (Some x) None q e = absurd (none-some q e)
  joined_quotient_joins (Some x) (Some y) q e = (x, y, refl, refl, cc)

  quotient_joins : (a b q : ℕ) → pair_quotient L R a b ≡ Some q → Joins (L.quotient (left L R a) (left L R b)) (R.quotient (right L R a) (right L R b)) q
  quotient_joins a b q =
      let o = L.quotient (left L R a) (left L R b) in
      let p = R.quotient (right L R a) (right L R b) in
      both_within_either (λ r. r ≡ Some q → Joins o p q) (pair_size L R) a b (joined_quotient L R o p) None
      (λ _ _. joined_quotient_joins o p q)
      (λ e. absurd (none-some q e))

  pub pair_quotient_below : (a b q : ℕ) → pair_quotient L R a b ≡ Some q → q < pair_size L R
  pair_quotient_below a b q e =
      let (x, y, ex, ey, eq) = quotient_joins a b q e in
      rw eq (joined_below L R x y (L.quotient_below _ _ x ex) (R.quotient_below _ _ y ey))

  pub quotient_on : (s : Side) (a b q : ℕ) → pair_quotient L R a b ≡ Some q → (ring_on L R s).quotient (code_on L R s a) (code_on L R s b) ≡ Some (code_on L R s q)
  quotient_on on_left a b q e =
      let (x, y, ex, ey, eq) = quotient_joins a b q e in
      ex ∙ ap Some (sym (ap (left L R) eq ∙ left_of_joined L R x y (R.quotient_below _ _ y ey)))
  quotient_on on_right a b q e =
      let (x, y, ex, ey, eq) = quotient_joins a b q e in
      ey ∙ ap Some (sym (ap (right L R) eq ∙ right_of_joined L R x y (R.quotient_below _ _ y ey)))

  -- where there is no quotient, a side has none
  joined_quotient_none : (o p : Option ℕ) → joined_quotient L R o p ≡ None → (o ≡ None → ⊥) → (p ≡ None → ⊥) → ⊥
  joined_quotient_none None p e no_left no_right = no_left refl
  joined_quotient_none (Some x) None e no_left no_right = no_right refl
  joined_quotient_none (Some x) (Some y) e no_left no_right = cc

  pub quotient_none_on_a_side : (a b : ℕ) → a < pair_size L R → b < pair_size L R → pair_quotient L R a b ≡ None → ((s : Side) → (ring_on L R s).quotient (code_on L R s a) (code_on L R s b) ≡ None → ⊥) → ⊥
  quotient_none_on_a_side a b ha hb e none =
      joined_quotient_none _ _ (sym (both_within_inside _ a b _ None ha hb) ∙ e) (none on_left) (none on_right)
