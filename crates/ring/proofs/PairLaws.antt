-- The laws of a pair of rings, one for each law of a coefficient ring: each holds since it holds on both sides.
use Rattle.std.proofs.Common.{◌≡◌, ℕ, ◌<◌, ◌≤◌, Some, None, ◌∙◌, ap₂}
use Rattle.ring.specs.CoefficientRing.{CoefficientRing, Multiple}
use Rattle.ring.specs.Pair.{pair_size, left, right, joined, pair_one, pair_sum, pair_negative, pair_product, joined_quotient, pair_quotient, pair_gcd, pair_annihilator, pair_residue}
use Rattle.ring.proofs.Withins.{both_within_inside}
use Rattle.ring.proofs.PairCodes.{joined_not_above}
use Rattle.ring.proofs.PairSides.{Side, ring_on, code_on, Reads, itself, reads_below, same_reading, equal_by_sides, zero_on, one_on, sum_on, negative_on, product_on, gcd_g_on, gcd_u_on, gcd_v_on, annihilator_on, residue_on}
use Rattle.ring.proofs.PairSides.Side.{on_left, on_right}
use Rattle.ring.proofs.PairMultiples.{multiple_on, multiple_by_sides, pair_quotient_below, quotient_on, quotient_none_on_a_side}

module _ (L R : CoefficientRing) where
  -- a code of the pair on each side, and its bound there
  self : {a : ℕ} → a < pair_size L R → (s : Side) → Reads L R s a (code_on L R s a)
  self h s = itself s h

  below : (s : Side) {a : ℕ} → a < pair_size L R → code_on L R s a < (ring_on L R s).size
  below s h = reads_below (itself s h)

  -- sum, negative and product make a commutative ring, and one is not zero
  pub pair_sum_commutes : (a b : ℕ) → a < pair_size L R → b < pair_size L R → pair_sum L R a b ≡ pair_sum L R b a
  pair_sum_commutes a b ha hb =
      equal_by_sides
      (λ s. sum_on (self ha s) (self hb s))
      (λ s. sum_on (self hb s) (self ha s))
      (λ s. (ring_on L R s).sum_commutes _ _ (below s ha) (below s hb))

  pub pair_sum_associates : (a b c : ℕ) → a < pair_size L R → b < pair_size L R → c < pair_size L R → pair_sum L R (pair_sum L R a b) c ≡ pair_sum L R a (pair_sum L R b c)
  pair_sum_associates a b c ha hb hc =
      equal_by_sides
      (λ s. sum_on (sum_on (self ha s) (self hb s)) (self hc s))
      (λ s. sum_on (self ha s) (sum_on (self hb s) (self hc s)))
      (λ s. (ring_on L R s).sum_associates _ _ _ (below s ha) (below s hb) (below s hc))

  pub pair_sum_with_zero : (a : ℕ) → a < pair_size L R → pair_sum L R a 0 ≡ a
  pair_sum_with_zero a ha =
      equal_by_sides (λ s. sum_on (self ha s) zero_on) (self ha) (λ s. (ring_on L R s).sum_with_zero _ (below s ha))

  pub pair_sum_with_negative : (a : ℕ) → a < pair_size L R → pair_sum L R a (pair_negative L R a) ≡ 0
  pair_sum_with_negative a ha =
      equal_by_sides
      (λ s. sum_on (self ha s) (negative_on (self ha s)))
      (λ s. zero_on)
      (λ s. (ring_on L R s).sum_with_negative _ (below s ha))

  pub pair_product_commutes : (a b : ℕ) → a < pair_size L R → b < pair_size L R → pair_product L R a b ≡ pair_product L R b a
  pair_product_commutes a b ha hb =
      equal_by_sides
      (λ s. product_on (self ha s) (self hb s))
      (λ s. product_on (self hb s) (self ha s))
      (λ s. (ring_on L R s).product_commutes _ _ (below s ha) (below s hb))

  pub pair_product_associates : (a b c : ℕ) → a < pair_size L R → b < pair_size L R → c < pair_size L R → pair_product L R (pair_product L R a b) c ≡ pair_product L R a (pair_product L R b c)
  pair_product_associates a b c ha hb hc =
      equal_by_sides
      (λ s. product_on (product_on (self ha s) (self hb s)) (self hc s))
      (λ s. product_on (self ha s) (product_on (self hb s) (self hc s)))
      (λ s. (ring_on L R s).product_associates _ _ _ (below s ha) (below s hb) (below s hc))

  pub pair_product_with_one : (a : ℕ) → a < pair_size L R → pair_product L R a (pair_one L R) ≡ a
  pair_product_with_one a ha =
      equal_by_sides (λ s. product_on (self ha s) one_on) (self ha) (λ s. (ring_on L R s).product_with_one _ (below s ha))

  pub pair_product_over_sum : (a b c : ℕ) → a < pair_size L R → b < pair_size L R → c < pair_size L R → pair_product L R a (pair_sum L R b c) ≡ pair_sum L R (pair_product L R a b) (pair_product L R a c)
  pair_product_over_sum a b c ha hb hc =
      equal_by_sides
      (λ s. product_on (self ha s) (sum_on (self hb s) (self hc s)))
      (λ s. sum_on (product_on (self ha s) (self hb s)) (product_on (self ha s) (self hc s)))
      (λ s. (ring_on L R s).product_over_sum _ _ _ (below s ha) (below s hb) (below s hc))

  pub pair_one_is_not_zero : pair_one L R ≡ 0 → ⊥
  pair_one_is_not_zero e =
      L.one_is_not_zero (same_reading {L = L} {R = R} {s = on_left} one_on zero_on e)

  -- the quotient of a by b is a q with q·b = a, none exactly when there is no such q, and one when a is b
  pub pair_quotient_times_divisor : (a b q : ℕ) → a < pair_size L R → b < pair_size L R → pair_quotient L R a b ≡ Some q → pair_product L R q b ≡ a
  pair_quotient_times_divisor a b q ha hb e =
      equal_by_sides
      (λ s. product_on (self (pair_quotient_below L R a b q e) s) (self hb s))
      (self ha)
      (λ s. (ring_on L R s).quotient_times_divisor _ _ _ (below s ha) (below s hb) (quotient_on L R s a b q e))

  pub pair_quotient_none_without_multiple : (a b : ℕ) → a < pair_size L R → b < pair_size L R → pair_quotient L R a b ≡ None → Multiple (pair_size L R) (pair_product L R) a b → ⊥
  pair_quotient_none_without_multiple a b ha hb e m =
      quotient_none_on_a_side L R a b ha hb e λ s none.
      (ring_on L R s).quotient_none_without_multiple _ _ (below s ha) (below s hb) none (multiple_on L R (self ha s) (self hb s) m)

  pub pair_quotient_by_itself : (a : ℕ) → a < pair_size L R → pair_quotient L R a a ≡ Some (pair_one L R)
  pair_quotient_by_itself a ha =
      both_within_inside _ a a _ None ha ha
      ∙ ap₂ (joined_quotient L R) (L.quotient_by_itself _ (below on_left ha)) (R.quotient_by_itself _ (below on_right ha))

  -- the gcd of a and b is (g, u, v) with g = u·a + v·b, and g divides both
  pub pair_gcd_is_combination : (a b : ℕ) → a < pair_size L R → b < pair_size L R → (pair_gcd L R a b).g ≡ pair_sum L R (pair_product L R (pair_gcd L R a b).u a) (pair_product L R (pair_gcd L R a b).v b)
  pair_gcd_is_combination a b ha hb =
      equal_by_sides
      (λ s. gcd_g_on (self ha s) (self hb s))
      (λ s. sum_on (product_on (gcd_u_on (self ha s) (self hb s)) (self ha s)) (product_on (gcd_v_on (self ha s) (self hb s)) (self hb s)))
      (λ s. (ring_on L R s).gcd_is_combination _ _ (below s ha) (below s hb))

  pub pair_gcd_divides_left : (a b : ℕ) → a < pair_size L R → b < pair_size L R → Multiple (pair_size L R) (pair_product L R) a (pair_gcd L R a b).g
  pair_gcd_divides_left a b ha hb =
      multiple_by_sides L R
      (self ha)
      (λ s. gcd_g_on (self ha s) (self hb s))
      (λ s. (ring_on L R s).gcd_divides_left _ _ (below s ha) (below s hb))

  pub pair_gcd_divides_right : (a b : ℕ) → a < pair_size L R → b < pair_size L R → Multiple (pair_size L R) (pair_product L R) b (pair_gcd L R a b).g
  pair_gcd_divides_right a b ha hb =
      multiple_by_sides L R
      (self hb)
      (λ s. gcd_g_on (self ha s) (self hb s))
      (λ s. (ring_on L R s).gcd_divides_right _ _ (below s ha) (below s hb))

  -- the annihilator of a times a is zero, and every e with e·a = 0 is a multiple of it
  pub pair_annihilator_annihilates : (a : ℕ) → a < pair_size L R → pair_product L R (pair_annihilator L R a) a ≡ 0
  pair_annihilator_annihilates a ha =
      equal_by_sides
      (λ s. product_on (annihilator_on (self ha s)) (self ha s))
      (λ s. zero_on)
      (λ s. (ring_on L R s).annihilator_annihilates _ (below s ha))

  pub pair_annihilator_divides : (a e : ℕ) → a < pair_size L R → e < pair_size L R → pair_product L R e a ≡ 0 → Multiple (pair_size L R) (pair_product L R) e (pair_annihilator L R a)
  pair_annihilator_divides a e ha he is_zero =
      multiple_by_sides L R
      (self he)
      (λ s. annihilator_on (self ha s))
      (λ s. (ring_on L R s).annihilator_divides _ _ (below s ha) (below s he) (same_reading (product_on (self he s) (self ha s)) zero_on is_zero))

  -- the residue of a by b is not above a as a number, and differs from a by a multiple of b;
  -- codes that differ by a multiple of b have the same residue by b; divisors that divide each other give the same residues
  pub pair_residue_not_above : (a b : ℕ) → a < pair_size L R → b < pair_size L R → pair_residue L R a b ≤ a
  pair_residue_not_above a b ha hb =
      rw (both_within_inside (pair_size L R) a b (joined L R (L.residue (left L R a) (left L R b)) (R.residue (right L R a) (right L R b))) 0 ha hb)
      (joined_not_above L R _ _ a (L.residue_not_above _ _ (below on_left ha) (below on_left hb)) (R.residue_not_above _ _ (below on_right ha) (below on_right hb)))

  pub pair_residue_differs_by_multiple : (a b : ℕ) → a < pair_size L R → b < pair_size L R → Multiple (pair_size L R) (pair_product L R) (pair_sum L R a (pair_negative L R (pair_residue L R a b))) b
  pair_residue_differs_by_multiple a b ha hb =
      multiple_by_sides L R
      (λ s. sum_on (self ha s) (negative_on (residue_on (self ha s) (self hb s))))
      (self hb)
      (λ s. (ring_on L R s).residue_differs_by_multiple _ _ (below s ha) (below s hb))

  pub pair_residue_of_class : (a c b : ℕ) → a < pair_size L R → c < pair_size L R → b < pair_size L R → Multiple (pair_size L R) (pair_product L R) (pair_sum L R a (pair_negative L R c)) b → pair_residue L R a b ≡ pair_residue L R c b
  pair_residue_of_class a c b ha hc hb m =
      equal_by_sides
      (λ s. residue_on (self ha s) (self hb s))
      (λ s. residue_on (self hc s) (self hb s))
      (λ s. (ring_on L R s).residue_of_class _ _ _ (below s ha) (below s hc) (below s hb) (multiple_on L R (sum_on (self ha s) (negative_on (self hc s))) (self hb s) m))

  pub pair_residue_by_associate : (a b c : ℕ) → a < pair_size L R → b < pair_size L R → c < pair_size L R → Multiple (pair_size L R) (pair_product L R) b c → Multiple (pair_size L R) (pair_product L R) c b → pair_residue L R a b ≡ pair_residue L R a c
  pair_residue_by_associate a b c ha hb hc m n =
      equal_by_sides
      (λ s. residue_on (self ha s) (self hb s))
      (λ s. residue_on (self ha s) (self hc s))
      (λ s. (ring_on L R s).residue_by_associate _ _ _ (below s ha) (below s hb) (below s hc) (multiple_on L R (self hb s) (self hc s) m) (multiple_on L R (self hc s) (self hb s) n))
