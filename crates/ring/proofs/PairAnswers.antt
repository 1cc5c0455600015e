-- What a pair of rings answers: always a code, and zero, for a quotient none, where a number is no code.
use Rattle.std.proofs.Common.{◌≡◌, ℕ, ◌<◌, ◌≤◌, None}
use Rattle.ring.specs.declared.Bezout.{Bezout}
use Rattle.ring.specs.CoefficientRing.{CoefficientRing}
use Rattle.ring.specs.Within.{within, both_within}
use Rattle.ring.specs.Pair.{pair_size, left, right, joined, pair_one, pair_sum, pair_negative, pair_product, pair_quotient, pair_gcd, pair_annihilator, pair_residue}
use Rattle.ring.proofs.Withins.{within_outside, within_either, both_within_outside_left, both_within_outside_right, both_within_either}
use Rattle.ring.proofs.PairCodes.{joined_below, zero_below}

module _ (L R : CoefficientRing) where
  -- every answer is a code; that of a quotient stands with the quotients
  one_answer_below : (a x y : ℕ) → x < L.size → y < R.size → within (pair_size L R) a (joined L R x y) 0 < pair_size L R
  one_answer_below a x y hx hy =
      within_either (λ r. r < pair_size L R) (pair_size L R) a (joined L R x y) 0 (λ _. joined_below L R x y hx hy) (zero_below L R)

  answer_below : (a b x y : ℕ) → x < L.size → y < R.size → both_within (pair_size L R) a b (joined L R x y) 0 < pair_size L R
  answer_below a b x y hx hy =
      both_within_either (λ r. r < pair_size L R) (pair_size L R) a b (joined L R x y) 0 (λ _ _. joined_below L R x y hx hy) (zero_below L R)

  pub pair_one_below : pair_one L R < pair_size L R
  pair_one_below = joined_below L R L.one R.one L.one_below R.one_below

  pub pair_sum_below : (a b : ℕ) → pair_sum L R a b < pair_size L R
  pair_sum_below a b = answer_below a b _ _ (L.sum_below _ _) (R.sum_below _ _)

  pub pair_negative_below : (a : ℕ) → pair_negative L R a < pair_size L R
  pair_negative_below a = one_answer_below a _ _ (L.negative_below _) (R.negative_below _)

  pub pair_product_below : (a b : ℕ) → pair_product L R a b < pair_size L R
  pair_product_below a b = answer_below a b _ _ (L.product_below _ _) (R.product_below _ _)

  pub pair_gcd_below : (a b : ℕ) → ((pair_gcd L R a b).g < pair_size L R) × ((pair_gcd L R a b).u < pair_size L R) × ((pair_gcd L R a b).v < pair_size L R)
  pair_gcd_below a b =
      let (gl, ul, vl) = L.gcd_below (left L R a) (left L R b) in
      let (gr, ur, vr) = R.gcd_below (right L R a) (right L R b) in
      both_within_either (λ (d : Bezout). (d.g < pair_size L R) × (d.u < pair_size L R) × (d.v < pair_size L R)) (pair_size L R) a b _ _
      (λ _ _. (joined_below L R _ _ gl gr, joined_below L R _ _ ul ur, joined_below L R _ _ vl vr))
      (zero_below L R, zero_below L R, zero_below L R)

  pub pair_annihilator_below : (a : ℕ) → pair_annihilator L R a < pair_size L R
  pair_annihilator_below a = one_answer_below a _ _ (L.annihilator_below _) (R.annihilator_below _)

  pub pair_residue_below : (a b : ℕ) → pair_residue L R a b < pair_size L R
  pair_residue_below a b = answer_below a b _ _ (L.residue_below _ _) (R.residue_below _ _)

  -- a number that is no code gets zero, for a quotient none
  pub pair_sum_outside_left : (a b : ℕ) → pair_size L R ≤ a → pair_sum L R a b ≡ 0
  pair_sum_outside_left a b h = both_within_outside_left _ a b _ 0 h

  pub pair_sum_outside_right : (a b : ℕ) → pair_size L R ≤ b → pair_sum L R a b ≡ 0
  pair_sum_outside_right a b h = both_within_outside_right _ a b _ 0 h

  pub pair_negative_outside : (a : ℕ) → pair_size L R ≤ a → pair_negative L R a ≡ 0
  pair_negative_outside a h = within_outside _ a _ 0 h

  pub pair_product_outside_left : (a b : ℕ) → pair_size L R ≤ a → pair_product L R a b ≡ 0
  pair_product_outside_left a b h = both_within_outside_left _ a b _ 0 h

  pub pair_product_outside_right : (a b : ℕ) → pair_size L R ≤ b → pair_product L R a b ≡ 0
  pair_product_outside_right a b h = both_within_outside_right _ a b _ 0 h

  pub pair_quotient_outside_left : (a b : ℕ) → pair_size L R ≤ a → pair_quotient L R a b ≡ None
  pair_quotient_outside_left a b h = both_within_outside_left _ a b _ None h

  pub pair_quotient_outside_right : (a b : ℕ) → pair_size L R ≤ b → pair_quotient L R a b ≡ None
  pair_quotient_outside_right a b h = both_within_outside_right _ a b _ None h

  pub pair_gcd_outside_left : (a b : ℕ) → pair_size L R ≤ a → pair_gcd L R a b ≡ record { g = 0; u = 0; v = 0 }
  pair_gcd_outside_left a b h = both_within_outside_left _ a b _ _ h

  pub pair_gcd_outside_right : (a b : ℕ) → pair_size L R ≤ b → pair_gcd L R a b ≡ record { g = 0; u = 0; v = 0 }
  pair_gcd_outside_right a b h = both_within_outside_right _ a b _ _ h

  pub pair_annihilator_outside : (a : ℕ) → pair_size L R ≤ a → pair_annihilator L R a ≡ 0
  pair_annihilator_outside a h = within_outside _ a _ 0 h

  pub pair_residue_outside_left : (a b : ℕ) → pair_size L R ≤ a → pair_residue L R a b ≡ 0
  pair_residue_outside_left a b h = both_within_outside_left _ a b _ 0 h

  pub pair_residue_outside_right : (a b : ℕ) → pair_size L R ≤ b → pair_residue L R a b ≡ 0
  pair_residue_outside_right a b h = both_within_outside_right _ a b _ 0 h
