-- The ring that two rings make as a pair.
use Rattle.std.specs.Prelude.{◌≡◌, ◌≤◌, Bool, true, false, nat_le, refl}
use Rattle.std.proofs.Common.{lit≤}
use Rattle.std.proofs.lemmas.Bool.{leb-true}
use Rattle.ring.specs.CoefficientRing.{CoefficientRing, largest_size}
use Rattle.ring.specs.Pair.{pair_kind, pair_size, pair_one, pair_sum, pair_negative, pair_product, pair_quotient, pair_gcd, pair_annihilator, pair_residue}
use Rattle.ring.proofs.PairCodes.{pair_size_at_least}
use Rattle.ring.proofs.PairMultiples.{pair_quotient_below}
use Rattle.ring.proofs.PairAnswers as answers
use Rattle.ring.proofs.PairLaws as laws

-- whether there are few enough pairs for a ring
abbrev pub few_enough : CoefficientRing → CoefficientRing → Bool
few_enough L R = nat_le (pair_size L R) largest_size

module _ (L R : CoefficientRing) where
  -- the pair of two rings that have few enough pairs, with its laws
  abbrev pub pair_ring : pair_size L R ≤ largest_size → CoefficientRing
  pair_ring few =
      record {
        size = pair_size L R;
        kind = pair_kind;
        one = pair_one L R;
        sum = pair_sum L R;
        negative = pair_negative L R;
        product = pair_product L R;
        quotient = pair_quotient L R;
        gcd = pair_gcd L R;
        annihilator = pair_annihilator L R;
        residue = pair_residue L R;
        size_at_least = pair_size_at_least L R;
        size_at_most = few;
        kind_at_least = lit≤ tt;
        kind_at_most = lit≤ tt;
        one_below = answers.pair_one_below L R;
        sum_below = answers.pair_sum_below L R;
        negative_below = answers.pair_negative_below L R;
        product_below = answers.pair_product_below L R;
        quotient_below = pair_quotient_below L R;
        gcd_below = answers.pair_gcd_below L R;
        annihilator_below = answers.pair_annihilator_below L R;
        residue_below = answers.pair_residue_below L R;
        sum_outside_left = answers.pair_sum_outside_left L R;
        sum_outside_right = answers.pair_sum_outside_right L R;
        negative_outside = answers.pair_negative_outside L R;
        product_outside_left = answers.pair_product_outside_left L R;
        product_outside_right = answers.pair_product_outside_right L R;
        quotient_outside_left = answers.pair_quotient_outside_left L R;
        quotient_outside_right = answers.pair_quotient_outside_right L R;
        gcd_outside_left = answers.pair_gcd_outside_left L R;
        gcd_outside_right = answers.pair_gcd_outside_right L R;
        annihilator_outside = answers.pair_annihilator_outside L R;
        residue_outside_left = answers.pair_residue_outside_left L R;
        residue_outside_right = answers.pair_residue_outside_right L R;
        sum_commutes = laws.pair_sum_commutes L R;
        sum_associates = laws.pair_sum_associates L R;
        sum_with_zero = laws.pair_sum_with_zero L R;
        sum_with_negative = laws.pair_sum_with_negative L R;
        product_commutes = laws.pair_product_commutes L R;
        product_associates = laws.pair_product_associates L R;
        product_with_one = laws.pair_product_with_one L R;
        product_over_sum = laws.pair_product_over_sum L R;
        one_is_not_zero = laws.pair_one_is_not_zero L R;
        quotient_times_divisor = laws.pair_quotient_times_divisor L R;
        quotient_none_without_multiple = laws.pair_quotient_none_without_multiple L R;
        quotient_by_itself = laws.pair_quotient_by_itself L R;
        gcd_is_combination = laws.pair_gcd_is_combination L R;
        gcd_divides_left = laws.pair_gcd_divides_left L R;
        gcd_divides_right = laws.pair_gcd_divides_right L R;
        annihilator_annihilates = laws.pair_annihilator_annihilates L R;
        annihilator_divides = laws.pair_annihilator_divides L R;
        residue_not_above = laws.pair_residue_not_above L R;
        residue_differs_by_multiple = laws.pair_residue_differs_by_multiple L R;
        residue_of_class = laws.pair_residue_of_class L R;
        residue_by_associate = laws.pair_residue_by_associate L R;
      }

  -- the pair or the left ring, as the test tells
  abbrev pub paired_if : (few : Bool) → few_enough L R ≡ few → CoefficientRing
  paired_if true is = pair_ring (leb-true (pair_size L R) largest_size is)
  paired_if false is = L

  -- what a pair of two rings stands for: the pair where it has at most 65,536 codes, else its left ring
  abbrev pub paired : CoefficientRing
  paired = paired_if (few_enough L R) refl

-- two rings that have too many pairs: what their pair stands for is the left one, with all its answers and its kind
abbrev pub TooLargeIsLeft : CoefficientRing → CoefficientRing → Type 0
TooLargeIsLeft L R = few_enough L R ≡ false → paired L R ≡ L
