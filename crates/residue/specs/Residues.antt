-- The integers modulo n as a coefficient ring: arithmetic modulo n, which keeps every law.
use Rattle.std.specs.Prelude.{ℕ, ◌≤◌, refl}
use Rattle.ring.specs.CoefficientRing.{CoefficientRing, smallest_size, largest_size}
use Rattle.modular.specs.Modular.{residue_kind, modular_sum, modular_negative, modular_product, modular_quotient, modular_gcd, modular_annihilator, modular_residue}
use Rattle.modular.proofs.Sums as sums
use Rattle.modular.proofs.Quotients as quotients
use Rattle.modular.proofs.Residues as divisors
use Rattle.std.proofs.lemmas.Bool.{leb-true}

abbrev pub residues : (n : ℕ) → smallest_size ≤ n → n ≤ largest_size → CoefficientRing
residues n two most = record {
  size = n;
  kind = residue_kind;
  one = 1;
  sum = modular_sum n;
  negative = modular_negative n;
  product = modular_product n;
  quotient = modular_quotient n;
  gcd = modular_gcd n;
  annihilator = modular_annihilator n;
  residue = modular_residue n;
  size_at_least = two;
  size_at_most = most;
  kind_at_least = leb-true 1 1 refl;
  kind_at_most = leb-true 1 15 refl;
  one_below = two;
  sum_below = sums.sum_below n two;
  negative_below = sums.negative_below n two;
  product_below = sums.product_below n two;
  quotient_below = quotients.quotient_below n two;
  gcd_below = divisors.gcd_below n two;
  annihilator_below = divisors.annihilator_below n two;
  residue_below = divisors.residue_below n two;
  sum_outside_left = sums.sum_outside_left n two;
  sum_outside_right = sums.sum_outside_right n two;
  negative_outside = sums.negative_outside n two;
  product_outside_left = sums.product_outside_left n two;
  product_outside_right = sums.product_outside_right n two;
  quotient_outside_left = quotients.quotient_outside_left n two;
  quotient_outside_right = quotients.quotient_outside_right n two;
  gcd_outside_left = divisors.gcd_outside_left n two;
  gcd_outside_right = divisors.gcd_outside_right n two;
  annihilator_outside = divisors.annihilator_outside n two;
  residue_outside_left = divisors.residue_outside_left n two;
  residue_outside_right = divisors.residue_outside_right n two;
  sum_commutes = sums.sum_commutes n two;
  sum_associates = sums.sum_associates n two;
  sum_with_zero = sums.sum_with_zero n two;
  sum_with_negative = sums.sum_with_negative n two;
  product_commutes = sums.product_commutes n two;
  product_associates = sums.product_associates n two;
  product_with_one = sums.product_with_one n two;
  product_over_sum = sums.product_over_sum n two;
  one_is_not_zero = sums.one_is_not_zero n two;
  quotient_times_divisor = quotients.quotient_times_divisor n two;
  quotient_none_without_multiple = quotients.quotient_none_without_multiple n two;
  quotient_by_itself = quotients.quotient_by_itself n two;
  gcd_is_combination = divisors.gcd_is_combination n two;
  gcd_divides_left = divisors.gcd_divides_left n two;
  gcd_divides_right = divisors.gcd_divides_right n two;
  annihilator_annihilates = divisors.annihilator_annihilates n two;
  annihilator_divides = divisors.annihilator_divides n two;
  residue_not_above = divisors.residue_not_above n two;
  residue_differs_by_multiple = divisors.residue_differs_by_multiple n two;
  residue_of_class = divisors.residue_of_class n two;
  residue_by_associate = divisors.residue_by_associate n two;
}
