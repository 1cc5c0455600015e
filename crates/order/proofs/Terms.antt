-- The laws of terms: product, divisibility, quotient and lcm.
use Rattle.std.proofs.Common.{◌≡◌, arith}
use Rattle.std.proofs.lemmas.Bool.Decides.{nat_tests}
use Rattle.order.specs.Term.{Term, quotient}
use Rattle.order.specs.TermLaws.{ProductLaws, DivisionLaws, LcmLaws}

-- two terms with the same exponents are the same
pub record Alike (s t : Term) : Type 0 where
  pub a : s.a ≡ t.a
  pub b : s.b ≡ t.b
  pub c : s.c ≡ t.c
  pub d : s.d ≡ t.d
  pub e : s.e ≡ t.e
  pub f : s.f ≡ t.f

pub alike : (s t : Term) → Alike s t → s ≡ t
alike s t h = grind arith

pub alike_of : (s t : Term) → s ≡ t → Alike s t
alike_of s t p = grind arith

pub product_laws : ProductLaws
product_laws = grind arith

pub division_laws : DivisionLaws
division_laws = record {
  decided = λ s t. grind (arith, nat_tests);
  exactly_multiples = λ s t. (λ h. (quotient t s, grind arith), λ m. grind arith);
  of_product = λ s t. grind arith;
  times_divisor = λ s t h. grind arith;
}

pub lcm_laws : LcmLaws
lcm_laws = grind arith
