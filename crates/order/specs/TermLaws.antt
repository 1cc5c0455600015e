-- What product, quotient, lcm and divisibility of terms mean to each other.
use Rattle.std.specs.Prelude.{◌≡◌, true, ◌↔◌}
use Rattle.order.specs.Term.{Term, unit, product, quotient, lcm, Divides, divides}

-- terms under product: commutative, associative, with a unit, and a common factor cancels
pub record ProductLaws : Type 0 where
  pub commutes : (s t : Term) → product s t ≡ product t s
  pub associates : (r s t : Term) → product (product r s) t ≡ product r (product s t)
  pub with_unit : (t : Term) → product unit t ≡ t
  pub cancels : (r s t : Term) → product r s ≡ product r t → s ≡ t

-- t is a multiple of s: the product of s and some term
abbrev pub Multiple : Term → Term → Type 0
Multiple t s = (m : Term) × (product s m ≡ t)

-- the test decides divisibility, a term divides exactly its multiples, and the quotient undoes the product from either side
pub record DivisionLaws : Type 0 where
  pub decided : (s t : Term) → (divides s t ≡ true) ↔ Divides s t
  pub exactly_multiples : (s t : Term) → Divides s t ↔ Multiple t s
  pub of_product : (s t : Term) → quotient (product s t) s ≡ t
  pub times_divisor : (s t : Term) → Divides s t → product s (quotient t s) ≡ t

-- both terms divide their lcm, and it divides every term that both divide
pub record LcmLaws : Type 0 where
  pub left_divides : (s t : Term) → Divides s (lcm s t)
  pub right_divides : (s t : Term) → Divides t (lcm s t)
  pub divides_common : (s t x : Term) → Divides s x → Divides t x → Divides (lcm s t) x
