-- What a coefficient ring means: the codes 0 to size − 1 with a sum and a product, code 0 as zero, and all the laws.
use Rattle.std.specs.Prelude.{◌≡◌, ℕ, ◌<◌, ◌≤◌, Some, None, Option}
use Rattle.ring.specs.declared.Bezout.{Bezout}

-- the fewest codes that a ring has, and the most
abbrev pub smallest_size : ℕ
smallest_size = 2

abbrev pub largest_size : ℕ
largest_size = 65536

-- x is a multiple of b: the product of b and some code
abbrev pub Multiple : (size : ℕ) → (product : ℕ → ℕ → ℕ) → ℕ → ℕ → Type 0
Multiple size product x b = (q : ℕ) × (q < size) × (product q b ≡ x)

pub record CoefficientRing : Type 0 where
  -- the number of codes, the number of this kind of ring, and the operations on codes
  pub size : ℕ
  pub kind : ℕ
  pub one : ℕ
  pub sum : ℕ → ℕ → ℕ
  pub negative : ℕ → ℕ
  pub product : ℕ → ℕ → ℕ
  pub quotient : ℕ → ℕ → Option ℕ
  pub gcd : ℕ → ℕ → Bezout
  pub annihilator : ℕ → ℕ
  pub residue : ℕ → ℕ → ℕ
  -- a ring has 2 to 65,536 codes, and a kind has a number from 1 to 15
  pub size_at_least : smallest_size ≤ size
  pub size_at_most : size ≤ largest_size
  pub kind_at_least : 1 ≤ kind
  pub kind_at_most : kind ≤ 15
  -- every answer is a code, whatever was asked
  pub one_below : one < size
  pub sum_below : (a b : ℕ) → sum a b < size
  pub negative_below : (a : ℕ) → negative a < size
  pub product_below : (a b : ℕ) → product a b < size
  pub quotient_below : (a b q : ℕ) → quotient a b ≡ Some q → q < size
  pub gcd_below : (a b : ℕ) → ((gcd a b).g < size) × ((gcd a b).u < size) × ((gcd a b).v < size)
  pub annihilator_below : (a : ℕ) → annihilator a < size
  pub residue_below : (a b : ℕ) → residue a b < size
  -- a number that is no code gets zero, for a quotient none
  pub sum_outside_left : (a b : ℕ) → size ≤ a → sum a b ≡ 0
  pub sum_outside_right : (a b : ℕ) → size ≤ b → sum a b ≡ 0
  pub negative_outside : (a : ℕ) → size ≤ a → negative a ≡ 0
  pub product_outside_left : (a b : ℕ) → size ≤ a → product a b ≡ 0
  pub product_outside_right : (a b : ℕ) → size ≤ b → product a b ≡ 0
  pub quotient_outside_left : (a b : ℕ) → size ≤ a → quotient a b ≡ None
  pub quotient_outside_right : (a b : ℕ) → size ≤ b → quotient a b ≡ None
  pub gcd_outside_left : (a b : ℕ) → size ≤ a → gcd a b ≡ record { g = 0; u = 0; v = 0 }
  pub gcd_outside_right : (a b : ℕ) → size ≤ b → gcd a b ≡ record { g = 0; u = 0; v = 0 }
  pub annihilator_outside : (a : ℕ) → size ≤ a → annihilator a ≡ 0
  pub residue_outside_left : (a b : ℕ) → size ≤ a → residue a b ≡ 0
  pub residue_outside_right : (a b : ℕ) → size ≤ b → residue a b ≡ 0
  -- sum, negative and product make a commutative ring, and one is not zero
  pub sum_commutes : (a b : ℕ) → a < size → b < size → sum a b ≡ sum b a
  pub sum_associates : (a b c : ℕ) → a < size → b < size → c < size → sum (sum a b) c ≡ sum a (sum b c)
  pub sum_with_zero : (a : ℕ) → a < size → sum a 0 ≡ a
  pub sum_with_negative : (a : ℕ) → a < size → sum a (negative a) ≡ 0
  pub product_commutes : (a b : ℕ) → a < size → b < size → product a b ≡ product b a
  pub product_associates : (a b c : ℕ) → a < size → b < size → c < size → product (product a b) c ≡ product a (product b c)
  pub product_with_one : (a : ℕ) → a < size → product a one ≡ a
  pub product_over_sum : (a b c : ℕ) → a < size → b < size → c < size → product a (sum b c) ≡ sum (product a b) (product a c)
  pub one_is_not_zero : one ≡ 0 → ⊥
  -- the quotient of a by b is a q with q·b = a, none exactly when there is no such q, and one when a is b
  pub quotient_times_divisor : (a b q : ℕ) → a < size → b < size → quotient a b ≡ Some q → product q b ≡ a
  pub quotient_none_without_multiple : (a b : ℕ) → a < size → b < size → quotient a b ≡ None → Multiple size product a b → ⊥
  pub quotient_by_itself : (a : ℕ) → a < size → quotient a a ≡ Some one
  -- the gcd of a and b is (g, u, v) with g = u·a + v·b, and g divides both
  pub gcd_is_combination : (a b : ℕ) → a < size → b < size → (gcd a b).g ≡ sum (product (gcd a b).u a) (product (gcd a b).v b)
  pub gcd_divides_left : (a b : ℕ) → a < size → b < size → Multiple size product a (gcd a b).g
  pub gcd_divides_right : (a b : ℕ) → a < size → b < size → Multiple size product b (gcd a b).g
  -- the annihilator of a times a is zero, and every e with e·a = 0 is a multiple of it
  pub annihilator_annihilates : (a : ℕ) → a < size → product (annihilator a) a ≡ 0
  pub annihilator_divides : (a e : ℕ) → a < size → e < size → product e a ≡ 0 → Multiple size product e (annihilator a)
  -- the residue of a by b is not above a as a number, and differs from a by a multiple of b;
  -- codes that differ by a multiple of b have the same residue by b; divisors that divide each other give the same residues
  pub residue_not_above : (a b : ℕ) → a < size → b < size → residue a b ≤ a
  pub residue_differs_by_multiple : (a b : ℕ) → a < size → b < size → Multiple size product (sum a (negative (residue a b))) b
  pub residue_of_class : (a c b : ℕ) → a < size → c < size → b < size → Multiple size product (sum a (negative c)) b → residue a b ≡ residue c b
  pub residue_by_associate : (a b c : ℕ) → a < size → b < size → c < size → Multiple size product b c → Multiple size product c b → residue a b ≡ residue a c
