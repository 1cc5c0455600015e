-- The pair of two rings: with Q the size of the right one, code x·Q + y is the pair (x, y), and every operation works on each side.
use Rattle.std.specs.Prelude.{ℕ, ◌+◌, ◌*◌, ◌/◌, ◌%◌, Some, None, Option}
use Rattle.ring.specs.declared.Bezout.{Bezout}
use Rattle.ring.specs.CoefficientRing.{CoefficientRing}
use Rattle.ring.specs.Within.{within, both_within}

-- the number of a pair ring's kind
abbrev pub pair_kind : ℕ
pair_kind = 2

module _ (L R : CoefficientRing) where
  -- how many pairs there are
  abbrev pub pair_size : ℕ
  pair_size = L.size * R.size

  -- the left side of a code, and the right side
  abbrev pub left : ℕ → ℕ
  left a = a / R.size

  abbrev pub right : ℕ → ℕ
  right a = a % R.size

  -- the code of a pair
  abbrev pub joined : ℕ → ℕ → ℕ
  joined x y = x * R.size + y

  abbrev pub pair_one : ℕ
  pair_one = joined L.one R.one

  abbrev pub pair_sum : ℕ → ℕ → ℕ
  pair_sum a b = both_within pair_size a b (joined (L.sum (left a) (left b)) (R.sum (right a) (right b))) 0

  abbrev pub pair_negative : ℕ → ℕ
  pair_negative a = within pair_size a (joined (L.negative (left a)) (R.negative (right a))) 0

  abbrev pub pair_product : ℕ → ℕ → ℕ
  pair_product a b = both_within pair_size a b (joined (L.product (left a) (left b)) (R.product (right a) (right b))) 0

  -- a quotient is none if either side's is
  abbrev pub joined_quotient : Option ℕ → Option ℕ → Option ℕ
  joined_quotient None q = None
  joined_quotient (Some p) None = None
  joined_quotient (Some p) (Some q) = Some (joined p q)

  abbrev pub pair_quotient : ℕ → ℕ → Option ℕ
  pair_quotient a b = both_within pair_size a b (joined_quotient (L.quotient (left a) (left b)) (R.quotient (right a) (right b))) None

  abbrev pub joined_gcd : Bezout → Bezout → Bezout
  joined_gcd p q = record { g = joined p.g q.g; u = joined p.u q.u; v = joined p.v q.v }

  abbrev pub pair_gcd : ℕ → ℕ → Bezout
  pair_gcd a b = both_within pair_size a b (joined_gcd (L.gcd (left a) (left b)) (R.gcd (right a) (right b))) (record { g = 0; u = 0; v = 0 })

  abbrev pub pair_annihilator : ℕ → ℕ
  pair_annihilator a = within pair_size a (joined (L.annihilator (left a)) (R.annihilator (right a))) 0

  abbrev pub pair_residue : ℕ → ℕ → ℕ
  pair_residue a b = both_within pair_size a b (joined (L.residue (left a) (left b)) (R.residue (right a) (right b))) 0
