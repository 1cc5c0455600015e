-- Notions that every ring has: differences, divisibility, and two ways in which a would-be ring fails.
use Rattle.std.specs.Prelude.{◌≡◌, ℕ, ◌<◌, Bool, true, ◌↔◌, is_some, None}
use Rattle.ring.specs.CoefficientRing.{CoefficientRing, Multiple}

-- a − b
abbrev pub difference : CoefficientRing → ℕ → ℕ → ℕ
difference ring a b = ring.sum a (ring.negative b)

-- whether b divides a
abbrev pub divides : CoefficientRing → ℕ → ℕ → Bool
divides ring b a = is_some (ring.quotient a b)

-- b divides a: a is a product of b and some code
abbrev pub Divides : CoefficientRing → ℕ → ℕ → Type 0
Divides ring b a = Multiple ring.size ring.product a b

-- a quotient that is always none
abbrev pub QuotientAlwaysNone : CoefficientRing → Type 0
QuotientAlwaysNone ring = (a b : ℕ) → ring.quotient a b ≡ None

-- codes that all act as zero: adding one changes nothing, and each product is zero
abbrev pub AllActAsZero : CoefficientRing → Type 0
AllActAsZero ring = (a b : ℕ) → a < ring.size → b < ring.size → (ring.sum a b ≡ a) × (ring.product a b ≡ 0)

-- a difference undoes a sum, and codes that all act as zero make no ring
pub record DifferenceLaws (ring : CoefficientRing) : Type 0 where
  pub undone_by_sum : (a b : ℕ) → a < ring.size → b < ring.size → ring.sum (difference ring a b) b ≡ a
  pub codes_do_not_all_act_as_zero : AllActAsZero ring → ⊥

-- the test tells exactly the multiples, and a quotient that is always none makes no ring
pub record DivisibilityLaws (ring : CoefficientRing) : Type 0 where
  pub true_exactly_for_multiples : (a b : ℕ) → a < ring.size → b < ring.size → (divides ring b a ≡ true) ↔ Divides ring b a
  pub quotient_is_not_always_none : QuotientAlwaysNone ring → ⊥
