-- Formulas: lists of up to 64 packed monomials with coefficients and strictly falling terms, and the checks of a list.
use Rattle.std.specs.Prelude.{ℕ, ◌<◌, ◌≤◌, Bool, true, cond, ◌&&◌, List, [], ◌∷◌, length, Ok, Err, Result, nat_le, nat_lt}
use Rattle.std.specs.Ordering.{is_gt, is_lt}
use Rattle.std.specs.List.{AllByRecursion}
use Rattle.refusal.specs.declared.Refusal.{Refusal}
use Rattle.refusal.specs.declared.Refusal.TheVariants.{TooManyMonomials, CoefficientOutOfRange, TermsNotFalling}
use Rattle.ring.specs.CoefficientRing.{CoefficientRing}
use Rattle.order.specs.Term.{Term}
use Rattle.order.specs.TermOrder.{TermOrder, compared}
use Rattle.term.specs.Packed.{term_of, coefficient_of}
use Rattle.term.specs.declared.monomial.Monomial.{Monomial}

-- the term of a monomial, and its coefficient code
abbrev pub term : Monomial → Term
term m = term_of m.bits

abbrev pub code : Monomial → ℕ
code m = coefficient_of m.bits

-- the number 0, which is read past the end of a list
abbrev pub blank : Monomial
blank = record { bits = 0 }

-- the largest number of monomials in a formula
abbrev pub max_monomials : ℕ
max_monomials = 64

-- a coefficient is a code of the ring, and not 0
abbrev pub Coefficient : CoefficientRing → ℕ → Type 0
Coefficient ring c = (0 < c) × (c < ring.size)

-- each term is after all that follow
abbrev pub Falling : TermOrder → List Monomial → Type 0
Falling order [] = Unit {0}
Falling order (m ∷ f) = AllByRecursion (λ n. order.before (term n) (term m)) f × Falling order f

-- a formula over a ring and an order; the empty list is zero, and the first monomial of another is its head
pub record Formula (ring : CoefficientRing) (order : TermOrder) (f : List Monomial) : Type 0 where
  pub not_long : length f ≤ max_monomials
  pub coefficients : AllByRecursion (λ m. Coefficient ring (code m)) f
  pub falling_terms : Falling order f

-- whether a number is a coefficient
abbrev pub is_coefficient : CoefficientRing → ℕ → Bool
is_coefficient ring c = nat_lt 0 c && nat_lt c ring.size

-- whether the term of m is before the term of n
abbrev pub is_before : TermOrder → Monomial → Monomial → Bool
is_before order m n = is_lt (compared order (term m) (term n))

-- whether the term of m is after the term of n
abbrev pub is_after : TermOrder → Monomial → Monomial → Bool
is_after order n m = is_gt (compared order (term m) (term n))

-- whether every code is a coefficient
abbrev pub coded : CoefficientRing → List Monomial → Bool
coded ring [] = true
coded ring (m ∷ f) = is_coefficient ring (code m) && coded ring f

-- whether each term is before the one in front of it, the first before that of m
abbrev pub falling_after : TermOrder → Monomial → List Monomial → Bool
falling_after order m [] = true
falling_after order m (n ∷ f) = is_before order n m && falling_after order n f

abbrev pub falling : TermOrder → List Monomial → Bool
falling order [] = true
falling order (m ∷ f) = falling_after order m f

-- go on if a test holds, else refuse
abbrev pub provided : {A : Type 0} → Bool → Refusal → Result A Refusal → Result A Refusal
provided test refusal next = cond test next (Err refusal)

-- the checks of a formula, each over the whole list before the next
abbrev pub checked : CoefficientRing → TermOrder → List Monomial → Result (Unit {0}) Refusal
checked ring order f =
    provided (nat_le (length f) max_monomials) TooManyMonomials
    (provided (coded ring f) CoefficientOutOfRange
    (provided (falling order f) TermsNotFalling (Ok tt)))
