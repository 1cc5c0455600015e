-- A packed number is its term and its code, and the order of numbers is lex on the terms.
use Rattle.std.proofs.Common.{◌≡◌, ℕ, ◌+◌, ◌-◌, ◌*◌, ◌/◌, ◌^◌, ◌<◌, true, refl, arith}
use Rattle.order.specs.Term.{Term, product, quotient, divides}
use Rattle.order.specs.Keys.{ByKeys, lex_keys}
use Rattle.order.proofs.Terms.{division_laws}
use Rattle.term.specs.Packed.{term_of, packed, monomial, Fits}
use Rattle.term.specs.Laws.{PackingLaws}

pub packing_laws : PackingLaws
packing_laws = record {
  term_of_packed = λ t c h l. grind arith;
  coefficient_of_packed = λ t c l. omega arith;
  packed_below = λ t c h l. omega arith;
  packed_of_parts = λ m l. omega arith;
  term_fits = λ m. omega arith;
  three_a²_b = refl;
}

-- a term alone, as a number
pub packed_term : (m : ℕ) → m < 2 ^ 64 → packed (term_of m) 0 ≡ m / 65536 * 65536
packed_term m l = omega arith

pub packed_lex : (s t : Term) → Fits s → Fits t → ByKeys lex_keys s t → packed s 0 < packed t 0
packed_lex s t h l b = grind arith

-- numbers add up as terms do
packed_product : (s t : Term) → packed (product s t) 0 ≡ packed s 0 + packed t 0
packed_product s t = omega arith

-- and take away as terms do
pub quotient_found : (m n : ℕ) → m < 2 ^ 64 → n < 2 ^ 64 → divides (term_of n) (term_of m) ≡ true
    → record { bits = (m / 65536 - n / 65536) * 65536 } ≡ monomial (quotient (term_of m) (term_of n)) 0
quotient_found m n h l d = let e = (division_laws.decided (term_of n) (term_of m)).0 d in grind (arith, packed_term m h, packed_term n l)
