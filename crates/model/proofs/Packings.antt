-- Monomials made of a term and a code, and the terms that fit.
use Rattle.std.proofs.Common.{◌≡◌, ℕ, ◌^◌, ◌<◌, List, [], ◌∷◌, arith}
use Rattle.ring.specs.CoefficientRing.{CoefficientRing}
use Rattle.order.specs.Term.{Term, lcm, quotient, unit}
use Rattle.term.specs.Packed.{Fits, monomial}
use Rattle.term.specs.declared.monomial.Monomial.{Monomial}
use Rattle.term.proofs.Packing.{packing_laws}
use Rattle.formula.specs.Formula.{code, term}
use Rattle.model.specs.Polynomials.{head_of}

module _ (ring : CoefficientRing) where
  small : (c : ℕ) → c < ring.size → c < 65536
  small c h = let l = ring.size_at_most in omega arith

  pub term_of_monomial : (t : Term) (c : ℕ) → Fits t → c < ring.size → term (monomial t c) ≡ t
  term_of_monomial t c h l = packing_laws.term_of_packed t c h (small c l)

  pub code_of_monomial : (t : Term) (c : ℕ) → c < ring.size → code (monomial t c) ≡ c
  code_of_monomial t c l = packing_laws.coefficient_of_packed t c (small c l)

  pub monomial_packed : (t : Term) (c : ℕ) → Fits t → c < ring.size → (monomial t c).bits < 2 ^ 64
  monomial_packed t c h l = packing_laws.packed_below t c h (small c l)

pub term_fits : (m : Monomial) → Fits (term m)
term_fits m = packing_laws.term_fits m.bits

pub unit_fits : Fits unit
unit_fits = omega arith

pub quotient_fits : (s t : Term) → Fits t → Fits (quotient t s)
quotient_fits s t h = omega arith

pub lcm_fits : (s t : Term) → Fits s → Fits t → Fits (lcm s t)
lcm_fits s t h l = omega arith

pub head_fits : (f : List Monomial) → Fits (head_of f).term
head_fits [] = unit_fits
head_fits (m ∷ f) = term_fits m
