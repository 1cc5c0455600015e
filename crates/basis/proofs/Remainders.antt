-- For a strong basis, two reduced polynomials whose difference is a combination are the same.
use Rattle.std.proofs.Common.{◌≡◌, ℕ, ◌<◌, List, sym, ap, ◌∙◌, subst, arith}
use native.Mathlib.Decide.{ℕ_discrete, dec_lt}
use Rattle.ring.specs.CoefficientRing.{CoefficientRing}
use Rattle.ring.specs.Derived.{Divides as DividesCode}
use Rattle.order.specs.Term.{Term}
use Rattle.order.specs.TermOrder.{TermOrder}
use Rattle.basis.specs.Polynomial.{Monomial, Polynomial, coefficient, difference}
use Rattle.basis.specs.Basis.{Line, line_of, HeadDivided}
use Rattle.basis.specs.Laws.{Reduced, RemaindersAreUnique}
use Rattle.basis.proofs.Equations.{same_if_no_difference}
use Rattle.basis.proofs.Codes.{same_code, code_ring}
use Rattle.basis.proofs.Coefficients.{at, coefficient_below, at_difference}

module _ (ring : CoefficientRing) where
  -- what divides a code other than zero is a code
  divisor_is_code : (b a : ℕ) → (a ≡ 0 → ⊥) → DividesCode ring b a → b < ring.size
  divisor_is_code b a n (q, h, e) = which (dec_lt b ring.size)
    where
      which : Dec (b < ring.size) → b < ring.size
      which (yes l) = l
      which (no l) = absurd (n (sym e ∙ ring.product_outside_right q b (omega arith)))

  module _ (f h : Polynomial) where
    pub coefficient_of_difference : (t : Term) → coefficient ring (difference ring f h) t ≡ ring.sum (coefficient ring f t) (ring.negative (coefficient ring h t))
    coefficient_of_difference t = ap (λ c. c.0) (at_difference ring f h t)

    pub no_difference : (t : Term) → coefficient ring (difference ring f h) t ≡ 0 → coefficient ring f t ≡ coefficient ring h t
    no_difference t z = ap (λ c. c.0) (same_if_no_difference (code_ring ring) (at ring f t) (at ring h t) (same_code ring _ _ (sym (coefficient_of_difference t) ∙ z)))

    -- coefficients that differ by a multiple of b, each its own residue by b, are the same
    own_residues : (t : Term) (b : ℕ) → b < ring.size → DividesCode ring b (coefficient ring (difference ring f h) t)
        → ring.residue (coefficient ring f t) b ≡ coefficient ring f t → ring.residue (coefficient ring h t) b ≡ coefficient ring h t → coefficient ring f t ≡ coefficient ring h t
    own_residues t b l d p q =
        sym p ∙ ring.residue_of_class (coefficient ring f t) (coefficient ring h t) b (coefficient_below ring f t) (coefficient_below ring h t) l (subst (DividesCode ring b) (coefficient_of_difference t) d) ∙ q

    -- so the difference has no head that a line's head divides
    no_head : (order : TermOrder) (lines : List Line) → Reduced ring lines f → Reduced ring lines h → HeadDivided ring order lines (difference ring f h) → ⊥
    no_head order lines rf rh w =
        let m : Monomial = w.head in
        let l : ℕ = w.divided.line in
        let r : ℕ = (line_of lines l).head.coefficient in
        let d : DividesCode ring r (coefficient ring (difference ring f h) m.term) = subst (DividesCode ring r) (sym w.is_head.there) w.divided.divides.coefficient in
        let t = w.divided.divides.term in
        let e : coefficient ring f m.term ≡ coefficient ring h m.term =
        own_residues m.term r (divisor_is_code r m.coefficient w.is_head.not_zero w.divided.divides.coefficient) d
        (rf m.term l w.divided.inside t) (rh m.term l w.divided.inside t) in
        w.is_head.not_zero (sym w.is_head.there ∙ coefficient_of_difference m.term ∙ ap (λ c. ring.sum c (ring.negative (coefficient ring h m.term))) e
        ∙ ring.sum_with_negative (coefficient ring h m.term) (coefficient_below ring h m.term))

  pub remainders_are_unique : (order : TermOrder) → RemaindersAreUnique ring order
  remainders_are_unique order lines basis f h rf rh c t = which (ℕ_discrete (coefficient ring f t) (coefficient ring h t))
    where
      which : Dec (coefficient ring f t ≡ coefficient ring h t) → coefficient ring f t ≡ coefficient ring h t
      which (yes e) = e
      which (no n) = absurd (no_head f h order lines rf rh (basis (difference ring f h) c t (λ z. n (no_difference f h t z))))
