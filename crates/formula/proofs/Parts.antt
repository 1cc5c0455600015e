-- The parts of a sum: terms and codes of products and sums of monomials, and monomials that are kept.
use Rattle.std.proofs.Common.{◌≡◌, ℕ, ◌^◌, ◌<◌, ◌≤◌, true, eqb, List, [], ◌∷◌, ◌++◌, arith}
use Rattle.std.proofs.lemmas.Bool.{cond_both, eqb-true, eqb-false}
use Rattle.std.specs.List.{AllByRecursion}
use Rattle.ring.specs.CoefficientRing.{CoefficientRing}
use Rattle.order.specs.Term.{Term, product}
use Rattle.order.proofs.Terms.{division_laws}
use Rattle.term.specs.Packed.{Fits, fits, largest}
use Rattle.term.specs.declared.monomial.Monomial.{Monomial}
use Rattle.term.proofs.Packing.{packing_laws}
use Rattle.formula.specs.Formula.{code, term}
use Rattle.formula.specs.Sum.{kept, plus, times}

fits_is : (t : Term) → fits t ≡ true → Fits t
fits_is t e = (division_laws.decided t largest).0 e

-- a smaller number is below a limit that the larger keeps
small : {c n : ℕ} → c < n → n ≤ 65536 → c < 65536
small h l = omega arith

module _ (ring : CoefficientRing) where
  pub term_times : (s m : Monomial) → fits (product (term s) (term m)) ≡ true → term (times ring s m) ≡ product (term s) (term m)
  term_times s m h = packing_laws.term_of_packed (product (term s) (term m)) (ring.product (code s) (code m)) (fits_is (product (term s) (term m)) h) (small (ring.product_below (code s) (code m)) ring.size_at_most)

  pub code_times : (s m : Monomial) → code (times ring s m) ≡ ring.product (code s) (code m)
  code_times s m = packing_laws.coefficient_of_packed (product (term s) (term m)) (ring.product (code s) (code m)) (small (ring.product_below (code s) (code m)) ring.size_at_most)

  pub term_plus : (m n : Monomial) → term (plus ring m n) ≡ term m
  term_plus m n = packing_laws.term_of_packed (term m) (ring.sum (code m) (code n)) (packing_laws.term_fits m.bits) (small (ring.sum_below (code m) (code n)) ring.size_at_most)

  pub code_plus : (m n : Monomial) → code (plus ring m n) ≡ ring.sum (code m) (code n)
  code_plus m n = packing_laws.coefficient_of_packed (term m) (ring.sum (code m) (code n)) (small (ring.sum_below (code m) (code n)) ring.size_at_most)

  pub plus_packed : (m n : Monomial) → (plus ring m n).bits < 2 ^ 64
  plus_packed m n = packing_laws.packed_below (term m) (ring.sum (code m) (code n)) (packing_laws.term_fits m.bits) (small (ring.sum_below (code m) (code n)) ring.size_at_most)

  pub times_packed : (s m : Monomial) → fits (product (term s) (term m)) ≡ true → (times ring s m).bits < 2 ^ 64
  times_packed s m h = packing_laws.packed_below (product (term s) (term m)) (ring.product (code s) (code m)) (fits_is (product (term s) (term m)) h) (small (ring.product_below (code s) (code m)) ring.size_at_most)

-- a monomial is kept exactly where its code is not 0
pub kept_cases : (Q : List Monomial → Type 0) (m : Monomial) → (code m ≡ 0 → Q []) → (0 < code m → Q (m ∷ [])) → Q (kept m)
kept_cases Q m z p = cond_both (eqb (code m) 0) [] (m ∷ []) Q (λ e. z (eqb-true (code m) 0 e)) (λ e. p (positive (code m) (eqb-false (code m) 0 e)))
  where
    positive : (c : ℕ) → (c ≡ 0 → ⊥) → 0 < c
    positive c n = omega arith

pub all_kept : (P : Monomial → Type 0) (m : Monomial) (h : List Monomial) → (0 < code m → P m) → AllByRecursion P h → AllByRecursion P (kept m ++ h)
all_kept P m h p a = kept_cases (λ k. AllByRecursion P (k ++ h)) m (λ _. a) (λ l. (p l, a))
