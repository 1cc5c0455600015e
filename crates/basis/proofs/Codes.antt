-- The codes of a coefficient ring as a commutative ring whose laws have no side conditions: the bound is in the carrier.
use Rattle.std.proofs.Common.{◌≡◌, ℕ, ◌<◌, Bool, true, false, cond, ltb, sym, refl, ap, ◌∙◌, arith}
use mathlib.Core.HLevel.{Σ_prop_path}
use native.Mathlib.Bridge.{le_prop}
use native.Mathlib.Decide.{ℕ_discrete}
use Rattle.std.proofs.lemmas.Bool.{ltb-true, ltb-false, lt-ltb}
use Rattle.ring.specs.CoefficientRing.{CoefficientRing, Multiple}
use Rattle.ring.specs.Within.{within}
use Rattle.basis.proofs.Rings.{CommutativeRing, Factor, times_zero}

module _ (ring : CoefficientRing) where
  abbrev pub Code : Type 0
  Code = (c : ℕ) × (c < ring.size)

  pub same_code : (a b : Code) → a.0 ≡ b.0 → a ≡ b
  same_code a b p = Σ_prop_path (λ c. le_prop) p

  pub zero_below : 0 < ring.size
  zero_below = let h = ring.size_at_least in omega arith

  abbrev pub code_ring : CommutativeRing Code
  code_ring = record {
    zero = (0, zero_below);
    one = (ring.one, ring.one_below);
    sum = λ a b. (ring.sum a.0 b.0, ring.sum_below a.0 b.0);
    negative = λ a. (ring.negative a.0, ring.negative_below a.0);
    product = λ a b. (ring.product a.0 b.0, ring.product_below a.0 b.0);
    sum_commutes = λ a b. same_code _ _ (ring.sum_commutes a.0 b.0 a.1 b.1);
    sum_associates = λ a b c. same_code _ _ (ring.sum_associates a.0 b.0 c.0 a.1 b.1 c.1);
    sum_with_zero = λ a. same_code _ _ (ring.sum_with_zero a.0 a.1);
    sum_with_negative = λ a. same_code _ _ (ring.sum_with_negative a.0 a.1);
    product_commutes = λ a b. same_code _ _ (ring.product_commutes a.0 b.0 a.1 b.1);
    product_associates = λ a b c. same_code _ _ (ring.product_associates a.0 b.0 c.0 a.1 b.1 c.1);
    product_with_one = λ a. same_code _ _ (ring.product_with_one a.0 a.1);
    product_over_sum = λ a b c. same_code _ _ (ring.product_over_sum a.0 b.0 c.0 a.1 b.1 c.1);
  }

  pub zero_code? : (a : Code) → Dec (a ≡ code_ring.zero)
  zero_code? a = which (ℕ_discrete a.0 0)
    where
      which : Dec (a.0 ≡ 0) → Dec (a ≡ code_ring.zero)
      which (yes e) = yes (same_code a code_ring.zero e)
      which (no n) = no (λ e. n (ap (λ c. c.0) e))

  -- a number as a code: zero where it is none
  pub within_below : (b : Bool) (n : ℕ) → (b ≡ true → n < ring.size) → cond b n 0 < ring.size
  within_below true n h = h refl
  within_below false n h = zero_below

  abbrev pub code_of : ℕ → Code
  code_of n = (within ring.size n n 0, within_below (ltb n ring.size) n (ltb-true n ring.size))

  pub code_of_code : (n : ℕ) (h : n < ring.size) → code_of n ≡ (n, h)
  code_of_code n h = same_code (code_of n) (n, h) (ap (λ b. cond b n 0) (lt-ltb n ring.size h))

  product_with_zero : (n : ℕ) → n < ring.size → ring.product n 0 ≡ 0
  product_with_zero n h = ap (λ c. c.0) (times_zero code_ring (n, h))

  -- a product with a number that is no code is zero, as if the number were zero
  product_of_within : (b c : Bool) (m n : ℕ) → ltb m ring.size ≡ b → ltb n ring.size ≡ c → ring.product m n ≡ ring.product (cond b m 0) (cond c n 0)
  product_of_within true true m n p q = refl
  product_of_within true false m n p q = ring.product_outside_right m n (ltb-false n ring.size q) ∙ sym (product_with_zero m (ltb-true m ring.size p))
  product_of_within false c m n p q =
      let h : cond c n 0 < ring.size = within_below c n (λ t. ltb-true n ring.size (q ∙ t)) in
      ring.product_outside_left m n (ltb-false m ring.size p) ∙ sym (ring.product_commutes 0 (cond c n 0) zero_below h ∙ product_with_zero (cond c n 0) h)

  pub code_of_product : (m n : ℕ) → code_of (ring.product m n) ≡ code_ring.product (code_of m) (code_of n)
  code_of_product m n = code_of_code (ring.product m n) (ring.product_below m n) ∙ same_code _ _ (product_of_within (ltb m ring.size) (ltb n ring.size) m n refl refl)

  -- a multiple among codes is a factor in the carrier, and back
  pub factor_of_multiple : (a b : Code) → Multiple ring.size ring.product a.0 b.0 → Factor code_ring b a
  factor_of_multiple a b (q, h, e) = ((q, h), same_code _ _ e)

  pub multiple_of_factor : (a b : Code) → Factor code_ring b a → Multiple ring.size ring.product a.0 b.0
  multiple_of_factor a b (q, e) = (q.0, q.1, ap (λ c. c.0) e)
