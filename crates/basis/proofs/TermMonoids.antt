-- Terms with their product, lcm and order, as far as the theory asks.
use Rattle.std.proofs.Common.{◌≡◌, ◌⊎◌, sym, ap, ◌∙◌, inl, inr}
use mathlib.Core.WellFounded.{Acc}

pub record TermMonoid (T : Type 0) : Type 0 where
  pub product : T → T → T
  pub commutes : (s t : T) → product s t ≡ product t s
  pub associates : (r s t : T) → product (product r s) t ≡ product r (product s t)
  pub cancels : (r s t : T) → product r s ≡ product r t → s ≡ t
  pub divide : (s t : T) → Dec ((m : T) × (product s m ≡ t))

pub record MonoidOrder {T : Type 0} (M : TermMonoid T) : Type 1 where
  pub before : T → T → Type 0
  pub irreflexive : (t : T) → before t t → ⊥
  pub transitive : (r s t : T) → before r s → before s t → before r t
  pub trichotomy : (s t : T) → before s t ⊎ ((s ≡ t) ⊎ before t s)
  pub kept_by_product : (r s t : T) → before s t → before (M.product r s) (M.product r t)
  pub well_founded : (t : T) → Acc before t

-- s divides t
abbrev pub Divisor : {T : Type 0} → TermMonoid T → T → T → Type 0
Divisor {T} M s t = (m : T) × (M.product s m ≡ t)

module _ {T : Type 0} (M : TermMonoid T) where
  open M use {product as ◌·◌}

  infixl 70 ◌·◌
  pub divisor_of_divisor : (r s t : T) → Divisor M r s → Divisor M s t → Divisor M r t
  divisor_of_divisor r s t (m, e) (n, f) = (m · n, sym (M.associates r m n) ∙ ap (λ z. z · n) e ∙ f)

  -- if h·n = top, top·m = x and h·s = x, then m·n = s
  pub cofactor : (h n top m x s : T) → h · n ≡ top → top · m ≡ x → h · s ≡ x → m · n ≡ s
  cofactor h n top m x s e f k = M.cancels h (m · n) s (ap (λ z. h · z) (M.commutes m n) ∙ sym (M.associates h n m) ∙ ap (λ z. z · m) e ∙ f ∙ sym k)

  module _ (O : MonoidOrder M) where
    -- a common factor may be taken away
    pub before_without_factor : (r s t : T) → O.before (r · s) (r · t) → O.before s t
    before_without_factor r s t h = which (O.trichotomy s t)
      where
        which : O.before s t ⊎ ((s ≡ t) ⊎ O.before t s) → O.before s t
        which (inl l) = l
        which (inr (inl e)) = absurd (O.irreflexive (r · t) (rw e at h))
        which (inr (inr l)) = absurd (O.irreflexive (r · s) (O.transitive (r · s) (r · t) (r · s) h (O.kept_by_product r t s l)))
