-- Sums of steps over any family of coefficient functions.
use Rattle.std.proofs.Common.{◌≡◌, List, [], ◌∷◌, ◌++◌, sym, refl, ap, ◌∙◌, ap₂}
use Rattle.basis.proofs.Rings.{CommutativeRing, zero_left, times_zero, product_nests, over_sum_right, sum_nests}
use Rattle.basis.proofs.TermMonoids.{TermMonoid}
use Rattle.basis.proofs.Shifts.{shifted, shifted_twice, shifted_sum, shifted_multiple, shifted_zero, shifted_same}

-- a constant times a term times a line
pub record LineStep (A T I : Type 0) : Type 0 where
  pub code : A
  pub term : T
  pub line : I

module _ {A T I : Type 0} (R : CommutativeRing A) (M : TermMonoid T) (F : I → T → A) where
  open R use {zero as 𝟎, sum as ◌+◌, product as ◌*◌}
  open M use {product as ◌·◌}

  infixl 60 ◌+◌
  infixl 70 ◌*◌
  infixl 70 ◌·◌
  -- the coefficients of a sum of steps
  abbrev pub combined : List (LineStep A T I) → T → A
  combined [] x = 𝟎
  combined (p ∷ ps) x = p.code * shifted R M p.term (F p.line) x + combined ps x

  pub combined_append : (σ τ : List (LineStep A T I)) (x : T) → combined (σ ++ τ) x ≡ combined σ x + combined τ x
  combined_append [] τ x = sym (zero_left R (combined τ x))
  combined_append (p ∷ σ) τ x = ap (λ y. p.code * shifted R M p.term (F p.line) x + y) (combined_append σ τ x) ∙ sym (sum_nests R _ _ _)

  -- a·m·σ
  abbrev pub multiplied_steps : A → T → List (LineStep A T I) → List (LineStep A T I)
  multiplied_steps a m [] = []
  multiplied_steps a m (p ∷ σ) = record { code = a * p.code; term = m · p.term; line = p.line } ∷ multiplied_steps a m σ

  pub combined_multiplied : (a : A) (m : T) (σ : List (LineStep A T I)) (x : T) → combined (multiplied_steps a m σ) x ≡ a * shifted R M m (combined σ) x
  combined_multiplied a m [] x = sym (ap (λ y. a * y) (shifted_zero R M m x) ∙ times_zero R a)
  combined_multiplied a m (p ∷ σ) x =
      let f : T → A = shifted R M p.term (F p.line) in
      ap₂ (λ y z. a * p.code * y + z) (sym (shifted_twice R M m p.term (F p.line) x)) (combined_multiplied a m σ x)
      ∙ sym (ap (λ y. a * y) (shifted_sum R M m (λ y. p.code * f y) (combined σ) x ∙ ap (λ y. y + shifted R M m (combined σ) x) (shifted_multiple R M m p.code f x))
      ∙ over_sum_right R a (p.code * shifted R M m f x) (shifted R M m (combined σ) x) ∙ ap (λ y. y + a * shifted R M m (combined σ) x) (sym (product_nests R a p.code (shifted R M m f x))))

  -- the steps times a constant
  abbrev pub scaled_steps : A → List (LineStep A T I) → List (LineStep A T I)
  scaled_steps a [] = []
  scaled_steps a (p ∷ σ) = record { code = a * p.code; term = p.term; line = p.line } ∷ scaled_steps a σ

  pub combined_scaled : (a : A) (σ : List (LineStep A T I)) (x : T) → combined (scaled_steps a σ) x ≡ a * combined σ x
  combined_scaled a [] x = sym (times_zero R a)
  combined_scaled a (p ∷ σ) x = ap₂ ◌+◌ (product_nests R a p.code _) (combined_scaled a σ x) ∙ sym (over_sum_right R a _ _)

  -- g has the coefficients of a sum of steps
  pub record Spanned (g : T → A) : Type 0 where
    pub steps : List (LineStep A T I)
    pub same : (x : T) → g x ≡ combined steps x

-- if each of F is a sum of steps over G, so is each sum of steps over F
module _ {A T I J : Type 0} (R : CommutativeRing A) (M : TermMonoid T) (F : I → T → A) (G : J → T → A) (through : (i : I) → Spanned R M G (F i)) where
  pub spanned_through : (σ : List (LineStep A T I)) → Spanned R M G (combined R M F σ)
  spanned_through [] = record { steps = []; same = λ x. refl }
  spanned_through (p ∷ σ) =
      let w = through p.line in
      let v = spanned_through σ in
      record {
        steps = multiplied_steps R M G p.code p.term w.steps ++ v.steps;
        same = λ x. ap₂ R.sum (ap (R.product p.code) (shifted_same R M p.term (F p.line) (combined R M G w.steps) w.same x) ∙ sym (combined_multiplied R M G p.code p.term w.steps x)) (v.same x)
            ∙ sym (combined_append R M G (multiplied_steps R M G p.code p.term w.steps) v.steps x);
      }
