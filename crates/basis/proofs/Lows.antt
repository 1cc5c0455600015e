-- Sums of steps whose products all lie before a term: they are closed under sums, multiples and shifts.
use Rattle.std.proofs.Common.{◌≡◌, List, [], ◌∷◌, ◌++◌, sym, refl, ap, ◌∙◌, subst, ap₂}
use Rattle.std.specs.List.{AllByRecursion}
use Rattle.std.proofs.ByRecursion.{All-append}
use Rattle.basis.proofs.Rings.{CommutativeRing, zero_left, times_zero, zero_right}
use Rattle.basis.proofs.TermMonoids.{TermMonoid, MonoidOrder}
use Rattle.basis.proofs.Shifts.{shifted, shifted_same, shifted_after}
use Rattle.basis.proofs.Steps.{LineStep, combined, combined_append, multiplied_steps, combined_multiplied, scaled_steps, combined_scaled}

-- lines, each known by its coefficients, with its head
pub record Lines {A T : Type 0} (R : CommutativeRing A) (M : TermMonoid T) (O : MonoidOrder M) (I : Type 0) : Type 0 where
  pub at : I → T → A
  pub head_term : I → T
  pub head_code : I → A
  pub at_head : (i : I) → at i (head_term i) ≡ head_code i
  pub after_head : (i : I) (x : T) → O.before (head_term i) x → at i x ≡ R.zero

module _ {A T I : Type 0} {R : CommutativeRing A} {M : TermMonoid T} {O : MonoidOrder M} (L : Lines R M O I) where
  open R use {zero as 𝟎, sum as ◌+◌, product as ◌*◌}
  open M use {product as ◌·◌}
  open O use {before as ◌≺◌}

  infixl 60 ◌+◌
  infixl 70 ◌*◌
  infixl 70 ◌·◌
  infix 40 ◌≺◌
  -- the coefficients of a sum of steps of the lines
  abbrev pub value : List (LineStep A T I) → T → A
  value σ = combined R M L.at σ

  -- the product of a step: where its head stands
  abbrev pub step_product : LineStep A T I → T
  step_product p = p.term · L.head_term p.line

  -- f has the coefficients of a sum of steps whose products are all before X
  pub record Low (X : T) (f : T → A) : Type 0 where
    pub steps : List (LineStep A T I)
    pub low : AllByRecursion (λ p. O.before (step_product p) X) steps
    pub same : (x : T) → f x ≡ value steps x

  low_multiplied_steps : (a : A) (m X : T) (σ : List (LineStep A T I)) → AllByRecursion (λ p. step_product p ≺ X) σ → AllByRecursion (λ p. step_product p ≺ m · X) (multiplied_steps R M L.at a m σ)
  low_multiplied_steps a m X [] h = tt
  low_multiplied_steps a m X (p ∷ σ) h = (rw (M.associates m p.term (L.head_term p.line)) (O.kept_by_product m (step_product p) X h.0), low_multiplied_steps a m X σ h.1)

  low_scaled_steps : (a : A) (X : T) (σ : List (LineStep A T I)) → AllByRecursion (λ p. step_product p ≺ X) σ → AllByRecursion (λ p. step_product p ≺ X) (scaled_steps R M L.at a σ)
  low_scaled_steps a X [] h = tt
  low_scaled_steps a X (p ∷ σ) h = (h.0, low_scaled_steps a X σ h.1)

  pub low_same : {X : T} {f g : T → A} → Low X f → ((x : T) → g x ≡ f x) → Low X g
  low_same w h = record { steps = w.steps; low = w.low; same = λ x. h x ∙ w.same x }

  pub low_zero : {X : T} → Low X (λ x. 𝟎)
  low_zero = record { steps = []; low = tt; same = λ x. refl }

  pub low_sum : {X : T} {f g : T → A} → Low X f → Low X g → Low X (λ x. f x + g x)
  low_sum {X} w v = record {
    steps = w.steps ++ v.steps;
    low = All-append (λ p. step_product p ≺ X) w.steps v.steps w.low v.low;
    same = λ x. ap₂ ◌+◌ (w.same x) (v.same x) ∙ sym (combined_append R M L.at w.steps v.steps x);
  }

  pub low_multiple : {X : T} {f : T → A} (a : A) → Low X f → Low X (λ x. a * f x)
  low_multiple {X} a w = record {
    steps = scaled_steps R M L.at a w.steps;
    low = low_scaled_steps a X w.steps w.low;
    same = λ x. ap (λ y. a * y) (w.same x) ∙ sym (combined_scaled R M L.at a w.steps x);
  }

  low_times : {X : T} {f : T → A} (a : A) (m : T) → Low X f → Low (m · X) (λ x. a * shifted R M m f x)
  low_times {X} {f} a m w = record {
    steps = multiplied_steps R M L.at a m w.steps;
    low = low_multiplied_steps a m X w.steps w.low;
    same = λ x. ap (λ y. a * y) (shifted_same R M m f (value w.steps) w.same x) ∙ sym (combined_multiplied R M L.at a m w.steps x);
  }

  -- what is low before Y is low before m·Y = X when it is multiplied by m
  pub low_raised : {f : T → A} (a : A) (m Y X : T) → m · Y ≡ X → Low Y f → Low X (λ x. a * shifted R M m f x)
  low_raised {f} a m Y X e w = subst (λ Z. Low Z (λ x. a * shifted R M m f x)) e (low_times a m w)

  pub low_step : {X : T} (p : LineStep A T I) → step_product p ≺ X → Low X (λ x. p.code * shifted R M p.term (L.at p.line) x)
  low_step p h = record { steps = p ∷ []; low = (h, tt); same = λ x. sym (zero_right R _) }

  -- steps with products before X add nothing at X
  pub value_at_bound : (X : T) (σ : List (LineStep A T I)) → AllByRecursion (λ p. step_product p ≺ X) σ → value σ X ≡ 𝟎
  value_at_bound X [] h = refl
  value_at_bound X (p ∷ σ) h =
      ap₂ ◌+◌ (ap (λ y. p.code * y) (shifted_after R M O p.term (L.head_term p.line) (L.at p.line) (L.after_head p.line) X h.0) ∙ times_zero R p.code) (value_at_bound X σ h.1) ∙ zero_left R 𝟎

  pub low_at_bound : {X : T} {f : T → A} → Low X f → f X ≡ 𝟎
  low_at_bound {X} w = w.same X ∙ value_at_bound X w.steps w.low
