-- A coefficient function times a term.
use Rattle.std.proofs.Common.{◌≡◌, sym, refl, ap, ◌∙◌, subst, ap₂}
use Rattle.basis.proofs.Rings.{CommutativeRing, zero_right, times_zero}
use Rattle.basis.proofs.Equations.{zero_difference}
use Rattle.basis.proofs.TermMonoids.{TermMonoid, MonoidOrder, Divisor, before_without_factor}

-- f at the quotient, zero where there is none
abbrev pub at_quotient : {A T : Type 0} (R : CommutativeRing A) (M : TermMonoid T) {s x : T} → Dec (Divisor M s x) → (T → A) → A
at_quotient R M (yes d) f = f d.0
at_quotient R M (no _) f = R.zero

-- the coefficients of s·f
unfoldable pub shifted : {A T : Type 0} (R : CommutativeRing A) (M : TermMonoid T) → T → (T → A) → T → A
shifted R M s f x = at_quotient R M (M.divide s x) f

module _ {A T : Type 0} (R : CommutativeRing A) (M : TermMonoid T) where
  open R use {zero as 𝟎, sum as ◌+◌, negative as −◌, product as ◌*◌}
  open M use {product as ◌·◌}

  infixl 60 ◌+◌
  infixl 70 ◌*◌
  infix 80 −◌
  infixl 70 ◌·◌
  pub shifted_at_product : (s : T) (f : T → A) (y : T) → shifted R M s f (s · y) ≡ f y
  unfolding shifted
  shifted_at_product s f y = which (M.divide s (s · y))
    where
      which : (d : Dec (Divisor M s (s · y))) → at_quotient R M d f ≡ f y
      which (yes d) = ap f (M.cancels s d.0 y d.1)
      which (no n) = absurd (n (y, refl))

  pub shifted_elsewhere : (s : T) (f : T → A) (x : T) → ¬ Divisor M s x → shifted R M s f x ≡ 𝟎
  unfolding shifted
  shifted_elsewhere s f x h = which (M.divide s x)
    where
      which : (d : Dec (Divisor M s x)) → at_quotient R M d f ≡ 𝟎
      which (yes d) = absurd (h d)
      which (no n) = refl

  -- a property at every x: at the products of s, and where s does not divide
  pub by_division : (P : T → Type 0) (s : T) → ((y : T) → P (s · y)) → ((x : T) → ¬ Divisor M s x → P x) → (x : T) → P x
  by_division P s h k x = which (M.divide s x)
    where
      which : Dec (Divisor M s x) → P x
      which (yes d) = subst P d.1 (h d.0)
      which (no n) = k x n

  pub shifted_twice : (s r : T) (f : T → A) (x : T) → shifted R M s (shifted R M r f) x ≡ shifted R M (s · r) f x
  shifted_twice s r f = by_division (λ x. shifted R M s (shifted R M r f) x ≡ shifted R M (s · r) f x) s
      (by_division (λ y. shifted R M s (shifted R M r f) (s · y) ≡ shifted R M (s · r) f (s · y)) r
      (λ z. shifted_at_product s (shifted R M r f) (r · z) ∙ shifted_at_product r f z ∙ sym (ap (shifted R M (s · r) f) (sym (M.associates s r z)) ∙ shifted_at_product (s · r) f z))
      (λ y n. shifted_at_product s (shifted R M r f) y ∙ shifted_elsewhere r f y n ∙ sym (shifted_elsewhere (s · r) f (s · y) (λ d. n (d.0, M.cancels s (r · d.0) y (sym (M.associates s r d.0) ∙ d.1))))))
      (λ x n. shifted_elsewhere s (shifted R M r f) x n ∙ sym (shifted_elsewhere (s · r) f x (λ d. n (r · d.0, sym (M.associates s r d.0) ∙ d.1))))

  pub shifted_sum : (s : T) (f g : T → A) (x : T) → shifted R M s (λ y. f y + g y) x ≡ shifted R M s f x + shifted R M s g x
  shifted_sum s f g = by_division (λ x. shifted R M s (λ y. f y + g y) x ≡ shifted R M s f x + shifted R M s g x) s
      (λ y. shifted_at_product s (λ z. f z + g z) y ∙ sym (ap₂ ◌+◌ (shifted_at_product s f y) (shifted_at_product s g y)))
      (λ x n. shifted_elsewhere s _ x n ∙ sym (ap₂ ◌+◌ (shifted_elsewhere s f x n) (shifted_elsewhere s g x n) ∙ zero_right R 𝟎))

  pub shifted_multiple : (s : T) (c : A) (f : T → A) (x : T) → shifted R M s (λ y. c * f y) x ≡ c * shifted R M s f x
  shifted_multiple s c f = by_division (λ x. shifted R M s (λ y. c * f y) x ≡ c * shifted R M s f x) s
      (λ y. shifted_at_product s (λ z. c * f z) y ∙ sym (ap (λ z. c * z) (shifted_at_product s f y)))
      (λ x n. shifted_elsewhere s _ x n ∙ sym (ap (λ z. c * z) (shifted_elsewhere s f x n) ∙ times_zero R c))

  pub shifted_difference : (s : T) (a b : A) (f g : T → A) (x : T) → shifted R M s (λ y. a * f y + − (b * g y)) x ≡ a * shifted R M s f x + − (b * shifted R M s g x)
  shifted_difference s a b f g = by_division (λ x. shifted R M s (λ y. a * f y + − (b * g y)) x ≡ a * shifted R M s f x + − (b * shifted R M s g x)) s
      (λ y. rw (shifted_at_product s (λ z. a * f z + − (b * g z)) y, shifted_at_product s f y, shifted_at_product s g y))
      (λ x n. rw (shifted_elsewhere s (λ z. a * f z + − (b * g z)) x n, shifted_elsewhere s f x n, shifted_elsewhere s g x n) (sym (zero_difference R a b)))

  pub shifted_zero : (s : T) (x : T) → shifted R M s (λ y. 𝟎) x ≡ 𝟎
  shifted_zero s = by_division (λ x. shifted R M s (λ y. 𝟎) x ≡ 𝟎) s (λ y. shifted_at_product s _ y) (λ x n. shifted_elsewhere s _ x n)

  pub shifted_same : (s : T) (f g : T → A) → ((x : T) → f x ≡ g x) → (x : T) → shifted R M s f x ≡ shifted R M s g x
  shifted_same s f g h x = ap (λ k. shifted R M s k x) (λ i y. h y i)

  -- s·f is zero after s·u if f is zero after u
  pub shifted_after : (O : MonoidOrder M) (s u : T) (f : T → A) → ((y : T) → O.before u y → f y ≡ 𝟎) → (x : T) → O.before (s · u) x → shifted R M s f x ≡ 𝟎
  shifted_after O s u f h = by_division (λ x. O.before (s · u) x → shifted R M s f x ≡ 𝟎) s
      (λ y l. shifted_at_product s f y ∙ h y (before_without_factor M O s u y l))
      (λ x n l. shifted_elsewhere s f x n)
