-- The criterion over any lines: by well-founded induction on a bound of the products.
use Rattle.std.proofs.Common.{◌≡◌, ◌⊎◌, List, [], ◌∷◌, sym, refl, ap, ◌∙◌, inl, inr}
use mathlib.Core.WellFounded.Acc
use Rattle.std.specs.List.{AllByRecursion}
use Rattle.std.proofs.ByRecursion.{All-weaker}
use Rattle.basis.proofs.Rings.{CommutativeRing, Factor, factor_of_itself, factor_of_factor}
use Rattle.basis.proofs.Equations.{same_if_no_difference, put_back}
use Rattle.basis.proofs.TermMonoids.{TermMonoid, MonoidOrder, Divisor, divisor_of_divisor}
use Rattle.basis.proofs.Shifts.{shifted, shifted_at_product, shifted_multiple}
use Rattle.basis.proofs.Steps.{LineStep}
use Rattle.basis.proofs.Lows.{Lines, Low, value, step_product, low_same, low_sum, low_raised, low_at_bound, value_at_bound}
use Rattle.basis.proofs.Swaps.{Annihilated, Joined, Gathered, gather}

module _ {A T I : Type 0} {R : CommutativeRing A} {M : TermMonoid T} {O : MonoidOrder M} (L : Lines R M O I) where
  open R use {zero as 𝟎, sum as ◌+◌, negative as −◌, product as ◌*◌}
  open M use {product as ◌·◌}
  open O use {before as ◌≺◌}

  infixl 60 ◌+◌
  infixl 70 ◌*◌
  infix 80 −◌
  infixl 70 ◌·◌
  infix 40 ◌≺◌
  -- a line whose head divides the monomial a·t
  pub record Fitting (t : T) (a : A) : Type 0 where
    pub line : I
    pub term : Divisor M (L.head_term line) t
    pub code : Factor R (L.head_code line) a

  -- if t is the head term of f, some line fits there
  abbrev pub HeadFits : (T → A) → Type 0
  HeadFits f = (t : T) → ¬ (f t ≡ 𝟎) → ((y : T) → t ≺ y → f y ≡ 𝟎) → Fitting t (f t)

  -- a step whose product is not after X
  abbrev NotAfter : T → LineStep A T I → Type 0
  NotAfter X p = (step_product L p ≺ X) ⊎ (step_product L p ≡ X)

  -- a line whose head divides each step at X
  abbrev Chosen : T → List (LineStep A T I) → Type 0
  Chosen X σ = (l : I) × Divisor M (L.head_term l) X × AllByRecursion (Gathered L X l) σ

  at_product : (X : T) (p : LineStep A T I) → step_product L p ≡ X → Divisor M (L.head_term p.line) X
  at_product X p e = (p.term, M.commutes (L.head_term p.line) p.term ∙ e)

  -- one more step at X, where a line is chosen already: the line that covers both
  choose_again : (X : T) (p : LineStep A T I) (σ : List (LineStep A T I)) → step_product L p ≡ X → (c : Chosen X σ) → Joined L c.0 p.line → Chosen X (p ∷ σ)
  choose_again X p σ e (l, d, ks) b =
      let old : Factor R (L.head_code b.cover) (L.head_code l) = factor_of_factor R (L.head_code b.cover) b.g (L.head_code l) b.cover_code (b.over_i, b.divides_i) in
      let new : Factor R (L.head_code b.cover) (L.head_code p.line) = factor_of_factor R (L.head_code b.cover) b.g (L.head_code p.line) b.cover_code (b.over_k, b.divides_k) in
      let keep : (q : LineStep A T I) → Gathered L X l q → Gathered L X b.cover q = λ q. elim [ inl c ↦ inl c | inr f ↦ inr (f.0, factor_of_factor R (L.head_code b.cover) (L.head_code l) (L.head_code q.line) old f.1) ] in
      (b.cover, divisor_of_divisor M (L.head_term b.cover) b.top X b.cover_term (b.least X d (at_product X p e)), (inr (e, new), All-weaker (Gathered L X l) (Gathered L X b.cover) keep σ ks))

  -- all steps are before X, or a line is chosen
  choose : ((i k : I) → Joined L i k) → (X : T) (σ : List (LineStep A T I)) → AllByRecursion (NotAfter X) σ → AllByRecursion (λ p. step_product L p ≺ X) σ ⊎ Chosen X σ
  choose joined X [] h = inl tt
  choose joined X (p ∷ σ) h = one_more h.0 (choose joined X σ h.1)
    where
      one_more : NotAfter X p → AllByRecursion (λ q. step_product L q ≺ X) σ ⊎ Chosen X σ → AllByRecursion (λ q. step_product L q ≺ X) (p ∷ σ) ⊎ Chosen X (p ∷ σ)
      one_more (inl b) (inl bs) = inl (b, bs)
      one_more (inl b) (inr (l, d, ks)) = inr (l, d, (inl b, ks))
      one_more (inr e) (inl bs) = inr (p.line, at_product X p e, (inr (e, factor_of_itself R (L.head_code p.line)), All-weaker (λ q. step_product L q ≺ X) (Gathered L X p.line) (λ q b. inl b) σ bs))
      one_more (inr e) (inr c) = inr (choose_again X p σ e c (joined c.0 p.line))

  -- the greatest product of some steps
  abbrev Greatest : List (LineStep A T I) → Type 0
  Greatest σ = (Y : T) × AllByRecursion (NotAfter Y) σ × ((X : T) → AllByRecursion (λ q. step_product L q ≺ X) σ → Y ≺ X)

  raise : (Y Z : T) → Y ≺ Z → (q : LineStep A T I) → NotAfter Y q → NotAfter Z q
  raise Y Z l q (inl c) = inl (O.transitive (step_product L q) Y Z c l)
  raise Y Z l q (inr e) = inl (rw e l)

  greatest : (p : LineStep A T I) (σ : List (LineStep A T I)) → Greatest (p ∷ σ)
  greatest p [] = (step_product L p, (inr refl, tt), λ X h. h.0)
  greatest p (q ∷ σ) = one_more (greatest q σ)
    where
      one_more : Greatest (q ∷ σ) → Greatest (p ∷ q ∷ σ)
      one_more (Y, us, up) = which (O.trichotomy (step_product L p) Y)
        where
          which : (step_product L p ≺ Y) ⊎ ((step_product L p ≡ Y) ⊎ (Y ≺ step_product L p)) → Greatest (p ∷ q ∷ σ)
          which (inl l) = (Y, (inl l, us), λ X h. up X h.1)
          which (inr (inl e)) = (Y, (inr e, us), λ X h. up X h.1)
          which (inr (inr l)) = (step_product L p, (inr refl, All-weaker (NotAfter Y) (NotAfter (step_product L p)) (raise Y (step_product L p) l) (q ∷ σ) us), λ X h. h.0)

  -- the claim for sums of steps whose products are not after X
  abbrev Claim : T → Type 0
  Claim X = (σ : List (LineStep A T I)) → AllByRecursion (NotAfter X) σ → HeadFits (value L σ)

  -- what is low before X is a sum of steps with a greatest product before X
  descend : (X : T) → ((Y : T) → Y ≺ X → Claim Y) → (f : T → A) → Low L X f → HeadFits f
  descend X earlier f w t nz z = by_steps w.steps w.low w.same
    where
      by_steps : (σ : List (LineStep A T I)) → AllByRecursion (λ p. step_product L p ≺ X) σ → ((x : T) → f x ≡ value L σ x) → Fitting t (f t)
      by_steps [] h e = absurd (nz (e t))
      by_steps (p ∷ σ) h e =
          let (Y, us, up) = greatest p σ in
          rw (e t) (earlier Y (up X h) (p ∷ σ) us t (λ k. nz (e t ∙ k)) (λ y l. sym (e y) ∙ z y l))

  module _ (annihilated : (k : I) → Annihilated L k) (joined : (i k : I) → Joined L i k) (zero? : (a : A) → Dec (a ≡ 𝟎)) where
    -- a line is chosen at X: its head divides the coefficient there, or all is low
    with_chosen : (X : T) → ((Y : T) → Y ≺ X → Claim Y) → (σ : List (LineStep A T I)) → AllByRecursion (NotAfter X) σ → Chosen X σ → HeadFits (value L σ)
    with_chosen X earlier σ h (l, (n, el), ks) t nz z = which (zero? (value L σ X)) (O.trichotomy t X)
      where
        C : A
        C = (gather L annihilated joined X l n el σ ks).0

        rest : Low L X (λ x. value L σ x + − (C * shifted R M n (L.at l) x))
        rest = (gather L annihilated joined X l n el σ ks).1

        turned : n · L.head_term l ≡ X
        turned = M.commutes n (L.head_term l) ∙ el

        at_X : shifted R M n (L.at l) X ≡ L.head_code l
        at_X = ap (shifted R M n (L.at l)) (sym turned) ∙ shifted_at_product R M n (L.at l) (L.head_term l) ∙ L.at_head l

        coefficient_at_X : value L σ X ≡ C * L.head_code l
        coefficient_at_X = same_if_no_difference R _ _ (low_at_bound L rest) ∙ ap (λ y. C * y) at_X

        under : X ≺ t → (p : LineStep A T I) → NotAfter X p → step_product L p ≺ t
        under b p (inl c) = O.transitive (step_product L p) X t c b
        under b p (inr e) = rw e b

        which : Dec (value L σ X ≡ 𝟎) → (t ≺ X) ⊎ ((t ≡ X) ⊎ (X ≺ t)) → Fitting t (value L σ t)
        which (no nx) (inl b) = absurd (nx (z X b))
        which (no nx) (inr (inl e)) = record { line = l; term = (n, el ∙ sym e); code = (C, sym coefficient_at_X ∙ ap (value L σ) (sym e)) }
        which (no nx) (inr (inr b)) = absurd (nz (value_at_bound L t σ (All-weaker (NotAfter X) (λ p. step_product L p ≺ t) (under b) σ h)))
        which (yes e) _ =
            let (d, ed) = (annihilated l).divides C (sym coefficient_at_X ∙ e) in
            descend X earlier (value L σ) (low_same L (low_sum L rest (low_raised L d n (L.head_term l) X turned (annihilated l).low))
            (λ x. put_back R (value L σ x) C (shifted R M n (L.at l) x) d (annihilated l).annihilator ed
            ∙ ap (λ y. value L σ x + − (C * shifted R M n (L.at l) x) + d * y) (sym (shifted_multiple R M n (annihilated l).annihilator (L.at l) x)))) t nz z

    step : (X : T) → ((Y : T) → Y ≺ X → Claim Y) → Claim X
    step X earlier σ h = which (choose joined X σ h)
      where
        which : AllByRecursion (λ p. step_product L p ≺ X) σ ⊎ Chosen X σ → HeadFits (value L σ)
        which (inl bs) = descend X earlier (value L σ) (record { steps = σ; low = bs; same = λ x. refl })
        which (inr c) = with_chosen X earlier σ h c

    -- the head of each sum of steps is divided by some line's head
    pub heads_fit : (σ : List (LineStep A T I)) → HeadFits (value L σ)
    heads_fit [] t nz z = absurd (nz refl)
    heads_fit (p ∷ σ) t nz z =
        let (Y, us, up) = greatest p σ in
        Acc.ndrec {C = Claim} (λ X _ earlier. step X earlier) (O.well_founded Y) (p ∷ σ) us t nz z
