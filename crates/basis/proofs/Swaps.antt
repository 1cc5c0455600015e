-- At a term X, steps of different lines are multiples of one line, up to what is low before X.
use Rattle.std.proofs.Common.{◌≡◌, ◌⊎◌, List, [], ◌∷◌, sym, ap, ◌∙◌, ap₂, inl, inr}
use Rattle.std.specs.List.{AllByRecursion}
use Rattle.basis.proofs.Rings.{CommutativeRing, Factor}
use Rattle.basis.proofs.Equations.{one_factor, annihilates, swapped, nothing_gathered, low_gathered, top_gathered}
use Rattle.basis.proofs.TermMonoids.{TermMonoid, MonoidOrder, Divisor, cofactor}
use Rattle.basis.proofs.Shifts.{shifted, shifted_twice, shifted_multiple, shifted_difference}
use Rattle.basis.proofs.Steps.{LineStep}
use Rattle.basis.proofs.Lows.{Lines, Low, value, step_product, low_same, low_zero, low_sum, low_raised, low_multiple, low_step}

module _ {A T I : Type 0} {R : CommutativeRing A} {M : TermMonoid T} {O : MonoidOrder M} (L : Lines R M O I) where
  open R use {zero as 𝟎, sum as ◌+◌, negative as −◌, product as ◌*◌}
  open M use {product as ◌·◌}
  open O use {before as ◌≺◌}

  infixl 60 ◌+◌
  infixl 70 ◌*◌
  infix 80 −◌
  infixl 70 ◌·◌
  infix 40 ◌≺◌
  -- a line whose A-polynomial is low
  pub record Annihilated (k : I) : Type 0 where
    pub annihilator : A
    pub divides : (e : A) → R.product e (L.head_code k) ≡ R.zero → Factor R annihilator e
    pub low : Low L (L.head_term k) (λ x. R.product annihilator (L.at k x))

  -- two lines whose S-polynomial is low, and a line whose head divides where their heads meet
  pub record Joined (i k : I) : Type 0 where
    pub g : A
    pub u : A
    pub v : A
    pub over_i : A
    pub over_k : A
    pub combination : g ≡ R.sum (R.product u (L.head_code i)) (R.product v (L.head_code k))
    pub divides_i : R.product over_i g ≡ L.head_code i
    pub divides_k : R.product over_k g ≡ L.head_code k
    pub top : T
    pub lift_i : T
    pub lift_k : T
    pub lifts_i : M.product (L.head_term i) lift_i ≡ top
    pub lifts_k : M.product (L.head_term k) lift_k ≡ top
    pub least : (x : T) → Divisor M (L.head_term i) x → Divisor M (L.head_term k) x → Divisor M top x
    pub low : Low L top (λ x. R.sum (R.product over_k (shifted R M lift_i (L.at i) x)) (R.negative (R.product over_i (shifted R M lift_k (L.at k) x))))
    pub cover : I
    pub cover_term : Divisor M (L.head_term cover) top
    pub cover_code : Factor R (L.head_code cover) g

  -- the S-polynomial, raised to X
  raised : {l i : I} (b : Joined l i) (m n s : T) → m · b.lift_i ≡ n → m · b.lift_k ≡ s → (x : T)
      → shifted R M m (λ y. b.over_k * shifted R M b.lift_i (L.at l) y + − (b.over_i * shifted R M b.lift_k (L.at i) y)) x
      ≡ b.over_k * shifted R M n (L.at l) x + − (b.over_i * shifted R M s (L.at i) x)
  raised {l} {i} b m n s one two x =
      shifted_difference R M m b.over_k b.over_i (shifted R M b.lift_i (L.at l)) (shifted R M b.lift_k (L.at i)) x
      ∙ ap₂ (λ y z. b.over_k * y + − (b.over_i * z)) (shifted_twice R M m b.lift_i (L.at l) x ∙ ap (λ z. shifted R M z (L.at l) x) one)
      (shifted_twice R M m b.lift_k (L.at i) x ∙ ap (λ z. shifted R M z (L.at i) x) two)

  -- line i raised to X is a multiple of line l raised to X, up to what is low; both head terms divide X, and r_l divides r_i
  swap : (X : T) (l i : I) (n s : T) → L.head_term l · n ≡ X → s · L.head_term i ≡ X → Factor R (L.head_code l) (L.head_code i)
      → Joined l i → Annihilated i
      → (C : A) × Low L X (λ x. shifted R M s (L.at i) x + − (C * shifted R M n (L.at l) x))
  swap X l i n s el es (p, ep) b a =
      let w : A = b.u + b.v * p in
      let ei : L.head_term i · s ≡ X = M.commutes (L.head_term i) s ∙ es in
      let (m, em) = b.least X (n, el) (s, ei) in
      let (d, ed) = a.divides _ (annihilates R b.g w (L.head_code l) (L.head_code i) b.over_i b.over_k (one_factor R b.g b.u b.v (L.head_code l) (L.head_code i) p b.combination ep) b.divides_i b.divides_k) in
      let moved = raised b m n s (cofactor M (L.head_term l) b.lift_i b.top m X n b.lifts_i em el) (cofactor M (L.head_term i) b.lift_k b.top m X s b.lifts_k em ei) in (
        w * b.over_k,
        low_same L (low_sum L (low_raised L (− w) m b.top X (M.commutes m b.top ∙ em) b.low) (low_raised L d s (L.head_term i) X es a.low))
            (λ x. swapped R (shifted R M s (L.at i) x) (shifted R M n (L.at l) x) w b.over_i b.over_k d a.annihilator ed
            ∙ sym (ap₂ (λ y z. (− w) * y + d * z) (moved x) (shifted_multiple R M s a.annihilator (L.at i) x))),
      )

  -- a step before X, or at X with a line whose head coefficient r_l divides
  abbrev pub Gathered : T → I → LineStep A T I → Type 0
  Gathered X l p = (step_product L p ≺ X) ⊎ ((step_product L p ≡ X) × Factor R (L.head_code l) (L.head_code p.line))

  -- the sum of such steps is a multiple of line l, up to what is low
  pub gather : ((k : I) → Annihilated k) → ((i k : I) → Joined i k) → (X : T) (l : I) (n : T) → L.head_term l · n ≡ X → (σ : List (LineStep A T I)) → AllByRecursion (Gathered X l) σ
      → (C : A) × Low L X (λ x. value L σ x + − (C * shifted R M n (L.at l) x))
  gather annihilated joined X l n el [] h = (𝟎, low_same L (low_zero L) (λ x. nothing_gathered R (shifted R M n (L.at l) x)))
  gather annihilated joined X l n el (p ∷ σ) h = one_more h.0 (gather annihilated joined X l n el σ h.1)
    where
      one_more : Gathered X l p → (C : A) × Low L X (λ x. value L σ x + − (C * shifted R M n (L.at l) x))
          → (C : A) × Low L X (λ x. value L (p ∷ σ) x + − (C * shifted R M n (L.at l) x))
      one_more (inl b) (C, w) = (C, low_same L (low_sum L (low_step L p b) w) (λ x. low_gathered R _ (value L σ x) C (shifted R M n (L.at l) x)))
      one_more (inr (e, f)) (C, w) =
          let (K, v) = swap X l p.line n p.term el e f (joined l p.line) (annihilated p.line) in
          (p.code * K + C, low_same L (low_sum L (low_multiple L p.code v) w) (λ x. top_gathered R p.code (shifted R M p.term (L.at p.line) x) (value L σ x) K C (shifted R M n (L.at l) x)))
