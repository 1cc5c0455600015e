-- The two sides of a pair of rings, and how each of the pair's operations reads on a side.
use Rattle.std.proofs.Common.{◌≡◌, ℕ, ◌<◌, sym, refl, ap, ◌∙◌, ap₂}
use Rattle.ring.specs.CoefficientRing.{CoefficientRing}
use Rattle.ring.specs.Pair.{pair_size, left, right, joined, pair_one, pair_sum, pair_negative, pair_product, joined_gcd, pair_gcd, pair_annihilator, pair_residue}
use Rattle.ring.proofs.Withins.{within_inside, both_within_inside}
use Rattle.ring.proofs.PairCodes.{left_of_joined, right_of_joined, left_of_zero, right_of_zero, left_below, right_below, joined_below, same_sides, zero_below}

-- which of the two rings
pub data Side : Type 0 where
  on_left on_right : Side

module _ (L R : CoefficientRing) where
  abbrev pub ring_on : Side → CoefficientRing
  ring_on on_left = L
  ring_on on_right = R

  abbrev pub code_on : Side → ℕ → ℕ
  code_on on_left a = left L R a
  code_on on_right a = right L R a

  -- a is a code of the pair, and x is its code on side s
  pub record Reads (s : Side) (a x : ℕ) : Type 0 where
    pub below : a < pair_size L R
    pub is : code_on s a ≡ x

  -- a code found on each side is a code of the pair
  pub choose : (P : Side → ℕ → Type 0) → ((s : Side) → (z : ℕ) × (z < (ring_on s).size) × P s z) → (q : ℕ) × (q < pair_size L R) × ((s : Side) → P s (code_on s q))
  choose P found =
      (joined L R x y, joined_below L R x y (found on_left).1 below, holds)
    where
      x : ℕ
      x = (found on_left).0

      y : ℕ
      y = (found on_right).0

      below : y < R.size
      below = (found on_right).1

      holds : (s : Side) → P s (code_on s (joined L R x y))
      holds on_left = rw (left_of_joined L R x y below) (found on_left).2
      holds on_right = rw (right_of_joined L R x y below) (found on_right).2

  -- an operation f that every ring has, worked on both sides of a and b and joined: on a side it is f there
  joined_code_on : (s : Side) (f : CoefficientRing → ℕ → ℕ → ℕ) (a b : ℕ) → f R (right L R a) (right L R b) < R.size → code_on s (joined L R (f L (left L R a) (left L R b)) (f R (right L R a) (right L R b))) ≡ f (ring_on s) (code_on s a) (code_on s b)
  joined_code_on on_left f a b below = left_of_joined L R _ _ below
  joined_code_on on_right f a b below = right_of_joined L R _ _ below

  gcd_inside : (a b : ℕ) → a < pair_size L R → b < pair_size L R → pair_gcd L R a b ≡ joined_gcd L R (L.gcd (left L R a) (left L R b)) (R.gcd (right L R a) (right L R b))
  gcd_inside a b ha hb = both_within_inside _ a b _ _ ha hb

module _ {L R : CoefficientRing} where
  -- every code of the pair reads as its code on the side
  pub itself : (s : Side) {a : ℕ} → a < pair_size L R → Reads L R s a (code_on L R s a)
  itself s h = record { below = h; is = refl }

  pub reads_below : {s : Side} {a x : ℕ} → Reads L R s a x → x < (ring_on L R s).size
  reads_below {s} {a} p = rw (← p.is) (code_below s)
    where
      code_below : (s : Side) → code_on L R s a < (ring_on L R s).size
      code_below on_left = left_below L R a p.below
      code_below on_right = right_below L R a

  -- equal codes read the same
  pub same_reading : {s : Side} {a b x y : ℕ} → Reads L R s a x → Reads L R s b y → a ≡ b → x ≡ y
  same_reading {s} p q e = sym p.is ∙ ap (code_on L R s) e ∙ q.is

  -- codes that read the same on both sides are equal
  pub equal_by_sides : {a b : ℕ} {x y : Side → ℕ} → ((s : Side) → Reads L R s a (x s)) → ((s : Side) → Reads L R s b (y s)) → ((s : Side) → x s ≡ y s) → a ≡ b
  equal_by_sides {a} {b} p q e = same_sides L R a b (agree on_left) (agree on_right)
    where
      agree : (s : Side) → code_on L R s a ≡ code_on L R s b
      agree s = (p s).is ∙ e s ∙ sym (q s).is

  -- so a code c that joins the two answers of f reads on a side as f's answer there
  joined_on : (f : CoefficientRing → ℕ → ℕ → ℕ) → ((S : CoefficientRing) (x y : ℕ) → f S x y < S.size) → {s : Side} {a b x y c : ℕ} → Reads L R s a x → Reads L R s b y → c ≡ joined L R (f L (left L R a) (left L R b)) (f R (right L R a) (right L R b)) → Reads L R s c (f (ring_on L R s) x y)
  joined_on f below {s} {a} {b} p q e =
      record {
        below = rw e (joined_below L R _ _ (below L _ _) (below R _ _));
        is = ap (code_on L R s) e ∙ joined_code_on L R s f a b (below R _ _) ∙ ap₂ (f (ring_on L R s)) p.is q.is;
      }

  pub zero_on : {s : Side} → Reads L R s 0 0
  zero_on {s} = record { below = zero_below L R; is = zero_code s }
    where
      zero_code : (s : Side) → code_on L R s 0 ≡ 0
      zero_code on_left = left_of_zero L R
      zero_code on_right = right_of_zero L R

  pub one_on : {s : Side} → Reads L R s (pair_one L R) (ring_on L R s).one
  one_on = joined_on (λ S _ _. S.one) (λ S _ _. S.one_below) zero_on zero_on refl

  pub sum_on : {s : Side} {a b x y : ℕ} → Reads L R s a x → Reads L R s b y → Reads L R s (pair_sum L R a b) ((ring_on L R s).sum x y)
  sum_on p q =
      joined_on (λ S. S.sum) (λ S. S.sum_below) p q (both_within_inside _ _ _ _ _ p.below q.below)

  pub negative_on : {s : Side} {a x : ℕ} → Reads L R s a x → Reads L R s (pair_negative L R a) ((ring_on L R s).negative x)
  negative_on p =
      joined_on (λ S x _. S.negative x) (λ S x _. S.negative_below x) p p (within_inside _ _ _ _ p.below)

  pub product_on : {s : Side} {a b x y : ℕ} → Reads L R s a x → Reads L R s b y → Reads L R s (pair_product L R a b) ((ring_on L R s).product x y)
  product_on p q =
      joined_on (λ S. S.product) (λ S. S.product_below) p q (both_within_inside _ _ _ _ _ p.below q.below)

  pub annihilator_on : {s : Side} {a x : ℕ} → Reads L R s a x → Reads L R s (pair_annihilator L R a) ((ring_on L R s).annihilator x)
  annihilator_on p =
      joined_on (λ S x _. S.annihilator x) (λ S x _. S.annihilator_below x) p p (within_inside _ _ _ _ p.below)

  pub residue_on : {s : Side} {a b x y : ℕ} → Reads L R s a x → Reads L R s b y → Reads L R s (pair_residue L R a b) ((ring_on L R s).residue x y)
  residue_on p q =
      joined_on (λ S. S.residue) (λ S. S.residue_below) p q (both_within_inside _ _ _ _ _ p.below q.below)

  pub gcd_g_on : {s : Side} {a b x y : ℕ} → Reads L R s a x → Reads L R s b y → Reads L R s (pair_gcd L R a b).g ((ring_on L R s).gcd x y).g
  gcd_g_on p q =
      joined_on (λ S x y. (S.gcd x y).g) (λ S x y. (S.gcd_below x y).0) p q (ap (λ d. d.g) (gcd_inside L R _ _ p.below q.below))

  pub gcd_u_on : {s : Side} {a b x y : ℕ} → Reads L R s a x → Reads L R s b y → Reads L R s (pair_gcd L R a b).u ((ring_on L R s).gcd x y).u
  gcd_u_on p q =
      joined_on (λ S x y. (S.gcd x y).u) (λ S x y. (S.gcd_below x y).1) p q (ap (λ d. d.u) (gcd_inside L R _ _ p.below q.below))

  pub gcd_v_on : {s : Side} {a b x y : ℕ} → Reads L R s a x → Reads L R s b y → Reads L R s (pair_gcd L R a b).v ((ring_on L R s).gcd x y).v
  gcd_v_on p q =
      joined_on (λ S x y. (S.gcd x y).v) (λ S x y. (S.gcd_below x y).2) p q (ap (λ d. d.v) (gcd_inside L R _ _ p.below q.below))
