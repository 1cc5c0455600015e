-- Which rings are made: a part's refusal is the whole's, and a pair is made where it has few enough codes.
use Rattle.std.proofs.Common.{◌≡◌, ℕ, ◌*◌, Bool, true, false, cond, ◌&&◌, leb, Ok, Err, Result, sym, refl, ap, subst, ◌∙◌, arith}
use Rattle.std.proofs.lemmas.Bool.{and_left, and_right, both_ways}
use Rattle.refusal.specs.declared.Refusal.{Refusal}
use Rattle.refusal.specs.declared.Refusal.TheVariants.{RingSize}
use Rattle.ring.specs.CoefficientRing.{CoefficientRing}
use Rattle.ring.specs.Pair.{pair_size}
use Rattle.ring.specs.declared.ring.Ring.{Ghosts}
use Rattle.residue.specs.declared.modulus.ResidueRing.{ResidueRing}
use Rattle.residue.specs.Made.{granted as residue_granted}
use Rattle.pair.specs.declared.PairRing.{PairRing}
use Rattle.pair.specs.Paired.{few_enough, paired, paired_if}
use Rattle.pair.specs.Made.{made, parts_of}
use Rattle.ring_plan.specs.declared.RingPlan.TheVariants as plan
use Rattle.ring_plan.specs.Rings.{ResiduePair, ResidueTriple, residue_meaning, pair_meaning, described_pair, described_triple, granted, pair_possible, possible, ring_size, seen}

-- what is granted by a test
abbrev by_test : {A : Type 0} → Bool → A → Result A Refusal
by_test test answer = cond test (Ok answer) (Err RingSize)

-- a refusal by one test is a refusal by each test that fails with it
refusal_by_test : {A B : Type 0} (test other : Bool) (a : A) (b : B) (e : Refusal) → (test ≡ false → other ≡ false) → Err e ≡ by_test test a → Err e ≡ by_test other b
refusal_by_test true other a b e so h = let z : ◌≡◌ {A = ℕ} 0 1 = cc in absurd (omega arith)
refusal_by_test false other a b e so h = rw (so refl) (cc)

-- what was granted by a test, and that the test held
grant_by_test : {A : Type 0} (test : Bool) (a x : A) → Ok x ≡ by_test test a → (x ≡ a) × (test ≡ true)
grant_by_test true a x h = (cc, refl)
grant_by_test false a x h = let z : ◌≡◌ {A = ℕ} 0 1 = cc in absurd (omega arith)

-- the same test seen through a function
seen_by_test : {A B : Type 0} (f : A → B) (test other : Bool) (a : A) (b : B) → test ≡ other → (test ≡ true → f a ≡ b) → seen f (by_test test a) ≡ by_test other b
seen_by_test f true other a b same is = rw (sym same) (ap Ok (is refl))
seen_by_test f false other a b same is = rw (sym same)

-- the size of a pair that has few enough codes
paired_if_size : (L R : CoefficientRing) (few : Bool) (is : few_enough L R ≡ few) → few ≡ true → (paired_if L R few is).size ≡ pair_size L R
paired_if_size L R true is h = refl
paired_if_size L R false is h = absurd (both_ways false refl h)

paired_size : (L R : CoefficientRing) → few_enough L R ≡ true → (paired L R).size ≡ pair_size L R
paired_size L R h = paired_if_size L R (few_enough L R) refl h

-- what is left of a test whose first two parts hold
and_both : (a b c : Bool) → a ≡ true → b ≡ true → c ≡ (a && (b && c))
and_both a b c x y = rw (x, y)

-- a part that is refused refuses the pair
pub refused_left : (p q : ℕ) (e : Refusal) → Err e ≡ residue_granted p → Err e ≡ granted (plan.Pair p q)
refused_left p q e h = refusal_by_test (ring_size p) (pair_possible p q) _ _ e (λ f. and_left (ring_size p) _ f) h

pub refused_right : (p q : ℕ) (e : Refusal) → Err e ≡ residue_granted q → Err e ≡ granted (plan.Pair p q)
refused_right p q e h =
    refusal_by_test (ring_size q) (pair_possible p q) _ _ e (λ f. and_right (ring_size p) _ (and_left (ring_size q) _ f)) h

-- what was granted, by the results
ok_same : {A : Type 0} (x y : A) → ◌≡◌ {A = Result A Refusal} (Ok x) (Ok y) → x ≡ y
ok_same x y h = cc

-- what is seen of a pair that was made of two parts by a test, where its description is told by the parts
seen_of_parts : {A B X : Type 0} {L : Ghosts A} {R : Ghosts B} (describe : PairRing A B L R → X) (test other : Bool) (a : A) (b : B) (x : X) (r : Result (PairRing A B L R) Refusal)
    → test ≡ other → (test ≡ true → (p : PairRing A B L R) → p.left ≡ a → p.right ≡ b → describe p ≡ x) → parts_of r ≡ by_test test (a, b) → seen describe r ≡ by_test other x
seen_of_parts describe true other a b x (Ok p) same is h =
    let parts = ok_same (p.left, p.right) (a, b) h in
    rw (sym same) (ap Ok (is refl p (ap (λ s. s.0) parts) (ap (λ s. s.1) parts)))
seen_of_parts describe true other a b x (Err e) same is h = let z : ◌≡◌ {A = ℕ} 0 1 = cc in absurd (omega arith)
seen_of_parts describe false other a b x (Ok p) same is h = let z : ◌≡◌ {A = ℕ} 0 1 = cc in absurd (omega arith)
seen_of_parts describe false other a b x (Err e) same is h = rw (sym same) (cc)

-- with both parts, the pair is made where it has few enough codes
pub made_pair : {R : Ghosts ResidueRing} (left right : ResidueRing) (p q : ℕ) (r : Result (ResiduePair R) Refusal) → Ok left.n ≡ residue_granted p → Ok right.n ≡ residue_granted q → parts_of r ≡ made (residue_meaning left) (residue_meaning right) left right → seen described_pair r ≡ granted (plan.Pair p q)
made_pair left right p q r hl hr h =
    let l = grant_by_test (ring_size p) p left.n hl in
    let s = grant_by_test (ring_size q) q right.n hr in
    seen_of_parts described_pair (few_enough (residue_meaning left) (residue_meaning right)) (pair_possible p q) left right _ r
    ((λ i. leb (l.0 i * s.0 i) 65536) ∙ and_both (ring_size p) (ring_size q) _ l.1 s.1)
    (λ few pair e f.
    let a : pair.left.n ≡ p = ap (λ ring. ring.n) e ∙ l.0 in
    let b : pair.right.n ≡ q = ap (λ ring. ring.n) f ∙ s.0 in
    let fits = subst (λ ring. few_enough (residue_meaning pair.left) (residue_meaning ring) ≡ true) (sym f) (subst (λ ring. few_enough (residue_meaning ring) (residue_meaning right) ≡ true) (sym e) few) in
    λ i. (plan.Pair (a i) (b i), (paired_size (residue_meaning pair.left) (residue_meaning pair.right) fits ∙ (λ j. a j * b j)) i))
    h

-- the same for a pair whose left part is a pair
pub refused_pair : (p q r : ℕ) (e : Refusal) → Err e ≡ granted (plan.Pair p q) → Err e ≡ granted (plan.Triple p q r)
refused_pair p q r e h =
    refusal_by_test (pair_possible p q) (possible (plan.Triple p q r)) _ _ e (λ f. and_left (pair_possible p q) _ f) h

pub refused_last : (p q r : ℕ) (e : Refusal) → Err e ≡ residue_granted r → Err e ≡ granted (plan.Triple p q r)
refused_last p q r e h =
    refusal_by_test (ring_size r) (possible (plan.Triple p q r)) _ _ e (λ f. and_right (pair_possible p q) _ (and_left (ring_size r) _ f)) h

pub made_triple : {R : Ghosts ResidueRing} {P : Ghosts (ResiduePair R)} (left : ResiduePair R) (right : ResidueRing) (p q n : ℕ) (r : Result (ResidueTriple R P) Refusal) → Ok (described_pair left) ≡ granted (plan.Pair p q) → Ok right.n ≡ residue_granted n → parts_of r ≡ made (pair_meaning left) (residue_meaning right) left right → seen described_triple r ≡ granted (plan.Triple p q n)
made_triple left right p q n r hl hr h =
    let l = grant_by_test (pair_possible p q) (plan.Pair p q, p * q) (described_pair left) hl in
    let s = grant_by_test (ring_size n) n right.n hr in
    let size : (pair_meaning left).size ≡ p * q = ap (λ d. d.1) l.0 in
    seen_of_parts described_triple (few_enough (pair_meaning left) (residue_meaning right)) (possible (plan.Triple p q n)) left right _ r
    ((λ i. leb (size i * s.0 i) 65536) ∙ and_both (pair_possible p q) (ring_size n) _ l.1 s.1)
    (λ few triple e f.
    let left_is : described_pair triple.left ≡ (plan.Pair p q, p * q) = ap described_pair e ∙ l.0 in
    let x : plan.Pair triple.left.left.n triple.left.right.n ≡ plan.Pair p q = ap (λ d. d.0) left_is in
    let a : triple.left.left.n ≡ p = cc in
    let b : triple.left.right.n ≡ q = cc in
    let d : triple.right.n ≡ n = ap (λ ring. ring.n) f ∙ s.0 in
    let codes : (pair_meaning triple.left).size ≡ p * q = ap (λ d. d.1) left_is in
    let fits = subst (λ ring. few_enough (pair_meaning triple.left) (residue_meaning ring) ≡ true) (sym f) (subst (λ ring. few_enough (pair_meaning ring) (residue_meaning right) ≡ true) (sym e) few) in
    λ i. (plan.Triple (a i) (b i) (d i), (paired_size (pair_meaning triple.left) (residue_meaning triple.right) fits ∙ (λ j. codes j * d j)) i))
    h
