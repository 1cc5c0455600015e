-- The rings of a script: what they mean, and which ones there are.
use Rattle.std.specs.Prelude.{ℕ, ◌*◌, Bool, cond, ◌&&◌, Ok, Err, Result, nat_le}
use Rattle.refusal.specs.declared.Refusal.{Refusal}
use Rattle.refusal.specs.declared.Refusal.TheVariants.{RingSize}
use Rattle.ring.specs.CoefficientRing.{CoefficientRing}
use Rattle.ring.specs.declared.ring.Ring.{Ghosts}
use Rattle.residue.specs.declared.modulus.ResidueRing.{ResidueRing}
use Rattle.residue.specs.Residues.{residues}
use Rattle.pair.specs.declared.PairRing.{PairRing}
use Rattle.pair.specs.Paired.{paired}
use Rattle.either.specs.declared.Either.{Either}
use Rattle.either.specs.declared.Either.TheVariants.{Left, Right}
use Rattle.ring.specs.EitherRing.{ring_meaning}
use Rattle.ring_plan.specs.declared.RingPlan.{RingPlan}
use Rattle.ring_plan.specs.declared.RingPlan.TheVariants as plan

-- what the rings mean that a ring of a script can hold
abbrev pub residue_meaning : ResidueRing → CoefficientRing
residue_meaning ring = residues ring.n ring.lawful.0 ring.lawful.1

-- a pair of residue rings, and a pair of such a pair and a residue ring
abbrev pub ResiduePair : Ghosts ResidueRing → Type 0
ResiduePair R = PairRing ResidueRing ResidueRing R R

abbrev pub ResidueTriple : (R : Ghosts ResidueRing) → Ghosts (ResiduePair R) → Type 0
ResidueTriple R P = PairRing (ResiduePair R) ResidueRing P R

-- a ring of a script: residues, a pair of residues, or a pair whose left part is such a pair
abbrev pub AnyRing : (R : Ghosts ResidueRing) → Ghosts (ResiduePair R) → Type 0
AnyRing R P = Either ResidueRing (Either (ResiduePair R) (ResidueTriple R P))

module _ {R : Ghosts ResidueRing} where
  abbrev pub pair_meaning : ResiduePair R → CoefficientRing
  pair_meaning ring = paired (residue_meaning ring.left) (residue_meaning ring.right)

  -- the plan of a pair: the sizes of the residue rings that it is made of
  abbrev pub plan_of_pair : ResiduePair R → RingPlan
  plan_of_pair ring = plan.Pair ring.left.n ring.right.n

  -- its plan, and the number of its codes
  abbrev pub described_pair : ResiduePair R → RingPlan × ℕ
  described_pair ring = (plan_of_pair ring, (pair_meaning ring).size)

  module _ {P : Ghosts (ResiduePair R)} where
    abbrev pub triple_meaning : ResidueTriple R P → CoefficientRing
    triple_meaning ring = paired (pair_meaning ring.left) (residue_meaning ring.right)

    abbrev pub plan_of_triple : ResidueTriple R P → RingPlan
    plan_of_triple ring = plan.Triple ring.left.left.n ring.left.right.n ring.right.n

    abbrev pub described_triple : ResidueTriple R P → RingPlan × ℕ
    described_triple ring = (plan_of_triple ring, (triple_meaning ring).size)

    -- what a ring of a script means: what the ring means that it holds
    abbrev pub meaning_of : AnyRing R P → CoefficientRing
    meaning_of ring = ring_meaning residue_meaning (ring_meaning pair_meaning triple_meaning) ring

    -- the plan of a ring: the sizes of the residue rings that it is made of
    abbrev pub plan_of : AnyRing R P → RingPlan
    plan_of (Left ring) = plan.Residue ring.n
    plan_of (Right (Left ring)) = plan_of_pair ring
    plan_of (Right (Right ring)) = plan_of_triple ring

    -- a ring's plan, and the number of its codes
    abbrev pub described : AnyRing R P → RingPlan × ℕ
    described ring = (plan_of ring, (meaning_of ring).size)

-- how many codes the ring of a plan has
abbrev pub size_of : RingPlan → ℕ
size_of (plan.Residue n) = n
size_of (plan.Pair p q) = p * q
size_of (plan.Triple p q r) = p * q * r

-- whether a ring can have n codes
abbrev pub ring_size : ℕ → Bool
ring_size n = nat_le 2 n && nat_le n 65536

-- whether there is a pair of the residues of p and of q
abbrev pub pair_possible : ℕ → ℕ → Bool
pair_possible p q = ring_size p && (ring_size q && nat_le (p * q) 65536)

-- whether there is a ring of a plan: each part has 2 to 65,536 codes, and so has each pair
abbrev pub possible : RingPlan → Bool
possible (plan.Residue n) = ring_size n
possible (plan.Pair p q) = pair_possible p q
possible (plan.Triple p q r) = pair_possible p q && (ring_size r && nat_le (p * q * r) 65536)

-- what a plan gets: a ring of that plan and size, or a refusal
abbrev pub granted : RingPlan → Result (RingPlan × ℕ) Refusal
granted wanted = cond (possible wanted) (Ok (wanted, size_of wanted)) (Err RingSize)

-- what is made, seen through a function
abbrev pub seen : {A B : Type 0} → (A → B) → Result A Refusal → Result B Refusal
seen f (Ok made) = Ok (f made)
seen f (Err refusal) = Err refusal
