-- Reducing a formula by lines: the search for a line, and steps added while one is found.
use Rattle.std.specs.Prelude.{◌≡◌, ℕ, zero, suc, cond, List, [], ◌∷◌, Some, None, Ok, Err, Option, Result, ◌==◌, slice_index_or}
use Rattle.std.specs.Option.{option_map, option_or}
use Rattle.refusal.specs.declared.Refusal.{Refusal}
use Rattle.refusal.specs.declared.Refusal.TheVariants.{AllowanceUsed}
use Rattle.ring.specs.CoefficientRing.{CoefficientRing}
use Rattle.ring.specs.Derived.{difference}
use Rattle.order.specs.Term.{Term, divides, quotient}
use Rattle.order.specs.TermOrder.{TermOrder}
use Rattle.term.specs.Packed.{monomial}
use Rattle.term.specs.declared.monomial.Monomial.{Monomial}
use Rattle.term.specs.declared.monomial.Step.{Step}
use Rattle.formula.specs.Formula.{code, term}
use Rattle.formula.specs.Sum.{added}

-- go on with the value of a granted result
abbrev pub then : {X Y : Type 0} → Result X Refusal → (X → Result Y Refusal) → Result Y Refusal
then (Ok x) next = next x
then (Err refusal) next = Err refusal

-- a formula that is left, and the steps that were added on the way to it
pub record Reduction : Type 0 where
  pub formula : List Monomial
  pub steps : List Step

-- the number of a line beside the factor that was found for it
abbrev pub named : ℕ → Option Monomial → Option Step → Option Step
named k (Some factor) rest = Some (record { factor = factor; line = k })
named k None rest = rest

-- the step of the lowest line, numbered from k, that passes a test
abbrev pub lowest : (test : List Monomial → Option Monomial) → ℕ → List (List Monomial) → Option Step
lowest test k [] = None
lowest test k (f ∷ F) = let rest = lowest test (suc k) F in named k (test f) rest

-- a reduction that adds nothing
abbrev pub unreduced : List Monomial → Reduction
unreduced f = record { formula = f; steps = [] }

-- a reduction with one step before it
abbrev pub after_step : Step → Reduction → Reduction
after_step s r = record { formula = r.formula; steps = s ∷ r.steps }

-- go on with a step that was chosen; a formula for which none is chosen is left
abbrev pub if_chosen : Option Step → List Monomial → (Step → Result Reduction Refusal) → Result Reduction Refusal
if_chosen None f next = Ok (unreduced f)
if_chosen (Some s) f next = next s

module _ (ring : CoefficientRing) where
  -- the factor by which a line takes c·t away: −q at the quotient of t by its head term, q the quotient of c by its head
  -- coefficient; none where the head term does not divide t or there is no quotient
  abbrev pub fitting : (over : ℕ → ℕ → Option ℕ) → (c : ℕ) → (t : Term) → List Monomial → Option Monomial
  fitting over c t [] = None
  fitting over c t (m ∷ f) = cond (divides (term m) t) (option_map (λ q. monomial (quotient t (term m)) (ring.negative q)) (over c (code m))) None

  -- the quotient by r of what c has above its residue by r; none where c is its own residue
  abbrev pub excess : ℕ → ℕ → Option ℕ
  excess c r = cond (ring.residue c r == c) None (ring.quotient (difference ring c (ring.residue c r)) r)

  -- the step by which the lowest line takes away c·t
  abbrev pub covering : List (List Monomial) → (c : ℕ) → (t : Term) → Option Step
  covering F c t = lowest (fitting ring.quotient c t) 0 F

  -- the step by which the lowest line lowers c·t to c's residue
  abbrev pub lowering : List (List Monomial) → (c : ℕ) → (t : Term) → Option Step
  lowering F c t = lowest (fitting excess c t) 0 F

  -- the step that takes away the head
  abbrev pub at_head : List (List Monomial) → List Monomial → Option Step
  at_head F [] = None
  at_head F (m ∷ f) = covering F (code m) (term m)

  -- the step that lowers the greatest monomial that can be lowered
  abbrev pub at_greatest : List (List Monomial) → List Monomial → Option Step
  at_greatest F [] = None
  at_greatest F (m ∷ f) = let rest = at_greatest F f in option_or (lowering F (code m) (term m)) rest

  module _ (order : TermOrder) (F : List (List Monomial)) where
    -- a formula plus a step
    abbrev pub stepped : List Monomial → Step → Result (List Monomial) Refusal
    stepped f s = added ring order f s.factor (slice_index_or F s.line [])

    -- a formula plus steps, one at a time
    abbrev pub summed : List Monomial → List Step → Result (List Monomial) Refusal
    summed f [] = Ok f
    summed f (s ∷ steps) = then (stepped f s) (λ g. summed g steps)

    -- steps chosen and added until none is chosen, at most n of them; refused before one more
    abbrev pub reduced : (choose : List Monomial → Option Step) → ℕ → List Monomial → Result Reduction Refusal
    reduced choose zero f = if_chosen (choose f) f (λ s. Err AllowanceUsed)
    reduced choose (suc n) f = if_chosen (choose f) f (λ s. then (stepped f s) (λ g. then (reduced choose n g) (λ r. Ok (after_step s r))))

    -- f comes to g by steps: each is the one that is chosen, and at g none is
    abbrev pub ReducesTo : (choose : List Monomial → Option Step) → (f : List Monomial) → List Step → (g : List Monomial) → Type 0
    ReducesTo choose f [] g = (choose f ≡ None) × (f ≡ g)
    ReducesTo choose f (s ∷ steps) g = (h : List Monomial) × (choose f ≡ Some s) × (stepped f s ≡ Ok h) × ReducesTo choose h steps g
