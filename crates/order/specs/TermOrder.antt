-- What a term order means: a relation on terms of any size, with its laws.
use Rattle.std.specs.Prelude.{◌≡◌, ℕ, ◌≤◌, ◌⊎◌}
use Rattle.std.specs.declared.cmp.Ordering.TheVariants.{Less, Equal, Greater}
use Rattle.std.specs.declared.cmp.Ordering.{Ordering}
use Rattle.std.proofs.Common.{inl, inr}
use mathlib.Core.WellFounded.{Acc}
use Rattle.order.specs.Term.{Term, product}

pub record TermOrder : Type 1 where
  -- the number of this kind of order, 1 to 15
  pub kind : ℕ
  pub kind_at_least : 1 ≤ kind
  pub kind_at_most : kind ≤ 15
  -- a strict total order
  pub before : Term → Term → Type 0
  pub irreflexive : (t : Term) → before t t → ⊥
  pub transitive : (r s t : Term) → before r s → before s t → before r t
  pub trichotomy : (s t : Term) → before s t ⊎ ((s ≡ t) ⊎ before t s)
  -- multiplying both sides by one term keeps it
  pub kept_by_product : (r s t : Term) → before s t → before (product r s) (product r t)
  -- no term has an endless chain before it
  pub well_founded : (t : Term) → Acc before t

-- which of the three cases holds
abbrev pub case_of : {Before Same After : Type 0} → Before ⊎ (Same ⊎ After) → Ordering
case_of (inl h) = Less
case_of (inr (inl h)) = Equal
case_of (inr (inr h)) = Greater

-- less where s is before t, greater where t is before s
abbrev pub compared : TermOrder → Term → Term → Ordering
compared order s t = case_of (order.trichotomy s t)
