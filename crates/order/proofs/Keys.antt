-- Relations by keys are strict orders, kept by products and well-founded, and total up to terms with the same keys.
use Rattle.std.proofs.Common.{◌≡◌, ℕ, zero, suc, ◌+◌, ◌<◌, ◌≤◌, Bool, true, false, ltb, ◌⊎◌, List, [], ◌∷◌, refl, ◌∙◌, inl, inr, arith}
use mathlib.Core.WellFounded.Acc
use mathlib.Core.WellFounded.{Acc}
use Rattle.std.proofs.lemmas.Bool.{ltb-true, ltb-false}
use Rattle.order.specs.Term.{Term, product}
use Rattle.order.specs.TermOrder.{TermOrder}
use Rattle.order.specs.Keys.{KeyFirst, ByKeys}

-- a strict order, kept by products and well-founded, that is total but for tied terms
pub record Lawful (Before Tied : Term → Term → Type 0) : Type 0 where
  pub irreflexive : (t : Term) → Before t t → ⊥
  pub transitive : (r s t : Term) → Before r s → Before s t → Before r t
  pub trichotomy : (s t : Term) → Before s t ⊎ (Tied s t ⊎ Before t s)
  pub kept_by_product : (r s t : Term) → Before s t → Before (product r s) (product r t)
  pub well_founded : (t : Term) → Acc Before t

-- a key that adds up over a product
abbrev pub Additive : (Term → ℕ) → Type 0
Additive key = (s t : Term) → key (product s t) ≡ key s + key t

-- numbers compared, in a form that computes
abbrev by_tests : (m n : ℕ) (p : Bool) → ltb m n ≡ p → (q : Bool) → ltb n m ≡ q → (m < n) ⊎ ((m ≡ n) ⊎ (n < m))
by_tests m n true h q l = inl (ltb-true m n h)
by_tests m n false h true l = inr (inr (ltb-true n m l))
by_tests m n false h false l = inr (inl (omega (arith, ltb-false m n h, ltb-false n m l)))

abbrev numbers : (m n : ℕ) → (m < n) ⊎ ((m ≡ n) ⊎ (n < m))
numbers m n = by_tests m n (ltb m n) refl (ltb n m) refl

module _ (key : Term → ℕ) (additive : Additive key) {Before Tied : Term → Term → Type 0} (rest : Lawful Before Tied) where
  pub first_irreflexive : (t : Term) → KeyFirst key Before t t → ⊥
  first_irreflexive t (inl h) = omega arith
  first_irreflexive t (inr h) = rest.irreflexive t h.1

  pub first_transitive : (r s t : Term) → KeyFirst key Before r s → KeyFirst key Before s t → KeyFirst key Before r t
  first_transitive r s t (inl h) (inl l) = inl (omega arith)
  first_transitive r s t (inl h) (inr l) = inl (omega arith)
  first_transitive r s t (inr h) (inl l) = inl (omega arith)
  first_transitive r s t (inr h) (inr l) = inr (h.0 ∙ l.0, rest.transitive r s t h.1 l.1)

  abbrev first_of_tied : (s t : Term) → key s ≡ key t → key t ≡ key s → Before s t ⊎ (Tied s t ⊎ Before t s) → KeyFirst key Before s t ⊎ (((key s ≡ key t) × Tied s t) ⊎ KeyFirst key Before t s)
  first_of_tied s t e e' (inl h) = inl (inr (e, h))
  first_of_tied s t e e' (inr (inl h)) = inr (inl (e, h))
  first_of_tied s t e e' (inr (inr h)) = inr (inr (inr (e', h)))

  abbrev first_of : (s t : Term) → (key s < key t) ⊎ ((key s ≡ key t) ⊎ (key t < key s)) → KeyFirst key Before s t ⊎ (((key s ≡ key t) × Tied s t) ⊎ KeyFirst key Before t s)
  first_of s t (inl h) = inl (inl h)
  first_of s t (inr (inl e)) = first_of_tied s t e (omega arith) (rest.trichotomy s t)
  first_of s t (inr (inr h)) = inr (inr (inl h))

  pub first_kept : (r s t : Term) → KeyFirst key Before s t → KeyFirst key Before (product r s) (product r t)
  first_kept r s t (inl h) = inl (omega (arith, additive r s, additive r t))
  first_kept r s t (inr h) = inr (omega (arith, additive r s, additive r t), rest.kept_by_product r s t h.1)

  -- below a bound on the key: the keys below by induction, a tie by the other relation
  pub first_below : (n : ℕ) (t : Term) → key t < n → Acc (KeyFirst key Before) t
  first_below zero t h = absurd (omega arith)
  first_below (suc n) t h = Acc.ndrec {C = λ t. key t ≤ n → Acc (KeyFirst key Before) t} (λ t _ ih l. Acc.intro t (step (first_below n) t ih l)) (rest.well_founded t) (omega arith)
    where
      step : ((s : Term) → key s < n → Acc (KeyFirst key Before) s) → (t : Term) → ((s : Term) → Before s t → key s ≤ n → Acc (KeyFirst key Before) s) → key t ≤ n → (s : Term) → KeyFirst key Before s t → Acc (KeyFirst key Before) s
      step smaller t ih l s (inl h) = smaller s (omega arith)
      step smaller t ih l s (inr h) = ih s h.1 (omega arith)

  -- a key before a lawful relation
  abbrev pub key_first : Lawful (KeyFirst key Before) (λ s t. (key s ≡ key t) × Tied s t)
  key_first = record {
    irreflexive = first_irreflexive;
    transitive = first_transitive;
    trichotomy = λ s t. first_of s t (numbers (key s) (key t));
    kept_by_product = first_kept;
    well_founded = λ t. first_below (suc (key t)) t (omega arith);
  }

-- of each key of a list
abbrev pub Each : ((Term → ℕ) → Type 0) → List (Term → ℕ) → Type 0
Each P [] = Unit {0}
Each P (key ∷ keys) = P key × Each P keys

-- no key at all: nothing is before anything
abbrev no_key : Lawful (ByKeys []) (λ s t. Unit {0})
no_key = record { irreflexive = λ t h. h; transitive = λ r s t h l. h; trichotomy = λ s t. inr (inl tt); kept_by_product = λ r s t h. h; well_founded = λ t. Acc.intro t (λ s h. absurd h) }

-- a list of keys that add up
abbrev pub by_keys : (keys : List (Term → ℕ)) → Each Additive keys → Lawful (ByKeys keys) (λ s t. Each (λ key. key s ≡ key t) keys)
by_keys [] additive = no_key
by_keys (key ∷ keys) additive = key_first key additive.0 (by_keys keys additive.1)

-- an order as a lawful relation, and back
abbrev pub lawful : (order : TermOrder) → Lawful order.before (λ s t. s ≡ t)
lawful order = record { irreflexive = order.irreflexive; transitive = order.transitive; trichotomy = order.trichotomy; kept_by_product = order.kept_by_product; well_founded = order.well_founded }

abbrev total : {Below Tied Same Above : Type 0} → (Tied → Same) → Below ⊎ (Tied ⊎ Above) → Below ⊎ (Same ⊎ Above)
total same (inl h) = inl h
total same (inr (inl h)) = inr (inl (same h))
total same (inr (inr h)) = inr (inr h)

abbrev pub order_of : (kind : ℕ) → 1 ≤ kind → kind ≤ 15 → (Before : Term → Term → Type 0) → {Tied : Term → Term → Type 0} → Lawful Before Tied → ((s t : Term) → Tied s t → s ≡ t) → TermOrder
order_of kind low high Before laws same = record {
  kind = kind;
  kind_at_least = low;
  kind_at_most = high;
  before = Before;
  irreflexive = laws.irreflexive;
  transitive = laws.transitive;
  trichotomy = λ s t. total (same s t) (laws.trichotomy s t);
  kept_by_product = laws.kept_by_product;
  well_founded = laws.well_founded;
}
