-- What `compared` answers: the case of the three that holds, and no other can.
use Rattle.std.proofs.Common.{◌≡◌, ℕ, ◌<◌, ◌⊎◌, Ordering, Less, Equal, Greater, sym, refl, subst, inl, inr, arith}
use Rattle.std.specs.Ordering.{MatchOrdering}
use Rattle.order.specs.Term.{Term}
use Rattle.order.specs.TermOrder.{TermOrder, compared, case_of}

pub compared_ranked : (order : TermOrder) (s t : Term) → MatchOrdering (compared order s t) (order.before s t) (s ≡ t) (order.before t s)
compared_ranked order s t = of (order.trichotomy s t)
  where
    of : (o : order.before s t ⊎ ((s ≡ t) ⊎ order.before t s)) → MatchOrdering (case_of o) (order.before s t) (s ≡ t) (order.before t s)
    of (inl h) = h
    of (inr (inl h)) = h
    of (inr (inr h)) = h

-- what follows in each case
pub onward : {P Q R A B C : Type 0} → (P → A) → (Q → B) → (R → C) → (r : Ordering) → MatchOrdering r P Q R → MatchOrdering r A B C
onward p q r Less h = p h
onward p q r Equal h = q h
onward p q r Greater h = r h

-- of three cases that exclude each other one holds
one_case : {P Q R : Type 0} → (P → Q → ⊥) → (P → R → ⊥) → (R → Q → ⊥) → (r o : Ordering) → MatchOrdering r P Q R → MatchOrdering o P Q R → r ≡ o
one_case pq pr rq Less Less h l = refl
one_case pq pr rq Less Equal h l = absurd (pq h l)
one_case pq pr rq Less Greater h l = absurd (pr h l)
one_case pq pr rq Equal Less h l = absurd (pq l h)
one_case pq pr rq Equal Equal h l = refl
one_case pq pr rq Equal Greater h l = absurd (rq l h)
one_case pq pr rq Greater Less h l = absurd (pr l h)
one_case pq pr rq Greater Equal h l = absurd (rq h l)
one_case pq pr rq Greater Greater h l = refl

-- there is one answer of which that holds
pub compared_is : (order : TermOrder) (s t : Term) (r : Ordering) → MatchOrdering r (order.before s t) (s ≡ t) (order.before t s) → r ≡ compared order s t
compared_is order s t r h =
    one_case (λ b e. not_same s t e b) (λ b a. order.irreflexive s (order.transitive s t s b a)) (λ a e. not_same t s (sym e) a) r (compared order s t) h (compared_ranked order s t)
  where
    not_same : (u v : Term) → u ≡ v → order.before u v → ⊥
    not_same u v e b = order.irreflexive v (subst (λ x. order.before x v) e b)

-- an answer to a comparison of two numbers that fall the way the terms do
pub compared_by_numbers : (order : TermOrder) (s t : Term) (m n : ℕ) (r : Ordering) → (order.before s t → m < n) → (s ≡ t → m ≡ n) → (order.before t s → n < m) → MatchOrdering r (m < n) (m ≡ n) (n < m) → r ≡ compared order s t
compared_by_numbers order s t m n r less same greater h =
    one_case (λ b e. omega arith) (λ b a. omega arith) (λ a e. omega arith) r (compared order s t) h (onward less same greater (compared order s t) (compared_ranked order s t))
