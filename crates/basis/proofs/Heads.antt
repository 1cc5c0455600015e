-- A polynomial that is not zero has a head, and only one.
use Rattle.std.proofs.Common.{◌≡◌, Bool, true, false, cond, ◌⊎◌, List, [], ◌∷◌, sym, refl, ap, ◌∙◌, subst, ap₂, inl, inr}
use native.Mathlib.Decide.{ℕ_discrete}
use Rattle.std.specs.List.{AllByRecursion}
use Rattle.std.proofs.ByRecursion.{All-weaker}
use Rattle.ring.specs.CoefficientRing.{CoefficientRing}
use Rattle.ring.specs.Within.{within}
use Rattle.order.specs.Term.{Term}
use Rattle.order.specs.TermOrder.{TermOrder}
use Rattle.basis.specs.Polynomial.{Monomial, Polynomial, same_term, coefficient}
use Rattle.basis.specs.Combination.{Combination}
use Rattle.basis.specs.Basis.{Head, Line, polynomials, DividedByLine, StrongBasis}
use Rattle.basis.specs.Laws.{OneHead}
use Rattle.basis.proofs.Codes.{zero_below}
use Rattle.basis.proofs.SixTerms.{same_term_decides}

module _ (ring : CoefficientRing) where
  -- what holds at each term of f holds at t, or f has no coefficient there
  pub at_terms : (Q : Term → Type 0) (f : Polynomial) → AllByRecursion (λ m. Q m.term) f → (t : Term) → Q t ⊎ (coefficient ring f t ≡ 0)
  at_terms Q [] h t = inr refl
  at_terms Q (m ∷ f) h t = which (same_term m.term t) refl (at_terms Q f h.1 t)
    where
      which : (b : Bool) → same_term m.term t ≡ b → Q t ⊎ (coefficient ring f t ≡ 0) → Q t ⊎ (coefficient ring (m ∷ f) t ≡ 0)
      which true e _ = inl (subst Q ((same_term_decides m.term t).0 e) h.0)
      which false e (inl q) = inl q
      which false e (inr z) = inr (ap₂ ring.sum (ap (λ b. cond b (within ring.size m.coefficient m.coefficient 0) 0) e) z ∙ ring.sum_with_zero 0 (zero_below ring))

  module _ (order : TermOrder) (f : Polynomial) where
    -- f has no coefficient at x if x is after top
    abbrev NoneAfter : Term → Term → Type 0
    NoneAfter top x = order.before top x → coefficient ring f x ≡ 0

    -- a term of f, after which none of some monomials counts
    abbrev Top : List Monomial → Type 0
    Top ms = (top : Term) × (coefficient ring f top ≡ 0 → ⊥) × AllByRecursion (λ m. NoneAfter top m.term) ms

    higher : (ms : List Monomial) (c : Top ms) (t : Term) → order.before c.0 t → AllByRecursion (λ m. NoneAfter t m.term) ms
    higher ms c t l = All-weaker (λ m. NoneAfter c.0 m.term) (λ m. NoneAfter t m.term) (λ m n a. n (order.transitive c.0 t m.term l a)) ms c.2

    top_of : (t : Term) → (coefficient ring f t ≡ 0 → ⊥) → (ms : List Monomial) → Top ms
    top_of t nz [] = (t, nz, tt)
    top_of t nz (m ∷ ms) = one_more (top_of t nz ms) (ℕ_discrete (coefficient ring f m.term) 0)
      where
        one_more : Top ms → Dec (coefficient ring f m.term ≡ 0) → Top (m ∷ ms)
        one_more c (yes z) = (c.0, c.1, ((λ _. z), c.2))
        one_more c (no n) = which (order.trichotomy c.0 m.term)
          where
            which : order.before c.0 m.term ⊎ ((c.0 ≡ m.term) ⊎ order.before m.term c.0) → Top (m ∷ ms)
            which (inl l) = (m.term, n, ((λ a. absurd (order.irreflexive m.term a)), higher ms c m.term l))
            which (inr (inl e)) = (c.0, c.1, ((λ a. absurd (order.irreflexive m.term (subst (λ z. order.before z m.term) e a))), c.2))
            which (inr (inr l)) = (c.0, c.1, ((λ a. absurd (order.irreflexive c.0 (order.transitive c.0 m.term c.0 a l))), c.2))

    pub head_exists : (t : Term) → (coefficient ring f t ≡ 0 → ⊥) → (m : Monomial) × Head ring order f m
    head_exists t nz =
        let c = top_of t nz f in (
          record { coefficient = coefficient ring f c.0; term = c.0 },
          record { there = refl; not_zero = c.1; none_after = λ x l. which x l (at_terms (NoneAfter c.0) f c.2 x) },
        )
      where
        which : {top : Term} (x : Term) → order.before top x → NoneAfter top x ⊎ (coefficient ring f x ≡ 0) → coefficient ring f x ≡ 0
        which x l (inl n) = n l
        which x l (inr z) = z

    pub head_unique : (m n : Monomial) → Head ring order f m → Head ring order f n → m ≡ n
    head_unique m n h k = which (order.trichotomy m.term n.term)
      where
        alike : m.term ≡ n.term → m.coefficient ≡ n.coefficient → m ≡ n
        alike p q i = record { coefficient = q i; term = p i }

        which : order.before m.term n.term ⊎ ((m.term ≡ n.term) ⊎ order.before n.term m.term) → m ≡ n
        which (inl l) = absurd (k.not_zero (sym k.there ∙ h.none_after n.term l))
        which (inr (inl e)) = alike e (sym h.there ∙ ap (coefficient ring f) e ∙ k.there)
        which (inr (inr l)) = absurd (h.not_zero (sym h.there ∙ k.none_after m.term l))

  -- for a strong basis, some line's head divides the head of each combination
  pub divided_at_head : (order : TermOrder) (lines : List Line) → StrongBasis ring order lines → (f : Polynomial) → Combination ring (polynomials lines) f → (m : Monomial) → Head ring order f m → DividedByLine ring lines m
  divided_at_head order lines basis f c m h =
      let w = basis f c m.term (λ z. h.not_zero (sym h.there ∙ z)) in
      subst (DividedByLine ring lines) (head_unique order f w.head m w.is_head h) w.divided

  pub one_head : (order : TermOrder) → OneHead ring order
  one_head order = record { exists = head_exists order; unique = head_unique order }
