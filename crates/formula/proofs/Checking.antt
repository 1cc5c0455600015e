-- The checks: one step and the end of each, and that they tell formulas.
use Rattle.std.proofs.Common.{◌≡◌, ℕ, zero, suc, add-one, ◌+◌, ◌<◌, ◌≤◌, Bool, true, false, ◌&&◌, ltb, leb, ◌↔◌, List, [], ◌∷◌, length, get_or, Ok, Decides, Result, Ordering, Less, Equal, Greater, sym, refl, ap, arith}
use Rattle.std.proofs.ByRecursion.{All-weaker, Decides-by_and}
use Rattle.std.proofs.lemmas.Bool.{and_from, and_left, and_right, leb-true, le-leb}
use Rattle.std.proofs.lemmas.Bool.Decides.{Decides-and, Decides-like, Decides-ltb}
use Rattle.std.specs.Ordering.{MatchOrdering, is_lt}
use Rattle.std.specs.List.{AllByRecursion, IsAllAdjacentAnswer, list_all}
use Rattle.refusal.specs.declared.Refusal.{Refusal}
use Rattle.refusal.specs.declared.Refusal.TheVariants.{TooManyMonomials, CoefficientOutOfRange, TermsNotFalling}
use Rattle.ring.specs.CoefficientRing.{CoefficientRing}
use Rattle.order.specs.Term.{Term}
use Rattle.order.specs.TermOrder.{TermOrder, compared}
use Rattle.order.proofs.Compared.{compared_ranked, compared_is}
use Rattle.term.specs.declared.monomial.Monomial.{Monomial}
use Rattle.formula.specs.Formula.{Coefficient, Falling, Formula, blank, checked, code, coded, falling, falling_after, is_before, is_coefficient, max_monomials, provided, term}

pub coded_is_all : (ring : CoefficientRing) (f : List Monomial) → coded ring f ≡ list_all (λ m. is_coefficient ring (code m)) f
coded_is_all ring [] = refl
coded_is_all ring (m ∷ f) = ap (λ b. is_coefficient ring (code m) && b) (coded_is_all ring f)

all_fall : (order : TermOrder) (f : List Monomial) → ((k : ℕ) → k + 1 < length f → is_before order (get_or f (k + 1) blank) (get_or f k blank) ≡ true) → falling order f ≡ true
all_fall order [] h = refl
all_fall order (m ∷ []) h = refl
all_fall order (m ∷ n ∷ f) h = and_from (is_before order n m) (falling_after order n f) (h 0 (omega arith)) (all_fall order (n ∷ f) (λ k l. rw add-one (simp add-one at (h (suc k) (omega (arith, l))))))

one_rises : (order : TermOrder) (f : List Monomial) (k : ℕ) → k + 1 < length f → is_before order (get_or f (k + 1) blank) (get_or f k blank) ≡ false → falling order f ≡ false
one_rises order [] k l e = absurd (omega arith)
one_rises order (m ∷ []) k l e = absurd (omega arith)
one_rises order (m ∷ n ∷ f) zero l e = and_left (is_before order n m) (falling_after order n f) e
one_rises order (m ∷ n ∷ f) (suc k) l e = and_right (is_before order n m) (falling_after order n f) (one_rises order (n ∷ f) k (omega (arith, l)) (rw add-one (simp add-one at e)))

-- the test of each two neighbours tells whether a list falls
pub falling_by_neighbours : (order : TermOrder) (f : List Monomial) (r : Bool) → IsAllAdjacentAnswer (λ m n b. b ≡ is_before order n m) f r → r ≡ falling order f
falling_by_neighbours order f true h = sym (all_fall order f (λ k l. sym (h k blank l)))
falling_by_neighbours order f false h = sym (one_rises order f h.0 h.1 (sym (h.2 blank)))

pub decides_coded : (ring : CoefficientRing) (f : List Monomial) → Decides (coded ring f) (AllByRecursion (λ m. Coefficient ring (code m)) f)
decides_coded ring f = Decides-by_and (λ m. is_coefficient ring (code m)) (λ m. Coefficient ring (code m)) (coded ring) (λ m. Decides-and (ltb 0 (code m)) (ltb (code m) ring.size) (Decides-ltb 0 (code m)) (Decides-ltb (code m) ring.size)) refl (λ _ _. refl) f

decides_before : (order : TermOrder) (m n : Monomial) → Decides (is_before order m n) (order.before (term m) (term n))
decides_before order m n = (of (compared order (term m) (term n)) (compared_ranked order (term m) (term n)), λ h. ap is_lt (sym (compared_is order (term m) (term n) Less h)))
  where
    of : (o : Ordering) → MatchOrdering o (order.before (term m) (term n)) (term m ≡ term n) (order.before (term n) (term m)) → is_lt o ≡ true → order.before (term m) (term n)
    of Less h e = h
    of Equal h e = let z : ◌≡◌ {A = ℕ} 0 1 = cc in absurd (omega arith)
    of Greater h e = let z : ◌≡◌ {A = ℕ} 0 1 = cc in absurd (omega arith)

-- terms before one term are before every later one
pub all_before : (order : TermOrder) (s t : Term) (f : List Monomial) → order.before s t → AllByRecursion (λ k. order.before (term k) s) f → AllByRecursion (λ k. order.before (term k) t) f
all_before order s t f h = All-weaker (λ k. order.before (term k) s) (λ k. order.before (term k) t) (λ k l. order.transitive (term k) s t l h) f

decides_falling : (order : TermOrder) (m : Monomial) (f : List Monomial) → Decides (falling_after order m f) (Falling order (m ∷ f))
decides_falling order m [] = ((λ _. (tt, tt)), λ _. refl)
decides_falling order m (n ∷ f) =
    Decides-like (falling_after order m (n ∷ f))
    (λ h. ((h.0, all_before order (term n) (term m) f h.0 h.1.0), h.1))
    (λ h. (h.0.0, h.1))
    (Decides-and (is_before order n m) (falling_after order n f) (decides_before order n m) (decides_falling order n f))

pub falling_decided : (order : TermOrder) (f : List Monomial) → Decides (falling order f) (Falling order f)
falling_decided order [] = ((λ _. tt), λ _. refl)
falling_decided order (m ∷ f) = decides_falling order m f

-- a test that is provided holds where the result is granted, and what comes after is granted too
granted_when : {P Q : Type 0} (test : Bool) (refusal : Refusal) (next : Result (Unit {0}) Refusal) → Decides test P → (next ≡ Ok tt) ↔ Q → (provided test refusal next ≡ Ok tt) ↔ (P × Q)
granted_when true refusal next d q = ((λ h. (d.0 refl, q.0 h)), λ h. q.1 h.1)
granted_when false refusal next d q = ((λ h. let z : ◌≡◌ {A = ℕ} 0 1 = cc in absurd (omega arith)), λ h. let e = d.1 h.0 in let z : ◌≡◌ {A = ℕ} 0 1 = cc in absurd (omega arith))

pub checked_exactly_formulas : (ring : CoefficientRing) (order : TermOrder) (f : List Monomial) → (checked ring order f ≡ Ok tt) ↔ Formula ring order f
checked_exactly_formulas ring order f = ((λ h. let p = parts.0 h in record { not_long = p.0; coefficients = p.1.0; falling_terms = p.1.1.0 }), λ h. parts.1 (h.not_long, (h.coefficients, (h.falling_terms, tt))))
  where
    parts : (checked ring order f ≡ Ok tt) ↔ ((length f ≤ max_monomials) × (AllByRecursion (λ m. Coefficient ring (code m)) f × (Falling order f × Unit {0})))
    parts =
        granted_when (leb (length f) max_monomials) TooManyMonomials _ (leb-true (length f) max_monomials, le-leb (length f) max_monomials)
        (granted_when (coded ring f) CoefficientOutOfRange _ (decides_coded ring f)
        (granted_when (falling order f) TermsNotFalling (Ok tt) (falling_decided order f) ((λ _. tt), λ _. refl)))
