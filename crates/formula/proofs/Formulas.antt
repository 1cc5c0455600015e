-- A sum of formulas that is not too long is a formula.
use Rattle.std.proofs.Common.{◌≡◌, ◌^◌, ◌<◌, true, List, [], ◌∷◌, ◌++◌, Ordering, Less, Equal, Greater, sym, subst}
use Rattle.std.proofs.lemmas.Bool.{and_parts}
use Rattle.std.specs.Ordering.{MatchOrdering}
use Rattle.std.specs.List.{AllByRecursion}
use Rattle.ring.specs.CoefficientRing.{CoefficientRing}
use Rattle.order.specs.Term.{Term, product}
use Rattle.order.specs.TermOrder.{TermOrder, compared}
use Rattle.order.proofs.Compared.{compared_ranked}
use Rattle.term.specs.Packed.{fits}
use Rattle.term.specs.declared.monomial.Monomial.{Monomial}
use Rattle.formula.specs.Formula.{Coefficient, Falling, code, term}
use Rattle.formula.specs.Polynomial.{Packed}
use Rattle.formula.specs.Sum.{kept, merged, multiplied, nonzero, picked, plus, products_fit, times}
use Rattle.formula.proofs.Additions.{Codes}
use Rattle.formula.proofs.Checking.{all_before}
use Rattle.formula.proofs.Parts.{all_kept, code_plus, code_times, kept_cases, plus_packed, term_plus, term_times, times_packed}

module _ (ring : CoefficientRing) (order : TermOrder) where
  -- Q of the monomials of two lists gives P of those in the merged list
  module _ (Q P : Monomial → Type 0) (keeps : (m : Monomial) → Q m → 0 < code m → P m) (sums : (m n : Monomial) → Q m → 0 < code (plus ring m n) → P (plus ring m n)) where
    all_nonzero : (f : List Monomial) → AllByRecursion Q f → AllByRecursion P (nonzero f)
    all_nonzero [] h = tt
    all_nonzero (m ∷ f) h = all_kept P m (nonzero f) (keeps m h.0) (all_nonzero f h.1)

    all_merged : (f g : List Monomial) → AllByRecursion Q f → AllByRecursion Q g → AllByRecursion P (merged ring order f g)
    all_merged [] g hf hg = all_nonzero g hg
    all_merged (m ∷ f) [] hf hg = all_nonzero (m ∷ f) hf
    all_merged (m ∷ f) (n ∷ g) hf hg =
        by (compared order (term m) (term n)) _ _ _ (all_merged (m ∷ f) g hf hg.1) (all_merged f g hf.1 hg.1) (all_merged f (n ∷ g) hf.1 hg)
      where
        by : (o : Ordering) (past_n past_both past_m : List Monomial) → AllByRecursion P past_n → AllByRecursion P past_both → AllByRecursion P past_m → AllByRecursion P (picked o ring m n past_n past_both past_m)
        by Less past_n past_both past_m p q r = all_kept P n past_n (keeps n hg.0) p
        by Equal past_n past_both past_m p q r = all_kept P (plus ring m n) past_both (sums m n hf.0) q
        by Greater past_n past_both past_m p q r = all_kept P m past_m (keeps m hf.0) r

  pub coefficients_merged : (f g : List Monomial) → Codes ring f → Codes ring g → AllByRecursion (λ m. Coefficient ring (code m)) (merged ring order f g)
  coefficients_merged = all_merged (λ m. code m < ring.size) (λ m. Coefficient ring (code m)) (λ m h l. (l, h)) (λ m n h l. (l, subst (λ c. c < ring.size) (sym (code_plus ring m n)) (ring.sum_below (code m) (code n))))

  pub packed_merged : (f g : List Monomial) → Packed f → Packed g → Packed (merged ring order f g)
  packed_merged = all_merged (λ m. m.bits < 2 ^ 64) (λ m. m.bits < 2 ^ 64) (λ m h _. h) (λ m n _ _. plus_packed ring m n)

  -- the terms of a list are before t
  abbrev Under : Term → List Monomial → Type 0
  Under t f = AllByRecursion (λ m. order.before (term m) t) f

  under_nonzero : (t : Term) (f : List Monomial) → Under t f → Under t (nonzero f)
  under_nonzero t = all_nonzero (λ m. order.before (term m) t) (λ m. order.before (term m) t) (λ m h _. h) (λ m n h _. subst (λ x. order.before x t) (sym (term_plus ring m n)) h)

  under_merged : (t : Term) (f g : List Monomial) → Under t f → Under t g → Under t (merged ring order f g)
  under_merged t = all_merged (λ m. order.before (term m) t) (λ m. order.before (term m) t) (λ m h _. h) (λ m n h _. subst (λ x. order.before x t) (sym (term_plus ring m n)) h)

  falling_kept : (m : Monomial) (h : List Monomial) → Under (term m) h → Falling order h → Falling order (kept m ++ h)
  falling_kept m h u l = kept_cases (λ k. Falling order (k ++ h)) m (λ _. l) (λ _. (u, l))

  falling_nonzero : (f : List Monomial) → Falling order f → Falling order (nonzero f)
  falling_nonzero [] h = tt
  falling_nonzero (m ∷ f) h = falling_kept m (nonzero f) (under_nonzero (term m) f h.0) (falling_nonzero f h.1)

  pub falling_merged : (f g : List Monomial) → Falling order f → Falling order g → Falling order (merged ring order f g)
  falling_merged [] g hf hg = falling_nonzero g hg
  falling_merged (m ∷ f) [] hf hg = falling_nonzero (m ∷ f) hf
  falling_merged (m ∷ f) (n ∷ g) hf hg =
      by (compared order (term m) (term n)) (compared_ranked order (term m) (term n)) (falling_merged (m ∷ f) g hf hg.1) (falling_merged f g hf.1 hg.1) (falling_merged f (n ∷ g) hf.1 hg)
    where
      by : (o : Ordering) → MatchOrdering o (order.before (term m) (term n)) (term m ≡ term n) (order.before (term n) (term m))
          → Falling order (merged ring order (m ∷ f) g) → Falling order (merged ring order f g) → Falling order (merged ring order f (n ∷ g))
          → Falling order (picked o ring m n (merged ring order (m ∷ f) g) (merged ring order f g) (merged ring order f (n ∷ g)))
      by Less h p q r = falling_kept n (merged ring order (m ∷ f) g) (under_merged (term n) (m ∷ f) g (h, all_before order (term m) (term n) f h hf.0) hg.0) p
      by Equal h p q r =
          falling_kept (plus ring m n) (merged ring order f g)
          (subst (λ t. Under t (merged ring order f g)) (sym (term_plus ring m n)) (under_merged (term m) f g hf.0 (subst (λ t. Under t g) (sym h) hg.0))) q
      by Greater h p q r = falling_kept m (merged ring order f (n ∷ g)) (under_merged (term m) f (n ∷ g) hf.0 (h, all_before order (term n) (term m) g h hg.0)) r

  module _ (s : Monomial) where
    under_multiplied : (m : Monomial) (f : List Monomial) → fits (product (term s) (term m)) ≡ true → products_fit s f ≡ true → Under (term m) f → Under (term (times ring s m)) (multiplied ring s f)
    under_multiplied m [] h e u = tt
    under_multiplied m (n ∷ f) h e u =
        let p = and_parts (fits (product (term s) (term n))) (products_fit s f) e in
        (subst (λ x. order.before x (term (times ring s m))) (sym (term_times ring s n p.0)) (subst (λ x. order.before (product (term s) (term n)) x) (sym (term_times ring s m h)) (order.kept_by_product (term s) (term n) (term m) u.0)), under_multiplied m f h p.1 u.1)

    pub falling_multiplied : (f : List Monomial) → products_fit s f ≡ true → Falling order f → Falling order (multiplied ring s f)
    falling_multiplied [] e l = tt
    falling_multiplied (m ∷ f) e l =
        let p = and_parts (fits (product (term s) (term m))) (products_fit s f) e in
        (under_multiplied m f p.0 p.1 l.0, falling_multiplied f p.1 l.1)

    pub codes_multiplied : (f : List Monomial) → Codes ring (multiplied ring s f)
    codes_multiplied [] = tt
    codes_multiplied (m ∷ f) = (subst (λ c. c < ring.size) (sym (code_times ring s m)) (ring.product_below (code s) (code m)), codes_multiplied f)

    pub packed_multiplied : (f : List Monomial) → products_fit s f ≡ true → Packed (multiplied ring s f)
    packed_multiplied [] e = tt
    packed_multiplied (m ∷ f) e =
        let p = and_parts (fits (product (term s) (term m))) (products_fit s f) e in
        (times_packed ring s m p.0, packed_multiplied f p.1)
