-- The search for a line: what it finds, what it means that none is found, and that more lines change nothing found.
use Rattle.std.proofs.Common.{◌≡◌, ℕ, suc, ◌+◌, ◌-◌, ◌<◌, ◌≤◌, Bool, true, false, cond, List, [], ◌∷◌, ◌++◌, length, get_or, Some, None, Option, sym, refl, ap, ◌∙◌, arith}
use Rattle.std.specs.Option.{option_map}
use Rattle.std.specs.List.{AllByRecursion}
use Rattle.std.proofs.lemmas.Bool.{cond-true}
use Rattle.ring.specs.CoefficientRing.{CoefficientRing}
use Rattle.order.specs.Term.{Divides, Term, divides, product, quotient}
use Rattle.order.proofs.Terms.{division_laws, product_laws}
use Rattle.term.specs.Packed.{Fits, monomial}
use Rattle.term.specs.declared.monomial.Monomial.{Monomial}
use Rattle.term.specs.declared.monomial.Step.{Step}
use Rattle.formula.specs.Formula.{code, term}
use Rattle.model.specs.Reduction.{fitting, lowest, named}
use Rattle.model.proofs.Outcomes.{none_some, some_some}
use Rattle.model.proofs.Packings.{code_of_monomial, quotient_fits, term_of_monomial}

-- what a found step is
pub record Found (test : List Monomial → Option Monomial) (k : ℕ) (F : List (List Monomial)) (s : Step) : Type 0 where
  pub from : k ≤ s.line
  pub inside : s.line - k < length F
  pub passed : test (get_or F (s.line - k) []) ≡ Some s.factor

pub found : (test : List Monomial → Option Monomial) (k : ℕ) (F : List (List Monomial)) (s : Step) → lowest test k F ≡ Some s → Found test k F s
found test k [] s h = none_some h
found test k (f ∷ F) s h = by (test f) refl h (found test (suc k) F s)
  where
    by : (o : Option Monomial) → test f ≡ o → named k o (lowest test (suc k) F) ≡ Some s → (lowest test (suc k) F ≡ Some s → Found test (suc k) F s) → Found test k (f ∷ F) s
    by (Some m) e h later =
        let q : k ≡ s.line = ap (λ z. z.line) (some_some h) in
        let z : s.line - k ≡ 0 = omega arith in
        record {
          from = omega arith;
          inside = omega arith;
          passed = ap (λ j. test (get_or (f ∷ F) j [])) z ∙ e ∙ ap (λ z. Some z.factor) (some_some h);
        }
    by None e h later =
        let w = later h in
        let z : s.line - k ≡ suc (s.line - suc k) = (let a = w.from in omega arith) in
        record {
          from = (let a = w.from in omega arith);
          inside = (let a = w.from in let b = w.inside in omega arith);
          passed = ap (λ j. test (get_or (f ∷ F) j [])) z ∙ w.passed;
        }

pub none_found : (test : List Monomial → Option Monomial) (k : ℕ) (F : List (List Monomial)) → lowest test k F ≡ None → AllByRecursion (λ f. test f ≡ None) F
none_found test k [] h = tt
none_found test k (f ∷ F) h = by (test f) refl h (none_found test (suc k) F)
  where
    by : (o : Option Monomial) → test f ≡ o → named k o (lowest test (suc k) F) ≡ None → (lowest test (suc k) F ≡ None → AllByRecursion (λ f. test f ≡ None) F) → (test f ≡ None) × AllByRecursion (λ f. test f ≡ None) F
    by (Some m) e h later = none_some (sym h)
    by None e h later = (e, later h)

pub found_more : (test : List Monomial → Option Monomial) (k : ℕ) (F more : List (List Monomial)) (s : Step) → lowest test k F ≡ Some s → lowest test k (F ++ more) ≡ Some s
found_more test k [] more s h = none_some h
found_more test k (f ∷ F) more s h = by (test f) h (found_more test (suc k) F more s)
  where
    by : (o : Option Monomial) → named k o (lowest test (suc k) F) ≡ Some s → (lowest test (suc k) F ≡ Some s → lowest test (suc k) (F ++ more) ≡ Some s) → named k o (lowest test (suc k) (F ++ more)) ≡ Some s
    by (Some m) h later = h
    by None h later = later h

-- where none is found among the first, one more that passes is found
pub found_last : (test : List Monomial → Option Monomial) (k : ℕ) (F : List (List Monomial)) (f : List Monomial) (m : Monomial) → lowest test k F ≡ None → test f ≡ Some m → lowest test k (F ++ f ∷ []) ≡ Some (record { factor = m; line = k + length F })
found_last test k [] f m h e = ap (λ o. named k o None) e ∙ ap (λ j. Some (record { factor = m; line = j })) (omega arith)
found_last test k (g ∷ F) f m h e = by (test g) h (found_last test (suc k) F f m)
  where
    by : (o : Option Monomial) → named k o (lowest test (suc k) F) ≡ None → (lowest test (suc k) F ≡ None → test f ≡ Some m → lowest test (suc k) (F ++ f ∷ []) ≡ Some (record { factor = m; line = suc k + length F }))
        → named k o (lowest test (suc k) (F ++ f ∷ [])) ≡ Some (record { factor = m; line = k + length (g ∷ F) })
    by (Some n) h later = none_some (sym h)
    by None h later = later h e ∙ ap (λ j. Some (record { factor = m; line = j })) (omega arith)

module _ (ring : CoefficientRing) where
  -- a line that fits: it has a head, its head term divides t, and the factor is −q at the quotient of the terms
  pub record FitsAt (over : ℕ → ℕ → Option ℕ) (c : ℕ) (t : Term) (f : List Monomial) (s : Monomial) : Type 0 where
    pub head : Monomial
    pub rest : List Monomial
    pub is : f ≡ head ∷ rest
    pub divided : Divides (term head) t
    pub q : ℕ
    pub quotient_is : over c (code head) ≡ Some q
    pub factor_is : s ≡ monomial (quotient t (term head)) (ring.negative q)

  pub fits_at : (over : ℕ → ℕ → Option ℕ) (c : ℕ) (t : Term) (f : List Monomial) (s : Monomial) → fitting ring over c t f ≡ Some s → FitsAt over c t f s
  fits_at over c t [] s h = none_some h
  fits_at over c t (m ∷ f) s h = by (divides (term m) t) refl (over c (code m)) refl h
    where
      by : (b : Bool) → divides (term m) t ≡ b → (o : Option ℕ) → over c (code m) ≡ o → cond b (option_map (λ q. monomial (quotient t (term m)) (ring.negative q)) o) None ≡ Some s → FitsAt over c t (m ∷ f) s
      by true d (Some q) e h = record { head = m; rest = f; is = refl; divided = (division_laws.decided (term m) t).0 d; q = q; quotient_is = e; factor_is = sym (some_some h) }
      by true d None e h = none_some h
      by false d o e h = none_some h

  -- the factor's term and code
  pub factor_term : (over : ℕ → ℕ → Option ℕ) (c : ℕ) (t : Term) (f : List Monomial) (s : Monomial) → Fits t → (w : FitsAt over c t f s) → product (term s) (term w.head) ≡ t
  factor_term over c t f s h w =
      ap (λ z. product (term z) (term w.head)) w.factor_is
      ∙ ap (λ z. product z (term w.head)) (term_of_monomial ring (quotient t (term w.head)) (ring.negative w.q) (quotient_fits (term w.head) t h) (ring.negative_below w.q))
      ∙ product_laws.commutes (quotient t (term w.head)) (term w.head)
      ∙ division_laws.times_divisor (term w.head) t w.divided

  pub factor_code : (over : ℕ → ℕ → Option ℕ) (c : ℕ) (t : Term) (f : List Monomial) (s : Monomial) → (w : FitsAt over c t f s) → code s ≡ ring.negative w.q
  factor_code over c t f s w = ap code w.factor_is ∙ code_of_monomial ring (quotient t (term w.head)) (ring.negative w.q) (ring.negative_below w.q)

  -- no fit where the head term divides: no quotient
  pub no_fit : (over : ℕ → ℕ → Option ℕ) (c : ℕ) (t : Term) (m : Monomial) (f : List Monomial) → fitting ring over c t (m ∷ f) ≡ None → Divides (term m) t → over c (code m) ≡ None
  no_fit over c t m f h d = by (over c (code m)) (sym (cond-true (divides (term m) t) _ None ((division_laws.decided (term m) t).1 d)) ∙ h)
    where
      by : (o : Option ℕ) → option_map (λ q. monomial (quotient t (term m)) (ring.negative q)) o ≡ None → o ≡ None
      by (Some q) h = none_some (sym h)
      by None h = refl

  pub fit : (over : ℕ → ℕ → Option ℕ) (c : ℕ) (t : Term) (m : Monomial) (f : List Monomial) (q : ℕ) → Divides (term m) t → over c (code m) ≡ Some q → fitting ring over c t (m ∷ f) ≡ Some (monomial (quotient t (term m)) (ring.negative q))
  fit over c t m f q d e = cond-true (divides (term m) t) _ None ((division_laws.decided (term m) t).1 d) ∙ ap (option_map (λ q. monomial (quotient t (term m)) (ring.negative q))) e
