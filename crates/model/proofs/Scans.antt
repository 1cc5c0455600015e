-- Going down a formula leaves what lowering its greatest monomials leaves, since a step changes no greater monomial.
use Rattle.std.proofs.Common.{◌≡◌, ℕ, zero, suc, ◌-◌, ◌<◌, min, true, List, [], ◌∷◌, ◌++◌, length, get_or, take, drop, Some, None, Ok, Err, Option, Result, Greater, sym, refl, ap, ◌∙◌, subst, append_assoc, append-nil, arith}
use Rattle.std.specs.Option.{option_or}
use Rattle.std.specs.List.{AllByRecursion}
use Rattle.std.proofs.lemmas.List.{take-append-drop, take_at}
use Rattle.std.proofs.lemmas.Bool.{and_parts}
use Rattle.refusal.specs.declared.Refusal.{Refusal}
use Rattle.refusal.specs.declared.Refusal.TheVariants.{AllowanceUsed}
use Rattle.ring.specs.CoefficientRing.{CoefficientRing}
use Rattle.order.specs.Term.{Term, product}
use Rattle.order.specs.TermOrder.{TermOrder}
use Rattle.order.proofs.Compared.{compared_is}
use Rattle.term.specs.Packed.{fits}
use Rattle.term.specs.declared.monomial.Monomial.{Monomial}
use Rattle.term.specs.declared.monomial.Step.{Step}
use Rattle.formula.specs.Formula.{Coefficient, Falling, Formula, checked, code, term}
use Rattle.formula.specs.Sum.{added, kept, merged, multiplied, nonzero, picked, products_fit}
use Rattle.formula.proofs.Adding.{granted}
use Rattle.formula.proofs.Checking.{checked_exactly_formulas}
use Rattle.formula.proofs.Parts.{kept_cases, term_times}
use Rattle.model.specs.Workbook.{formulas}
use Rattle.model.specs.Reduction.{Reduction, after_step, at_greatest, excess, fitting, if_chosen, lowering, reduced, stepped, then, unreduced}
use Rattle.model.specs.Calls.{max_allowance}
use Rattle.model.specs.Runs.{run}
use Rattle.model.specs.Scanning.{RemaindersGoDown, moved_or_taken, scanned}
use Rattle.model.proofs.Outcomes.{or_none}
use Rattle.model.proofs.Packings.{term_fits}
use Rattle.model.proofs.Values.{added_formula}
use Rattle.model.proofs.Searches.{factor_term, fits_at, found}
use Rattle.model.proofs.Traces.{Good, good_line, lawful_at_greatest}
use Rattle.model.proofs.JobPolynomials.{good_of}
use Rattle.model.proofs.Invariant.{kept as kept_run}

-- a monomial with a code is kept
kept_is : (m : Monomial) → 0 < code m → kept m ≡ m ∷ []
kept_is m h = kept_cases (λ k. k ≡ m ∷ []) m (λ z. absurd (omega arith)) (λ _. refl)

module _ (ring : CoefficientRing) (order : TermOrder) where
  nonzero_prefix : (done rest : List Monomial) → AllByRecursion (λ d. 0 < code d) done → nonzero (done ++ rest) ≡ done ++ nonzero rest
  nonzero_prefix [] rest h = refl
  nonzero_prefix (d ∷ done) rest h = ap (λ z. z ++ nonzero (done ++ rest)) (kept_is d h.0) ∙ ap (λ z. d ∷ z) (nonzero_prefix done rest h.1)

  -- monomials that are greater than all of g stay in front of a sum with g
  merged_prefix : (done rest g : List Monomial) → AllByRecursion (λ d. 0 < code d) done → AllByRecursion (λ d. AllByRecursion (λ p. order.before (term p) (term d)) g) done → merged ring order (done ++ rest) g ≡ done ++ merged ring order rest g
  merged_prefix [] rest g h b = refl
  merged_prefix (d ∷ done) [] [] h b = nonzero_prefix (d ∷ done) [] h
  merged_prefix (d ∷ done) (m ∷ rest) [] h b = nonzero_prefix (d ∷ done) (m ∷ rest) h
  merged_prefix (d ∷ done) rest (p ∷ g) h b =
      ap (λ o. picked o ring d p (merged ring order (d ∷ (done ++ rest)) g) (merged ring order (done ++ rest) g) (merged ring order (done ++ rest) (p ∷ g))) (sym (compared_is order (term d) (term p) Greater b.0.0))
      ∙ ap (λ z. z ++ merged ring order (done ++ rest) (p ∷ g)) (kept_is d h.0) ∙ ap (λ z. d ∷ z) (merged_prefix done rest (p ∷ g) h.1 b.1)

  -- the products of a factor with a list whose raised terms are before u
  products_before : (s : Monomial) (u : Term) (f : List Monomial) → products_fit s f ≡ true → AllByRecursion (λ x. order.before (product (term s) (term x)) u) f → AllByRecursion (λ p. order.before (term p) u) (multiplied ring s f)
  products_before s u [] fit h = tt
  products_before s u (x ∷ f) fit h =
      let p = and_parts (fits (product (term s) (term x))) (products_fit s f) fit in
      (subst (λ z. order.before z u) (sym (term_times ring s x p.0)) h.0, products_before s u f p.1 h.1)

  line_before : (s : Monomial) (t u : Term) (x : Monomial) (f : List Monomial) → product (term s) (term x) ≡ t → order.before t u → Falling order (x ∷ f) → AllByRecursion (λ y. order.before (product (term s) (term y)) u) (x ∷ f)
  line_before s t u x f e b h = (subst (λ z. order.before z u) (sym e) b, rest f h.0)
    where
      rest : (g : List Monomial) → AllByRecursion (λ y. order.before (term y) (term x)) g → AllByRecursion (λ y. order.before (product (term s) (term y)) u) g
      rest [] l = tt
      rest (y ∷ g) l = (order.transitive (product (term s) (term y)) t u (subst (λ z. order.before (product (term s) (term y)) z) e (order.kept_by_product (term s) (term y) (term x) l.0)) b, rest g l.1)

  -- what stands before m in a formula is greater, and has coefficients
  greater_before : (done : List Monomial) (m : Monomial) (rest : List Monomial) → Falling order (done ++ m ∷ rest) → AllByRecursion (λ d. order.before (term m) (term d)) done
  greater_before [] m rest h = tt
  greater_before (d ∷ done) m rest h = (at_m done h.0, greater_before done m rest h.1)
    where
      at_m : (xs : List Monomial) → AllByRecursion (λ n. order.before (term n) (term d)) (xs ++ m ∷ rest) → order.before (term m) (term d)
      at_m [] a = a.0
      at_m (x ∷ xs) a = at_m xs a.1

  front : (P : Monomial → Type 0) (done rest : List Monomial) → AllByRecursion P (done ++ rest) → AllByRecursion P done
  front P [] rest h = tt
  front P (d ∷ done) rest h = (h.0, front P done rest h.1)

  positive : (done : List Monomial) → AllByRecursion (λ m. Coefficient ring (code m)) done → AllByRecursion (λ d. 0 < code d) done
  positive [] h = tt
  positive (d ∷ done) h = (h.0.0, positive done h.1)

  module _ (F : List (List Monomial)) (good : Good ring order F) where
    -- a step that lowers m leaves what stands before m
    step_keeps_front : (done : List Monomial) (m : Monomial) (rest g : List Monomial) (s : Step) → Formula ring order (done ++ m ∷ rest) → lowering ring F (code m) (term m) ≡ Some s → stepped ring order F (done ++ m ∷ rest) s ≡ Ok g
        → take (length done) g ≡ done
    step_keeps_front done m rest g s u e k =
        let w = found (fitting ring (excess ring) (code m) (term m)) 0 F s e in
        let v = fits_at ring (excess ring) (code m) (term m) (get_or F (s.line - 0) []) s.factor w.passed in
        let z : s.line - 0 ≡ s.line = omega arith in
        let is : get_or F s.line [] ≡ v.head ∷ v.rest = ap (λ j. get_or F j []) (sym z) ∙ v.is in
        let line : Formula ring order (v.head ∷ v.rest) = subst (Formula ring order) is (good_line ring order F good s.line) in
        let at_m : product (term s.factor) (term v.head) ≡ term m = factor_term ring (excess ring) (code m) (term m) (get_or F (s.line - 0) []) s.factor (term_fits m) v in
        let gr = granted ring order (done ++ m ∷ rest) s.factor (v.head ∷ v.rest) g (ap (λ l. added ring order (done ++ m ∷ rest) s.factor l) (sym is) ∙ k) in
        ap (take (length done)) (gr.is ∙ merged_prefix done (m ∷ rest) (multiplied ring s.factor (v.head ∷ v.rest)) (positive done (front (λ m. Coefficient ring (code m)) done (m ∷ rest) u.coefficients))
        (all_before v.head v.rest at_m gr.fitting line.falling_terms done (greater_before done m rest u.falling_terms)))
        ∙ take_at done (merged ring order (m ∷ rest) (multiplied ring s.factor (v.head ∷ v.rest))) (length done) refl
      where
        all_before : (x : Monomial) (f : List Monomial) → product (term s.factor) (term x) ≡ term m → products_fit s.factor (x ∷ f) ≡ true → Falling order (x ∷ f) → (ds : List Monomial) → AllByRecursion (λ d. order.before (term m) (term d)) ds
            → AllByRecursion (λ d. AllByRecursion (λ p. order.before (term p) (term d)) (multiplied ring s.factor (x ∷ f))) ds
        all_before x f e fit fall [] h = tt
        all_before x f e fit fall (d ∷ ds) h = (products_before s.factor (term d) (x ∷ f) fit (line_before s.factor (term m) (term d) x f e h.0 fall), all_before x f e fit fall ds h.1)

    greatest_after : (done rest : List Monomial) → at_greatest ring F done ≡ None → at_greatest ring F (done ++ rest) ≡ at_greatest ring F rest
    greatest_after [] rest h = refl
    greatest_after (d ∷ done) rest h =
        let n = or_none (lowering ring F (code d) (term d)) (at_greatest ring F done) h in
        ap (λ o. option_or o (at_greatest ring F (done ++ rest))) n.0 ∙ greatest_after done rest n.1

    -- one step more, from what was done on
    abbrev more : ℕ → List Monomial → Step → Result Reduction Refusal
    more n f s = then (stepped ring order F f s) (λ g. then (reduced ring order F (at_greatest ring F) n g) (λ r. Ok (after_step s r)))

    pub scanned_is : (n : ℕ) (rest done : List Monomial) → Formula ring order (done ++ rest) → at_greatest ring F done ≡ None → scanned ring order F n rest done ≡ reduced ring order F (at_greatest ring F) n (done ++ rest)
    scanned_is zero [] done u h = sym (ap (λ o. if_chosen o (done ++ []) (λ s. Err AllowanceUsed)) (greatest_after done [] h) ∙ ap (λ f. Ok (unreduced f)) (append-nil done))
    scanned_is (suc n) [] done u h = sym (ap (λ o. if_chosen o (done ++ []) (more n (done ++ []))) (greatest_after done [] h) ∙ ap (λ f. Ok (unreduced f)) (append-nil done))
    scanned_is zero (m ∷ rest) done u h =
        by (lowering ring F (code m) (term m)) refl (scanned_is zero rest (done ++ m ∷ []))
      where
        f : List Monomial
        f = done ++ m ∷ rest

        at : (o : Option Step) → lowering ring F (code m) (term m) ≡ o → at_greatest ring F f ≡ option_or o (at_greatest ring F rest)
        at o e = greatest_after done (m ∷ rest) h ∙ ap (λ z. option_or z (at_greatest ring F rest)) e

        by : (o : Option Step) → lowering ring F (code m) (term m) ≡ o → (Formula ring order ((done ++ m ∷ []) ++ rest) → at_greatest ring F (done ++ m ∷ []) ≡ None → scanned ring order F zero rest (done ++ m ∷ []) ≡ reduced ring order F (at_greatest ring F) zero ((done ++ m ∷ []) ++ rest))
            → moved_or_taken o (scanned ring order F zero rest (done ++ m ∷ [])) (λ s. Err AllowanceUsed) ≡ reduced ring order F (at_greatest ring F) zero f
        by (Some s) e later = sym (ap (λ z. if_chosen z f (λ s. Err AllowanceUsed)) (at (Some s) e))
        by None e later = later (subst (Formula ring order) (sym (append_assoc done (m ∷ []) rest)) u) (greatest_after done (m ∷ []) h ∙ ap (λ z. option_or z None) e) ∙ ap (reduced ring order F (at_greatest ring F) zero) (append_assoc done (m ∷ []) rest)
    scanned_is (suc n) (m ∷ rest) done u h =
        by (lowering ring F (code m) (term m)) refl (scanned_is (suc n) rest (done ++ m ∷ [])) (scanned_is n)
      where
        f : List Monomial
        f = done ++ m ∷ rest

        at : (o : Option Step) → lowering ring F (code m) (term m) ≡ o → at_greatest ring F f ≡ option_or o (at_greatest ring F rest)
        at o e = greatest_after done (m ∷ rest) h ∙ ap (λ z. option_or z (at_greatest ring F rest)) e

        Later : Type 0
        Later = (rest done : List Monomial) → Formula ring order (done ++ rest) → at_greatest ring F done ≡ None → scanned ring order F n rest done ≡ reduced ring order F (at_greatest ring F) n (done ++ rest)

        on : (s : Step) → lowering ring F (code m) (term m) ≡ Some s → Later → (r : Result (List Monomial) Refusal) → stepped ring order F f s ≡ r
            → then r (λ g. then (scanned ring order F n (drop (length done) g) (take (length done) g)) (λ r. Ok (after_step s r))) ≡ then r (λ g. then (reduced ring order F (at_greatest ring F) n g) (λ r. Ok (after_step s r)))
        on s e later (Err refusal) k = refl
        on s e later (Ok g) k =
            let front_stays : take (length done) g ≡ done = step_keeps_front done m rest g s u e k in
            let whole : take (length done) g ++ drop (length done) g ≡ g = take-append-drop (length done) g in
            let law : Formula ring order g = added_formula ring order f s.factor (get_or F s.line []) g u (good_line ring order F good s.line) (lawful_at_greatest ring F f s (at (Some s) e)).coded k in
            ap (λ r. then r (λ r. Ok (after_step s r))) (later (drop (length done) g) (take (length done) g) (subst (Formula ring order) (sym whole) law) (ap (at_greatest ring F) front_stays ∙ h) ∙ ap (reduced ring order F (at_greatest ring F) n) whole)

        by : (o : Option Step) → lowering ring F (code m) (term m) ≡ o
            → (Formula ring order ((done ++ m ∷ []) ++ rest) → at_greatest ring F (done ++ m ∷ []) ≡ None → scanned ring order F (suc n) rest (done ++ m ∷ []) ≡ reduced ring order F (at_greatest ring F) (suc n) ((done ++ m ∷ []) ++ rest))
            → Later
            → moved_or_taken o (scanned ring order F (suc n) rest (done ++ m ∷ [])) (λ s. then (stepped ring order F f s) (λ g. then (scanned ring order F n (drop (length done) g) (take (length done) g)) (λ r. Ok (after_step s r)))) ≡ reduced ring order F (at_greatest ring F) (suc n) f
        by (Some s) e move later = on s e later (stepped ring order F f s) refl ∙ sym (ap (λ z. if_chosen z f (more n f)) (at (Some s) e))
        by None e move later = move (subst (Formula ring order) (sym (append_assoc done (m ∷ []) rest)) u) (greatest_after done (m ∷ []) h ∙ ap (λ z. option_or z None) e) ∙ ap (reduced ring order F (at_greatest ring F) (suc n)) (append_assoc done (m ∷ []) rest)

  pub remainders_go_down : RemaindersGoDown ring order
  remainders_go_down calls f allowance = by (checked ring order f) refl
    where
      F : List (List Monomial)
      F = formulas (run ring order calls).state.lines

      by : (r : Result (Unit {0}) Refusal) → checked ring order f ≡ r → then r (λ _. reduced ring order F (at_greatest ring F) (min allowance max_allowance) f) ≡ then r (λ _. scanned ring order F (min allowance max_allowance) f [])
      by (Err refusal) e = refl
      by (Ok u) e = sym (scanned_is F (good_of ring order F (kept_run ring order calls).sound.entries) (min allowance max_allowance) f [] ((checked_exactly_formulas ring order f).0 e) refl)
