-- The lines of a sheet in an audit: which are granted, one after another.
use Rattle.std.proofs.Common.{◌≡◌, ℕ, zero, suc, ◌<◌, ◌≤◌, true, ◌&&◌, eqb, ltb, List, [], ◌∷◌, ◌++◌, length, take, is_ok, Some, None, Ok, Err, Decides, Option, Result, sym, refl, ap, ◌∙◌, subst, ap₂, arith}
use Rattle.std.specs.List.{flat_map, AllByRecursion}
use Rattle.std.proofs.ByRecursion.{All-weaker, Decides-by_and}
use Rattle.std.proofs.lemmas.List.{append_assoc, append-nil}
use Rattle.std.proofs.lemmas.Bool.{and_from, and_parts, eq-eqb, eqb-true}
use Rattle.std.proofs.lemmas.Bool.Decides.{Decides-and, Decides-like, Decides-ltb}
use Rattle.refusal.specs.declared.Refusal.{Refusal}
use Rattle.refusal.specs.declared.Refusal.TheVariants.{NotASheet, NotTheSum, StepOutOfRange}
use Rattle.ring.specs.CoefficientRing.{CoefficientRing}
use Rattle.order.specs.TermOrder.{TermOrder}
use Rattle.term.specs.declared.monomial.Monomial.{Monomial}
use Rattle.term.specs.declared.monomial.Step.{Step}
use Rattle.formula.specs.Formula.{Coefficient, Formula, checked, code, provided}
use Rattle.formula.proofs.Checking.{checked_exactly_formulas}
use Rattle.layout.specs.Line.{Byte, FitsSheet, Line}
use Rattle.layout.specs.Reading.{Read, read_line}
use Rattle.layout.specs.Writing.{line_bytes}
use Rattle.layout.proofs.Again.{LineRead, Then, line_again}
use Rattle.layout.proofs.Back.{line_back}
use Rattle.model.specs.Workbook.{formulas}
use Rattle.model.specs.Reduction.{summed}
use Rattle.model.specs.Calls.{has_head}
use Rattle.model.specs.Audit.{are_steps, given, is_derived, is_step, is_sum, line_checked, lines_checked, same_list}
use Rattle.model.specs.Rules.{Derived, LineKept, numbered}
use Rattle.model.specs.Refusals.{LawfulSteps}
use Rattle.model.proofs.Outcomes.{err_ok, false_true, granted, ok_ok, passed, provided_true}

decides_same : (f g : List Monomial) → Decides (same_list f g) (f ≡ g)
decides_same f g = (same f g, λ e. subst (λ h. same_list f h ≡ true) e (itself f))
  where
    same : (f g : List Monomial) → same_list f g ≡ true → f ≡ g
    same [] [] h = refl
    same [] (n ∷ g) h = false_true h
    same (m ∷ f) [] h = false_true h
    same (m ∷ f) (n ∷ g) h =
        let p = and_parts (eqb m.bits n.bits) (same_list f g) h in
        let e : m.bits ≡ n.bits = eqb-true m.bits n.bits p.0 in
        ap₂ (λ b h. record { bits = b } ∷ h) e (same f g p.1)

    itself : (f : List Monomial) → same_list f f ≡ true
    itself [] = refl
    itself (m ∷ f) = and_from (eqb m.bits m.bits) (same_list f f) (eq-eqb m.bits m.bits refl) (itself f)

decides_sum : (r : Result (List Monomial) Refusal) (f : List Monomial) → Decides (is_sum r f) (r ≡ Ok f)
decides_sum (Ok g) f = ((λ h. ap Ok ((decides_same g f).0 h)), λ e. (decides_same g f).1 (ok_ok e))
decides_sum (Err refusal) f = ((λ h. false_true h), λ e. err_ok e)

has_head_if_long : (f : List Monomial) → 1 ≤ length f → has_head f ≡ true
has_head_if_long [] h = absurd (omega arith)
has_head_if_long (m ∷ f) h = refl

module _ (ring : CoefficientRing) where
  -- a step that names an earlier line and has a coefficient
  abbrev IsStep : ℕ → Step → Type 0
  IsStep n s = (s.line < n) × Coefficient ring (code s.factor)

  decides_step : (n : ℕ) (s : Step) → Decides (is_step ring n s) (IsStep n s)
  decides_step n s =
      let c : ℕ = code s.factor in
      Decides-and (ltb s.line n) (ltb 0 c && ltb c ring.size) (Decides-ltb s.line n) (Decides-and (ltb 0 c) (ltb c ring.size) (Decides-ltb 0 c) (Decides-ltb c ring.size))

  both : (n : ℕ) (steps : List Step) → LawfulSteps ring n steps → AllByRecursion (IsStep n) steps
  both n [] h = tt
  both n (s ∷ steps) h = ((h.0.0, h.1.0), both n steps (h.0.1, h.1.1))

  pub decides_steps : (n : ℕ) (steps : List Step) → Decides (are_steps ring n steps) (LawfulSteps ring n steps)
  decides_steps n steps =
      Decides-like (are_steps ring n steps)
      (λ h. (All-weaker (IsStep n) (λ s. s.line < n) (λ s h. h.0) steps h, All-weaker (IsStep n) (λ s. Coefficient ring (code s.factor)) (λ s h. h.1) steps h))
      (both n steps)
      (Decides-by_and (is_step ring n) (IsStep n) (are_steps ring n) (decides_step n) refl (λ _ _. refl) steps)

  module _ (order : TermOrder) where
    pub decides_formula : (f : List Monomial) → Decides (is_ok (checked ring order f)) (Formula ring order f)
    decides_formula f = (λ h. (checked_exactly_formulas ring order f).0 (when_ok (checked ring order f) h), λ u. ap is_ok ((checked_exactly_formulas ring order f).1 u))
      where
        when_ok : (r : Result (Unit {0}) Refusal) → is_ok r ≡ true → r ≡ Ok tt
        when_ok (Ok x) h = refl
        when_ok (Err refusal) h = false_true h

    pub decides_derived : (F : List (List Monomial)) (f : List Monomial) (steps : List Step) → Decides (is_derived ring order F f steps) (Derived ring order F f steps)
    decides_derived F f [] = ((λ h. tt), λ h. refl)
    decides_derived F f (s ∷ steps) = decides_sum (summed ring order F [] (s ∷ steps)) f

    -- a line that is granted keeps the rules, and one that keeps them is granted
    line_kept : {X : Type 0} (F : List (List Monomial)) (line : Line) (next : Result X Refusal) (x : X) → FitsSheet line → line_checked ring order F line next ≡ Ok x → LineKept ring order F line × (next ≡ Ok x)
    line_kept {X} F line next x fits h =
        let f : List Monomial = line.formula in
        let steps : List Step = line.steps in
        let last : Result X Refusal = provided (is_derived ring order F f steps) NotTheSum next in
        let middle : Result X Refusal = provided (are_steps ring (length F) steps) StepOutOfRange last in
        let h₁ : middle ≡ Ok x = granted (is_ok (checked ring order f)) NotASheet middle x h in
        let h₂ : last ≡ Ok x = granted (are_steps ring (length F) steps) StepOutOfRange last x h₁ in
        let lawful = (decides_steps (length F) steps).0 (passed (are_steps ring (length F) steps) StepOutOfRange last x h₁) in (
          record {
            fits = fits;
            lawful = record {
              formula = (decides_formula f).0 (passed (is_ok (checked ring order f)) NotASheet middle x h);
              not_zero = has_head_if_long f fits.some;
              short = fits.short;
              earlier = lawful.0;
              coefficients = lawful.1;
              sum = (decides_derived F f steps).0 (passed (is_derived ring order F f steps) NotTheSum next x h₂);
            };
          },
          granted (is_derived ring order F f steps) NotTheSum next x h₂,
        )

    pub line_granted : {X : Type 0} (F : List (List Monomial)) (line : Line) (next : Result X Refusal) → LineKept ring order F line → line_checked ring order F line next ≡ next
    line_granted {X} F line next k =
        let f : List Monomial = line.formula in
        let steps : List Step = line.steps in
        let last : Result X Refusal = provided (is_derived ring order F f steps) NotTheSum next in
        let middle : Result X Refusal = provided (are_steps ring (length F) steps) StepOutOfRange last in
        provided_true (is_ok (checked ring order f)) NotASheet middle ((decides_formula f).1 k.lawful.formula)
        ∙ provided_true (are_steps ring (length F) steps) StepOutOfRange last ((decides_steps (length F) steps).1 (k.lawful.earlier, k.lawful.coefficients))
        ∙ provided_true (is_derived ring order F f steps) NotTheSum next ((decides_derived F f steps).1 k.lawful.sum)

    -- each of the lines keeps the rules after those before it
    abbrev pub KeptAfter : List Line → List Line → Type 0
    KeptAfter before [] = Unit {0}
    KeptAfter before (line ∷ lines) = LineKept ring order (formulas before) line × KeptAfter (before ++ line ∷ []) lines

    -- bytes are n lines that keep the rules after those before them
    pub record LinesWritten (n : ℕ) (before : List Line) (bytes : List ℕ) (lines : List Line) : Type 0 where
      pub more : List Line
      pub all : lines ≡ before ++ more
      pub spelt : bytes ≡ flat_map line_bytes more
      pub number : length more ≡ n
      pub kept : KeptAfter before more

    pub lines_kept : (n : ℕ) (before : List Line) (bytes : List ℕ) (lines : List Line) → AllByRecursion Byte bytes → lines_checked ring order n before bytes ≡ Ok lines → LinesWritten n before bytes lines
    lines_kept zero before [] lines b h = record { more = []; all = sym (ok_ok h) ∙ sym (append-nil before); spelt = refl; number = refl; kept = tt }
    lines_kept zero before (c ∷ bytes) lines b h = err_ok h
    lines_kept (suc n) before bytes lines b h = by (read_line bytes) (line_again bytes b) h (lines_kept n)
      where
        by : (o : Option (Read Line)) → Then o (LineRead bytes)
            → given o (λ r. line_checked ring order (formulas before) r.item (lines_checked ring order n (before ++ r.item ∷ []) r.rest)) ≡ Ok lines
            → ((before : List Line) (bytes : List ℕ) (lines : List Line) → AllByRecursion Byte bytes → lines_checked ring order n before bytes ≡ Ok lines → LinesWritten n before bytes lines)
            → LinesWritten (suc n) before bytes lines
        by None p h later = err_ok h
        by (Some r) p h later =
            let k = line_kept (formulas before) r.item (lines_checked ring order n (before ++ r.item ∷ []) r.rest) lines p.fits h in
            let w = later (before ++ r.item ∷ []) r.rest lines p.left k.1 in
            record {
              more = r.item ∷ w.more;
              all = w.all ∙ append_assoc before (r.item ∷ []) w.more;
              spelt = p.spelt ∙ ap (λ xs. line_bytes r.item ++ xs) w.spelt;
              number = ap (λ i. suc i) w.number;
              kept = (k.0, w.kept);
            }

    pub lines_granted : (before more : List Line) → KeptAfter before more → lines_checked ring order (length more) before (flat_map line_bytes more) ≡ Ok (before ++ more)
    lines_granted before [] k = ap Ok (sym (append-nil before))
    lines_granted before (line ∷ lines) k =
        ap (λ o. given o (λ r. line_checked ring order (formulas before) r.item (lines_checked ring order (length lines) (before ++ r.item ∷ []) r.rest))) (line_back line (flat_map line_bytes lines) k.0.fits)
        ∙ line_granted (formulas before) line (lines_checked ring order (length lines) (before ++ line ∷ []) (flat_map line_bytes lines)) k.0
        ∙ lines_granted (before ++ line ∷ []) lines k.1
        ∙ ap Ok (append_assoc before (line ∷ []) lines)

    -- the same by number
    pub kept_at : (before lines : List Line) → KeptAfter before lines → (k : ℕ) → k < length lines → LineKept ring order (formulas (before ++ take k lines)) (numbered lines k)
    kept_at before [] h k l = absurd (omega arith)
    kept_at before (line ∷ lines) h zero l = subst (λ b. LineKept ring order (formulas b) line) (sym (append-nil before)) h.0
    kept_at before (line ∷ lines) h (suc k) l =
        subst (λ b. LineKept ring order (formulas b) (numbered lines k)) (append_assoc before (line ∷ []) (take k lines)) (kept_at (before ++ line ∷ []) lines h.1 k (omega arith))

    pub kept_by_number : (before lines : List Line) → ((k : ℕ) → k < length lines → LineKept ring order (formulas (before ++ take k lines)) (numbered lines k)) → KeptAfter before lines
    kept_by_number before [] h = tt
    kept_by_number before (line ∷ lines) h = (
      subst (λ b. LineKept ring order (formulas b) line) (append-nil before) (h 0 (omega arith)),
      kept_by_number (before ++ line ∷ []) lines (λ k l. subst (λ b. LineKept ring order (formulas b) (numbered lines k)) (sym (append_assoc before (line ∷ []) (take k lines))) (h (suc k) (omega arith))),
    )
