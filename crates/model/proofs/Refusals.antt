-- What a relate, a reduction, a remainder, a decision and a write are refused, in order.
use Rattle.std.proofs.Common.{◌≡◌, ℕ, zero, suc, ◌+◌, ◌<◌, ◌≤◌, min, Bool, false, cond, ltb, leb, List, [], ◌∷◌, ◌++◌, length, get_or, Some, Ok, Err, Decides, Option, Result, refl, ap, ◌∙◌, arith}
use Rattle.std.specs.List.{AllByRecursion}
use Rattle.std.proofs.lemmas.Bool.{and_from, and_left, and_right, cond-false, cond-true, le-leb, le-ltb, lt-leb, lt-ltb}
use Rattle.std.proofs.ByRecursion.{Decides-by_and}
use Rattle.refusal.specs.declared.Refusal.{Refusal}
use Rattle.refusal.specs.declared.Refusal.TheVariants.{AllowanceUsed, CoefficientOutOfRange, EmptyFormula, ExponentTooLarge, LinesFull, MemoryTooShort, SumTooLong, TablesFull, TermsNotFalling, TooManyMonomials}
use Rattle.ring.specs.CoefficientRing.{CoefficientRing}
use Rattle.order.specs.Term.{Divides, level, product}
use Rattle.order.specs.TermOrder.{TermOrder}
use Rattle.order.proofs.Terms.{division_laws}
use Rattle.term.specs.Packed.{fits}
use Rattle.term.specs.declared.monomial.Monomial.{Monomial}
use Rattle.term.specs.declared.monomial.Step.{Step}
use Rattle.formula.specs.Formula.{Formula, checked, coded, falling, max_monomials, provided, term}
use Rattle.formula.specs.Sum.{merged, multiplied, not_too_long, products_fit}
use Rattle.formula.proofs.Checking.{checked_exactly_formulas, decides_coded, falling_decided}
use Rattle.layout.specs.Line.{Line}
use Rattle.layout.specs.Reading.{max_lines}
use Rattle.model.specs.Workbook.{State, all_monomials, all_steps, complete, entered, formulas, has_room, jobs, table_size}
use Rattle.model.specs.Reduction.{ReducesTo, Reduction, after_step, at_greatest, if_chosen, reduced, stepped, then}
use Rattle.model.specs.Calls.{decided, has_head, into_memory, max_allowance, nothing_left, related, remainder, remaining, sheet, verdict}
use Rattle.model.specs.declared.answers.Judgement.{Judgement}
use Rattle.model.specs.Grants.{as_relation, remainder_left, sheet_left, with_relation}
use Rattle.model.specs.Refusals.{ChecksInOrder, EntersInOrder, RefusedOnTheWay, RelateRefusals, RemainderRefusals, StepRefusals, StepsTo, WriteRefusals}
use Rattle.model.proofs.Outcomes.{provided_false, provided_true, test_fails}
use Rattle.model.proofs.Traces.{more}
use Rattle.model.proofs.Grants.{entering, not_complete, too_short, with_lines}
use Rattle.model.proofs.GrantedRemainders.{holds, remaining_exactly}

-- a result that is refused and granted as entering a line is
pub enters_as : {X : Type 0} (lines : List Line) (line : Line) (outcome : Result X Refusal) (after : X)
    → ((refusal : Refusal) → entered lines line ≡ Err refusal → outcome ≡ Err refusal) → (entered lines line ≡ Ok (lines ++ line ∷ []) → outcome ≡ Ok after) → EntersInOrder lines line outcome after
enters_as lines line outcome after refused granted =
    let room : Result (List Line) Refusal = provided (has_room lines line) TablesFull (Ok (lines ++ line ∷ [])) in
    let m : Bool = leb (all_monomials lines + length line.formula) table_size in
    let s : Bool = leb (all_steps lines + length line.steps) table_size in
    let tested : length lines < 64 → entered lines line ≡ room = λ l. provided_true (ltb (length lines) max_lines) LinesFull room (lt-ltb (length lines) max_lines l) in
    let full : has_room lines line ≡ false → room ≡ Err TablesFull = provided_false (has_room lines line) TablesFull (Ok (lines ++ line ∷ [])) in
    record {
      lines_full = λ l. refused LinesFull (provided_false (ltb (length lines) max_lines) LinesFull room (le-ltb (length lines) max_lines l));
      monomials_full = λ l h. refused TablesFull (tested l ∙ full (and_left m s (lt-leb (all_monomials lines + length line.formula) table_size h)));
      steps_full = λ l h. refused TablesFull (tested l ∙ full (and_right m s (lt-leb (all_steps lines + length line.steps) table_size h)));
      enters = λ l h k. granted (tested l ∙ provided_true (has_room lines line) TablesFull (Ok (lines ++ line ∷ []))
          (and_from m s (le-leb (all_monomials lines + length line.formula) table_size h) (le-leb (all_steps lines + length line.steps) table_size k)));
    }

module _ (ring : CoefficientRing) (order : TermOrder) where
  -- a call that is refused whatever the checks refuse
  pub checks_first : {X : Type 0} (call : List Monomial → Result X Refusal) → ((f : List Monomial) (refusal : Refusal) → checked ring order f ≡ Err refusal → call f ≡ Err refusal) → ChecksInOrder ring order call
  checks_first call refused =
      let last : List Monomial → Result (Unit {0}) Refusal = λ f. provided (falling order f) TermsNotFalling (Ok tt) in
      let middle : List Monomial → Result (Unit {0}) Refusal = λ f. provided (coded ring f) CoefficientOutOfRange (last f) in
      let short : (f : List Monomial) → length f ≤ 64 → checked ring order f ≡ middle f = λ f l. provided_true (leb (length f) max_monomials) TooManyMonomials (middle f) (le-leb (length f) max_monomials l) in
      record {
        too_many_monomials = λ f l. refused f TooManyMonomials (provided_false (leb (length f) max_monomials) TooManyMonomials (middle f) (lt-leb (length f) max_monomials l));
        coefficient_out_of_range = λ f l n. refused f CoefficientOutOfRange (short f l ∙ provided_false (coded ring f) CoefficientOutOfRange (last f) (test_fails (coded ring f) (decides_coded ring f) n));
        terms_not_falling = λ f l c n. refused f TermsNotFalling (short f l
            ∙ provided_true (coded ring f) CoefficientOutOfRange (last f) ((decides_coded ring f).1 c)
            ∙ provided_false (falling order f) TermsNotFalling (Ok tt) (test_fails (falling order f) (falling_decided order f) n));
      }

  pub relate_refusals : (state : State) → RelateRefusals ring order state
  relate_refusals state = record {
    checks = checks_first (related ring order state) (λ f refusal e. ap (λ r. then r (λ _. provided (has_head f) EmptyFormula (entering ring order state f))) e);
    empty_formula = refl;
    entering = λ m f u.
        let start : related ring order state (m ∷ f) ≡ entering ring order state (m ∷ f) = ap (λ r. then r (λ _. entering ring order state (m ∷ f))) ((checked_exactly_formulas ring order (m ∷ f)).1 u) in
        enters_as state.lines (as_relation (m ∷ f)) (related ring order state (m ∷ f)) (with_relation state (m ∷ f))
        (λ refusal e. start ∙ ap (λ r. then r (with_lines ring order state)) e) (λ e. start ∙ ap (λ r. then r (with_lines ring order state)) e);
  }

  decides_fit : (s : Monomial) (f : List Monomial) → Decides (products_fit s f) (AllByRecursion (λ m. Divides (product (term s) (term m)) (level 255)) f)
  decides_fit s f =
      Decides-by_and (λ m. fits (product (term s) (term m))) (λ m. Divides (product (term s) (term m)) (level 255)) (products_fit s) (λ m. division_laws.decided (product (term s) (term m)) (level 255)) refl (λ _ _. refl) f

  pub step_refusals : (F : List (List Monomial)) (f : List Monomial) (s : Step) → StepRefusals ring order F f s
  step_refusals F f s =
      let line : List Monomial = get_or F s.line [] in
      let sum : List Monomial = merged ring order f (multiplied ring s.factor line) in
      let fit : Bool = products_fit s.factor line in
      record {
        exponent_too_large = λ n. provided_false fit ExponentTooLarge (not_too_long sum) (test_fails fit (decides_fit s.factor line) n);
        sum_too_long = λ h l. provided_true fit ExponentTooLarge (not_too_long sum) ((decides_fit s.factor line).1 h) ∙ provided_false (leb (length sum) max_monomials) SumTooLong (Ok sum) (lt-leb (length sum) max_monomials l);
        adds = λ h l. provided_true fit ExponentTooLarge (not_too_long sum) ((decides_fit s.factor line).1 h) ∙ provided_true (leb (length sum) max_monomials) SumTooLong (Ok sum) (le-leb (length sum) max_monomials l);
      }

  module _ (F : List (List Monomial)) (choose : List Monomial → Option Step) where
    allowance_used : (n : ℕ) (f : List Monomial) (σ : List Step) (h : List Monomial) (s : Step) → StepsTo ring order F choose f σ h → choose h ≡ Some s → length σ ≡ n → reduced ring order F choose n f ≡ Err AllowanceUsed
    allowance_used zero f [] h s t c l = ap (λ o. if_chosen o f (λ s. Err AllowanceUsed)) (ap choose t ∙ c)
    allowance_used zero f (x ∷ σ) h s t c l = absurd (omega arith)
    allowance_used (suc n) f [] h s t c l = absurd (omega arith)
    allowance_used (suc n) f (x ∷ σ) h s t c l =
        ap (λ o. if_chosen o f (more ring order F choose n f)) t.1
        ∙ ap (λ r. then r (λ g. then (reduced ring order F choose n g) (λ r. Ok (after_step x r)))) t.2
        ∙ ap (λ r. then r (λ r. Ok (after_step x r))) (allowance_used n t.0 σ h s t.3 c (omega arith))

    step_refused : (n : ℕ) (f : List Monomial) (σ : List Step) (h : List Monomial) (s : Step) (refusal : Refusal) → StepsTo ring order F choose f σ h → choose h ≡ Some s → length σ < n → stepped ring order F h s ≡ Err refusal
        → reduced ring order F choose n f ≡ Err refusal
    step_refused zero f σ h s refusal t c l e = absurd (omega arith)
    step_refused (suc n) f [] h s refusal t c l e =
        ap (λ o. if_chosen o f (more ring order F choose n f)) (ap choose t ∙ c)
        ∙ ap (λ r. then r (λ g. then (reduced ring order F choose n g) (λ r. Ok (after_step s r)))) (ap (λ f. stepped ring order F f s) t ∙ e)
    step_refused (suc n) f (x ∷ σ) h s refusal t c l e =
        ap (λ o. if_chosen o f (more ring order F choose n f)) t.1
        ∙ ap (λ r. then r (λ g. then (reduced ring order F choose n g) (λ r. Ok (after_step x r)))) t.2
        ∙ ap (λ r. then r (λ r. Ok (after_step x r))) (step_refused n t.0 σ h s refusal t.3 c (omega arith) e)

    -- a result that is refused whatever a reduction is refused
    pub refused_as : {X : Type 0} (n : ℕ) (f : List Monomial) (outcome : Result X Refusal) → ((refusal : Refusal) → reduced ring order F choose n f ≡ Err refusal → outcome ≡ Err refusal) → RefusedOnTheWay ring order F choose n f outcome
    refused_as n f outcome refused = record {
      allowance_used = λ σ h s t c l. refused AllowanceUsed (allowance_used n f σ h s t c l);
      step_refused = λ σ h s refusal t c l e. refused refusal (step_refused n f σ h s refusal t c l e);
    }

  module _ (state : State) (allowance : ℕ) where
    abbrev F : List (List Monomial)
    F = formulas state.lines

    abbrev lowered : List Monomial → Result Reduction Refusal
    lowered f = reduced ring order F (at_greatest ring F) (min allowance max_allowance) f

    abbrev judged : Reduction → Result Judgement Refusal
    judged r = Ok (record { verdict = verdict (complete state) r.formula; steps = length r.steps })

    remaining_checked : (f : List Monomial) → Formula ring order f → remaining ring order state.lines f allowance ≡ lowered f
    remaining_checked f u = ap (λ r. then r (λ _. lowered f)) ((checked_exactly_formulas ring order f).1 u)

    not_held : (f result : List Monomial) (trail : List Step) (σ : List Step) (g : List Monomial) → Formula ring order f → ReducesTo ring order F (at_greatest ring F) f σ g → length σ ≤ min allowance max_allowance
        → holds ring order (record { formula = g; steps = σ }) result trail ≡ false → (remainder ring order state f allowance result trail).answer ≡ Err MemoryTooShort
    not_held f result trail σ g u t l e =
        let left : Reduction = record { formula = g; steps = σ } in
        ap (λ r. (into_memory ring r result trail).answer) ((remaining_exactly ring order state.lines f allowance left).1 (u, (t, l)))
        ∙ ap (λ r. r.answer) (cond-false (holds ring order left result trail) (remainder_left ring left result trail) (nothing_left MemoryTooShort result trail) e)

    pub remainder_refusals : RemainderRefusals ring order state allowance
    remainder_refusals = record {
      remainder_checks = λ result trail. checks_first (λ f. (remainder ring order state f allowance result trail).answer) (λ f refusal e. ap (λ r. (into_memory ring (then r (λ _. lowered f)) result trail).answer) e);
      decide_checks = checks_first (λ f. decided ring order state f allowance) (λ f refusal e. ap (λ r. then (then r (λ _. lowered f)) judged) e);
      remainder_lowers = λ f result trail u. refused_as F (at_greatest ring F) (min allowance max_allowance) f (remainder ring order state f allowance result trail).answer (λ refusal e. ap (λ r. (into_memory ring r result trail).answer) (remaining_checked f u ∙ e));
      decide_lowers = λ f u. refused_as F (at_greatest ring F) (min allowance max_allowance) f (decided ring order state f allowance) (λ refusal e. ap (λ r. then r judged) (remaining_checked f u ∙ e));
      result_too_short = λ f result trail σ g u t l h. not_held f result trail σ g u t l (and_left (leb (length g) (length result)) (leb (length σ) (length trail)) (lt-leb (length g) (length result) h));
      trail_too_short = λ f result trail σ g u t l h. not_held f result trail σ g u t l (and_right (leb (length g) (length result)) (leb (length σ) (length trail)) (lt-leb (length σ) (length trail) h));
    }

  pub write_refusals : (state : State) (memory : List ℕ) → WriteRefusals ring order state memory
  write_refusals state memory =
      let n : ℕ = length (sheet ring order state.lines) in
      record {
        not_complete = λ l. ap (λ z. z.answer) (cond-false (complete state) (cond (leb n (length memory)) (sheet_left ring order state memory) (too_short ring order memory)) (not_complete ring order memory) (lt-leb (jobs state.lines) state.settled l));
        memory_too_short = λ l h. ap (λ z. z.answer) (
            cond-true (complete state) (cond (leb n (length memory)) (sheet_left ring order state memory) (too_short ring order memory)) (not_complete ring order memory) (le-leb (jobs state.lines) state.settled l)
            ∙ cond-false (leb n (length memory)) (sheet_left ring order state memory) (too_short ring order memory) (lt-leb n (length memory) h));
      }
