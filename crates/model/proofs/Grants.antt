-- A relate and a write are granted exactly where their checks pass, and what they leave then and else.
use Rattle.std.proofs.Common.{◌≡◌, ℕ, ◌≤◌, Bool, true, false, cond, ltb, leb, ◌↔◌, List, [], ◌∷◌, ◌++◌, length, Ok, Err, Result, sym, refl, ap, ◌∙◌}
use Rattle.std.proofs.lemmas.Bool.{cond-true, le-leb, leb-true, lt-ltb, ltb-true}
use Rattle.refusal.specs.declared.Refusal.{Refusal}
use Rattle.refusal.specs.declared.Refusal.TheVariants.{EmptyFormula, LinesFull, MemoryTooShort, NotComplete, TablesFull}
use Rattle.ring.specs.CoefficientRing.{CoefficientRing}
use Rattle.order.specs.TermOrder.{TermOrder}
use Rattle.term.specs.declared.monomial.Monomial.{Monomial}
use Rattle.formula.specs.Formula.{checked, provided}
use Rattle.formula.proofs.Checking.{checked_exactly_formulas}
use Rattle.layout.specs.Line.{Line}
use Rattle.layout.specs.Reading.{max_lines}
use Rattle.model.specs.Workbook.{State, complete, entered, has_room}
use Rattle.model.specs.Reduction.{then}
use Rattle.model.specs.Calls.{SheetLeft, has_head, related, sheet, written, written_over}
use Rattle.model.specs.Grants.{Relatable, Roomy, as_relation, sheet_left, with_relation}
use Rattle.model.proofs.Outcomes.{err_ok, granted, ok_ok, passed, provided_true, then_first}

pub entered_exactly : (lines : List Line) (line : Line) (after : List Line) → (entered lines line ≡ Ok after) ↔ (Roomy lines line × (after ≡ lines ++ line ∷ []))
entered_exactly lines line after = (parts, whole)
  where
    room : Result (List Line) Refusal
    room = provided (has_room lines line) TablesFull (Ok (lines ++ line ∷ []))

    parts : entered lines line ≡ Ok after → Roomy lines line × (after ≡ lines ++ line ∷ [])
    parts h =
        let k : room ≡ Ok after = granted (ltb (length lines) max_lines) LinesFull room after h in (
          (ltb-true (length lines) max_lines (passed (ltb (length lines) max_lines) LinesFull room after h), passed (has_room lines line) TablesFull (Ok (lines ++ line ∷ [])) after k),
          sym (ok_ok (granted (has_room lines line) TablesFull (Ok (lines ++ line ∷ [])) after k)),
        )

    whole : Roomy lines line × (after ≡ lines ++ line ∷ []) → entered lines line ≡ Ok after
    whole h =
        provided_true (ltb (length lines) max_lines) LinesFull room (lt-ltb (length lines) max_lines h.0.0)
        ∙ provided_true (has_room lines line) TablesFull (Ok (lines ++ line ∷ [])) h.0.1
        ∙ ap Ok (sym h.1)

module _ (ring : CoefficientRing) (order : TermOrder) where
  abbrev pub with_lines : State → List Line → Result State Refusal
  with_lines state lines = Ok (record { lines = lines; settled = state.settled })

  abbrev pub entering : State → List Monomial → Result State Refusal
  entering state f = then (entered state.lines (as_relation f)) (with_lines state)

  pub relate_granted : (state : State) (f : List Monomial) → Relatable ring order state f → related ring order state f ≡ Ok (with_relation state f)
  relate_granted state f h =
      ap (λ r. then r (λ _. provided (has_head f) EmptyFormula (entering state f))) ((checked_exactly_formulas ring order f).1 h.0)
      ∙ provided_true (has_head f) EmptyFormula (entering state f) h.1
      ∙ ap (λ r. then r (with_lines state)) ((entered_exactly state.lines (as_relation f) (state.lines ++ as_relation f ∷ [])).1 (h.2, refl))

  pub relate_checks : (state : State) (f : List Monomial) (s : State) → related ring order state f ≡ Ok s → Relatable ring order state f × (s ≡ with_relation state f)
  relate_checks state f s h =
      let (u, c, rest) = then_first (checked ring order f) (λ _. provided (has_head f) EmptyFormula (entering state f)) s h in
      let (lines, e, last) = then_first (entered state.lines (as_relation f)) (with_lines state) s (granted (has_head f) EmptyFormula (entering state f) s rest) in
      let w = (entered_exactly state.lines (as_relation f) lines).0 e in (
        ((checked_exactly_formulas ring order f).0 c, passed (has_head f) EmptyFormula (entering state f) s rest, w.0),
        sym (ok_ok last) ∙ ap (λ lines. record { lines = lines; settled = state.settled }) w.1,
      )

  -- what a write asks
  abbrev pub Writable : State → List ℕ → Type 0
  Writable state memory = (complete state ≡ true) × (length (sheet ring order state.lines) ≤ length memory)

  abbrev pub too_short : List ℕ → SheetLeft
  too_short memory = record { answer = Err MemoryTooShort; memory = memory }

  abbrev pub not_complete : List ℕ → SheetLeft
  not_complete memory = record { answer = Err NotComplete; memory = memory }

  pub write_granted : (state : State) (memory : List ℕ) → Writable state memory → written ring order state memory ≡ sheet_left ring order state memory
  write_granted state memory h =
      let n : ℕ = length (sheet ring order state.lines) in
      cond-true (complete state) (cond (leb n (length memory)) (sheet_left ring order state memory) (too_short memory)) (not_complete memory) h.0
      ∙ cond-true (leb n (length memory)) (sheet_left ring order state memory) (too_short memory) (le-leb n (length memory) h.1)

  pub write_checks : (state : State) (memory : List ℕ) (n : ℕ) → (written ring order state memory).answer ≡ Ok n → Writable state memory
  write_checks state memory n h = by (complete state) (leb (length (sheet ring order state.lines)) (length memory)) refl refl h
    where
      by : (b c : Bool) → complete state ≡ b → leb (length (sheet ring order state.lines)) (length memory) ≡ c
          → (cond b (cond c (sheet_left ring order state memory) (too_short memory)) (not_complete memory)).answer ≡ Ok n → Writable state memory
      by true true e l h = (e, leb-true (length (sheet ring order state.lines)) (length memory) l)
      by true false e l h = err_ok h
      by false c e l h = err_ok h

  -- a sheet is written exactly when the workbook is complete and memory is long enough
  pub written_exactly : (state : State) (memory : List ℕ) (n : ℕ) → ((written ring order state memory).answer ≡ Ok n) ↔ ((complete state ≡ true) × (n ≡ length (sheet ring order state.lines)) × (length (sheet ring order state.lines) ≤ length memory))
  written_exactly state memory n = (
    (λ h. let w = write_checks state memory n h in (w.0, ok_ok (sym h ∙ ap (λ z. z.answer) (write_granted state memory w)), w.1)),
    λ h. ap (λ z. z.answer) (write_granted state memory (h.0, h.2)) ∙ ap Ok (sym h.1),
  )

  pub written_memory : (state : State) (memory : List ℕ) (n : ℕ) → (written ring order state memory).answer ≡ Ok n → (written ring order state memory).memory ≡ written_over (sheet ring order state.lines) memory
  written_memory state memory n h = ap (λ z. z.memory) (write_granted state memory (write_checks state memory n h))

  pub unwritten_memory : (state : State) (memory : List ℕ) (refusal : Refusal) → (written ring order state memory).answer ≡ Err refusal → (written ring order state memory).memory ≡ memory
  unwritten_memory state memory refusal h = by (complete state) (leb (length (sheet ring order state.lines)) (length memory)) h
    where
      by : (b c : Bool) → (cond b (cond c (sheet_left ring order state memory) (too_short memory)) (not_complete memory)).answer ≡ Err refusal → (cond b (cond c (sheet_left ring order state memory) (too_short memory)) (not_complete memory)).memory ≡ memory
      by true true h = err_ok (sym h)
      by true false h = refl
      by false c h = refl
