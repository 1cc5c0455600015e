-- What an audit refuses, in order: the first two bytes, line by line, bytes left over, the jobs.
use Rattle.std.proofs.Common.{◌≡◌, ℕ, zero, suc, ◌+◌, ◌-◌, ◌<◌, ◌≤◌, eqb, leb, List, [], ◌∷◌, ◌++◌, length, is_ok, Some, None, Ok, Err, Option, Result, sym, refl, ap, ◌∙◌, subst, arith}
use Rattle.std.specs.List.{flat_map}
use Rattle.std.proofs.lemmas.List.{append_assoc, append-nil}
use Rattle.std.proofs.lemmas.Bool.{eq-eqb, le-leb, lt-leb, ne_eqb}
use Rattle.refusal.specs.declared.Refusal.{Refusal}
use Rattle.refusal.specs.declared.Refusal.TheVariants.{NotASheet, NotSettled, NotTheSum, OtherKinds, StepOutOfRange}
use Rattle.ring.specs.CoefficientRing.{CoefficientRing}
use Rattle.order.specs.TermOrder.{TermOrder}
use Rattle.term.specs.declared.monomial.Monomial.{Monomial}
use Rattle.formula.specs.Formula.{Formula, checked, provided}
use Rattle.layout.specs.Line.{Line}
use Rattle.layout.specs.Reading.{Read, max_lines, read_line}
use Rattle.layout.specs.Writing.{line_bytes}
use Rattle.layout.proofs.Back.{line_back}
use Rattle.model.specs.Workbook.{formulas, jobs}
use Rattle.model.specs.Reduction.{then}
use Rattle.model.specs.Audit.{are_settled, are_steps, audited, given, is_derived, jobs_checked, line_checked, lines_checked}
use Rattle.model.specs.Rules.{EachKept, Derived}
use Rattle.model.specs.Refusals.{AuditRefusals, LawfulSteps, NextLineRefusals, begun}
use Rattle.model.proofs.Outcomes.{provided_false, provided_true, test_fails}
use Rattle.model.proofs.Growth.{length_formulas}
use Rattle.model.proofs.AuditedLines.{KeptAfter, decides_derived, decides_formula, decides_steps, kept_by_number, line_granted}
use Rattle.model.proofs.AuditedJobs.{decides_jobs}
use Rattle.model.proofs.Audits.{counted, kept_entries, kinds_here, walked}

module _ (ring : CoefficientRing) (order : TermOrder) where
  -- one more line, and the bytes after it
  abbrev next_line : ℕ → List Line → Read Line → Result (List Line) Refusal
  next_line n before r = line_checked ring order (formulas before) r.item (lines_checked ring order n (before ++ r.item ∷ []) r.rest)

  -- lines that keep the rules are passed, and the bytes after them are looked at next
  passed_lines : (before lines : List Line) (rest : List ℕ) (n k : ℕ) → KeptAfter ring order before lines → n ≡ length lines + k
      → lines_checked ring order n before (flat_map line_bytes lines ++ rest) ≡ lines_checked ring order k (before ++ lines) rest
  passed_lines before [] rest n k h e =
      let same : n ≡ k = omega arith in
      ap (λ i. lines_checked ring order i before rest) same ∙ ap (λ b. lines_checked ring order k b rest) (sym (append-nil before))
  passed_lines before (line ∷ lines) rest zero k h e = absurd (omega arith)
  passed_lines before (line ∷ lines) rest (suc n) k h e =
      ap (λ bytes. given (read_line bytes) (next_line n before)) (append_assoc (line_bytes line) (flat_map line_bytes lines) rest)
      ∙ ap (λ o. given o (next_line n before)) (line_back line (flat_map line_bytes lines ++ rest) h.0.fits)
      ∙ line_granted ring order (formulas before) line (lines_checked ring order n (before ++ line ∷ []) (flat_map line_bytes lines ++ rest)) h.0
      ∙ passed_lines (before ++ line ∷ []) lines rest n k h.1 (omega arith)
      ∙ ap (λ b. lines_checked ring order k b rest) (append_assoc before (line ∷ []) lines)

  -- an audit goes on behind lines that keep the rules
  goes_on : (n k : ℕ) (lines : List Line) (rest : List ℕ) → n ≤ 64 → EachKept ring order lines → n ≡ length lines + k
      → audited ring order (begun ring order n lines rest) ≡ then (lines_checked ring order k lines rest) (jobs_checked ring order)
  goes_on n k lines rest l h e =
      let bytes : List ℕ = flat_map line_bytes lines ++ rest in
      provided_true (eqb (kinds_here ring order) (kinds_here ring order)) OtherKinds (counted ring order n bytes) (eq-eqb (kinds_here ring order) (kinds_here ring order) refl)
      ∙ provided_true (leb n max_lines) NotASheet (walked ring order n bytes) (le-leb n max_lines l)
      ∙ ap (λ r. then r (jobs_checked ring order)) (passed_lines [] lines rest n k (kept_by_number ring order [] lines h) e)

  module _ (F : List (List Monomial)) (line : Line) (next : Result (List Line) Refusal) where
    abbrev summing : Result (List Line) Refusal
    summing = provided (is_derived ring order F line.formula line.steps) NotTheSum next

    abbrev stepping : Result (List Line) Refusal
    stepping = provided (are_steps ring (length F) line.steps) StepOutOfRange summing

    not_formula : (Formula ring order line.formula → ⊥) → line_checked ring order F line next ≡ Err NotASheet
    not_formula n = provided_false (is_ok (checked ring order line.formula)) NotASheet stepping (test_fails (is_ok (checked ring order line.formula)) (decides_formula ring order line.formula) n)

    is_formula : Formula ring order line.formula → line_checked ring order F line next ≡ stepping
    is_formula u = provided_true (is_ok (checked ring order line.formula)) NotASheet stepping ((decides_formula ring order line.formula).1 u)

    not_steps : Formula ring order line.formula → (LawfulSteps ring (length F) line.steps → ⊥) → line_checked ring order F line next ≡ Err StepOutOfRange
    not_steps u n = is_formula u ∙ provided_false (are_steps ring (length F) line.steps) StepOutOfRange summing (test_fails (are_steps ring (length F) line.steps) (decides_steps ring (length F) line.steps) n)

    not_sum : Formula ring order line.formula → LawfulSteps ring (length F) line.steps → (Derived ring order F line.formula line.steps → ⊥) → line_checked ring order F line next ≡ Err NotTheSum
    not_sum u s n =
        is_formula u
        ∙ provided_true (are_steps ring (length F) line.steps) StepOutOfRange summing ((decides_steps ring (length F) line.steps).1 s)
        ∙ provided_false (is_derived ring order F line.formula line.steps) NotTheSum next (test_fails (is_derived ring order F line.formula line.steps) (decides_derived ring order F line.formula line.steps) n)

  next_line_refusals : (n : ℕ) (lines : List Line) (rest : List ℕ) → n ≤ 64 → EachKept ring order lines → length lines < n → NextLineRefusals ring order n lines rest
  next_line_refusals n lines rest l h m = record {
    no_line = λ e. on None e;
    no_formula = λ r e w. on (Some r) e ∙ settle (not_formula F r.item (after r) w);
    step_out_of_range = λ r e u w. on (Some r) e ∙ settle (not_steps F r.item (after r) u (λ s. w (subst (λ i. LawfulSteps ring i r.item.steps) (length_formulas lines) s)));
    not_the_sum = λ r e u s w. on (Some r) e ∙ settle (not_sum F r.item (after r) u (subst (λ i. LawfulSteps ring i r.item.steps) (sym (length_formulas lines)) s) w);
  }
    where
      F : List (List Monomial)
      F = formulas lines

      k : ℕ
      k = n - length lines - 1

      after : Read Line → Result (List Line) Refusal
      after r = lines_checked ring order k (lines ++ r.item ∷ []) r.rest

      counts : n ≡ length lines + suc k
      counts = omega arith

      on : (o : Option (Read Line)) → read_line rest ≡ o → audited ring order (begun ring order n lines rest) ≡ then (given o (next_line k lines)) (jobs_checked ring order)
      on o e = goes_on n (suc k) lines rest l h counts ∙ ap (λ o. then (given o (next_line k lines)) (jobs_checked ring order)) e

      settle : {x : Result (List Line) Refusal} {refusal : Refusal} → x ≡ Err refusal → then x (jobs_checked ring order) ≡ Err refusal
      settle e = ap (λ r. then r (jobs_checked ring order)) e

  under_two_bytes : (bytes : List ℕ) → length bytes < 2 → audited ring order bytes ≡ Err NotASheet
  under_two_bytes [] l = refl
  under_two_bytes (kinds ∷ []) l = refl
  under_two_bytes (kinds ∷ n ∷ bytes) l = absurd (omega arith)

  pub audit_refusals : AuditRefusals ring order
  audit_refusals = record {
    under_two_bytes = under_two_bytes;
    other_kinds = λ kinds n bytes w. provided_false (eqb kinds (kinds_here ring order)) OtherKinds (counted ring order n bytes) (ne_eqb kinds (kinds_here ring order) w);
    too_many_lines = λ n bytes l.
        provided_true (eqb (kinds_here ring order) (kinds_here ring order)) OtherKinds (counted ring order n bytes) (eq-eqb (kinds_here ring order) (kinds_here ring order) refl)
        ∙ provided_false (leb n max_lines) NotASheet (walked ring order n bytes) (lt-leb n max_lines l);
    next_line = next_line_refusals;
    bytes_left_over = λ lines b rest l h. goes_on (length lines) 0 lines (b ∷ rest) l h (omega arith);
    job_not_settled = λ lines j l h i w.
        let F : List (List Monomial) = formulas lines in
        goes_on (length lines) 0 lines [] l h (omega arith)
        ∙ provided_false (are_settled ring order F (jobs lines)) NotSettled (Ok tt)
        (test_fails (are_settled ring order F (jobs lines)) (decides_jobs ring order F (kept_entries ring order [] lines (kept_by_number ring order [] lines h)) (jobs lines)) (λ all. w (all j i)));
  }
