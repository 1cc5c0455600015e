-- The audit passes exactly the sheets that keep the rules.
use Rattle.std.proofs.Common.{◌≡◌, ℕ, ◌≤◌, eqb, leb, ◌↔◌, List, [], ◌∷◌, ◌++◌, length, Ok, Result, sym, refl, ap, ◌∙◌, subst, ap₂}
use Rattle.std.specs.List.{flat_map, AllByRecursion}
use Rattle.std.proofs.lemmas.Bool.{eq-eqb, eqb-true, le-leb, leb-true}
use Rattle.refusal.specs.declared.Refusal.{Refusal}
use Rattle.refusal.specs.declared.Refusal.TheVariants.{NotASheet, NotSettled, OtherKinds}
use Rattle.ring.specs.CoefficientRing.{CoefficientRing}
use Rattle.order.specs.TermOrder.{TermOrder}
use Rattle.formula.specs.Formula.{provided}
use Rattle.layout.specs.Line.{Byte, Line}
use Rattle.layout.specs.Reading.{max_lines}
use Rattle.layout.specs.Writing.{kinds_byte, line_bytes}
use Rattle.model.specs.Workbook.{formulas, jobs}
use Rattle.model.specs.Reduction.{then}
use Rattle.model.specs.Calls.{sheet}
use Rattle.model.specs.Audit.{are_settled, audited, jobs_checked, lines_checked}
use Rattle.model.specs.Rules.{LinesKept, SheetKept}
use Rattle.model.proofs.Outcomes.{err_ok, granted, passed, provided_true, then_first}
use Rattle.model.proofs.JobPolynomials.{Entry}
use Rattle.model.proofs.AuditedLines.{KeptAfter, LinesWritten, kept_at, kept_by_number, lines_granted, lines_kept}
use Rattle.model.proofs.AuditedJobs.{decides_jobs}

module _ (ring : CoefficientRing) (order : TermOrder) where
  -- lines that keep the rules are formulas that are not zero
  pub kept_entries : (before lines : List Line) → KeptAfter ring order before lines → AllByRecursion (Entry ring order) (formulas lines)
  kept_entries before [] k = tt
  kept_entries before (line ∷ lines) k = ((k.0.lawful.formula, k.0.lawful.not_zero), kept_entries (before ++ line ∷ []) lines k.1)

  abbrev pub kinds_here : ℕ
  kinds_here = kinds_byte ring.kind order.kind

  -- the checks after the kinds
  abbrev pub walked : ℕ → List ℕ → Result (Unit {0}) Refusal
  walked n bytes = then (lines_checked ring order n [] bytes) (jobs_checked ring order)

  abbrev pub counted : ℕ → List ℕ → Result (Unit {0}) Refusal
  counted n bytes = provided (leb n max_lines) NotASheet (walked n bytes)

  passes_kept : (bytes : List ℕ) → AllByRecursion Byte bytes → audited ring order bytes ≡ Ok tt → SheetKept ring order bytes
  passes_kept [] b h = err_ok h
  passes_kept (kinds ∷ []) b h = err_ok h
  passes_kept (kinds ∷ n ∷ bytes) b h =
      let h₁ : counted n bytes ≡ Ok tt = granted (eqb kinds kinds_here) OtherKinds (counted n bytes) tt h in
      let h₂ : walked n bytes ≡ Ok tt = granted (leb n max_lines) NotASheet (walked n bytes) tt h₁ in
      let few : n ≤ max_lines = leb-true n max_lines (passed (leb n max_lines) NotASheet (walked n bytes) tt h₁) in
      let same : kinds ≡ kinds_here = eqb-true kinds kinds_here (passed (eqb kinds kinds_here) OtherKinds (counted n bytes) tt h) in
      let (lines, read, settled) = then_first (lines_checked ring order n [] bytes) (jobs_checked ring order) tt h₂ in
      let w : LinesWritten ring order n [] bytes lines = lines_kept ring order n [] bytes lines b.1.1 read in
      let settled' : jobs_checked ring order w.more ≡ Ok tt = ap (jobs_checked ring order) (sym w.all) ∙ settled in
      record {
        lines = w.more;
        written = ap₂ (λ k i. k ∷ i ∷ bytes) same (sym w.number) ∙ ap (λ xs. kinds_here ∷ length w.more ∷ xs) w.spelt;
        kept = record {
          few = subst (λ i. i ≤ max_lines) (sym w.number) few;
          each = kept_at ring order [] w.more w.kept;
          every_job = (decides_jobs ring order (formulas w.more) (kept_entries [] w.more w.kept) (jobs w.more)).0 (passed (are_settled ring order (formulas w.more) (jobs w.more)) NotSettled (Ok tt) tt settled');
        };
      }

  pub kept_passes : (lines : List Line) → LinesKept ring order lines → audited ring order (sheet ring order lines) ≡ Ok tt
  kept_passes lines k =
      let kept : KeptAfter ring order [] lines = kept_by_number ring order [] lines k.each in
      let bytes : List ℕ = flat_map line_bytes lines in
      provided_true (eqb kinds_here kinds_here) OtherKinds (counted (length lines) bytes) (eq-eqb kinds_here kinds_here refl)
      ∙ provided_true (leb (length lines) max_lines) NotASheet (walked (length lines) bytes) (le-leb (length lines) max_lines k.few)
      ∙ ap (λ r. then r (jobs_checked ring order)) (lines_granted ring order [] lines kept)
      ∙ provided_true (are_settled ring order (formulas lines) (jobs lines)) NotSettled (Ok tt) ((decides_jobs ring order (formulas lines) (kept_entries [] lines kept) (jobs lines)).1 k.every_job)

-- bytes pass the audit exactly when they are the sheet of lines that keep the rules
pub audited_exactly : (ring : CoefficientRing) (order : TermOrder) (bytes : List ℕ) → AllByRecursion Byte bytes → (audited ring order bytes ≡ Ok tt) ↔ SheetKept ring order bytes
audited_exactly ring order bytes b = (passes_kept ring order bytes b, λ k. ap (audited ring order) k.written ∙ kept_passes ring order k.lines k.kept)
