-- Sheets: what a workbook writes keeps the rules, and what keeps the rules is strong.
use Rattle.std.proofs.Common.{◌≡◌, ℕ, ◌+◌, ◌*◌, ◌^◌, ◌<◌, ◌≤◌, true, List, [], ◌∷◌, ◌++◌, map, length, take, drop, Ok, sym, ap, ◌∙◌, subst, arith}
use Rattle.std.specs.List.{AllByRecursion}
use Rattle.std.proofs.lemmas.List.{length-append, take_at}
use Rattle.std.proofs.ByRecursion.{All-from_get_or}
use Rattle.std.proofs.lemmas.Bool.{leb-true}
use Rattle.ring.specs.CoefficientRing.{CoefficientRing}
use Rattle.order.specs.TermOrder.{TermOrder}
use Rattle.term.specs.declared.monomial.Monomial.{Monomial}
use Rattle.term.specs.declared.monomial.Step.{Step}
use Rattle.formula.specs.Polynomial.{Packed}
use Rattle.basis.specs.Combination.{Combination}
use Rattle.basis.proofs.Combinations.{combination_through}
use Rattle.layout.specs.Line.{Byte, FitsSheet, Line, PackedStep}
use Rattle.layout.specs.Reading.{decoded, max_lines}
use Rattle.layout.specs.Writing.{kinds_byte}
use Rattle.layout.proofs.Back.{reads_back}
use Rattle.model.specs.Polynomials.{polynomial_of}
use Rattle.model.specs.Workbook.{State, complete, formulas, jobs, relation_of, relations}
use Rattle.model.specs.Calls.{has_head, sheet}
use Rattle.model.specs.Audit.{audited}
use Rattle.model.specs.Rules.{LineKept, LinesKept, SheetKept}
use Rattle.model.specs.Law.{StrongLines, StrongSheet, WrittenSheetsDecode, WrittenSheetsPass}
use Rattle.model.proofs.Outcomes.{false_true}
use Rattle.model.proofs.JobPolynomials.{Entry}
use Rattle.model.proofs.Covers.{plain_polynomials, strong_basis}
use Rattle.model.proofs.Grants.{written_exactly, written_memory}
use Rattle.model.proofs.Growth.{Grown, formulas_push, length_formulas}
use Rattle.model.proofs.Invariant.{AllGrown, Sound}
use Rattle.model.proofs.Uniqueness.{relations_among_lines}
use Rattle.model.proofs.AuditedLines.{KeptAfter, kept_at, kept_by_number}
use Rattle.model.proofs.Audits.{audited_exactly, kept_entries, kept_passes}

some_monomials : (f : List Monomial) → has_head f ≡ true → 1 ≤ length f
some_monomials [] h = false_true h
some_monomials (m ∷ f) h = omega arith

module _ (ring : CoefficientRing) (order : TermOrder) where
  -- steps with factors of 64 bits that name one of at most 64 lines
  packed_steps : (n : ℕ) (steps : List Step) → n ≤ max_lines → AllByRecursion (λ s. s.line < n) steps → AllByRecursion (λ s. s.factor.bits < 2 ^ 64) steps → AllByRecursion PackedStep steps
  packed_steps n [] l h k = tt
  packed_steps n (s ∷ steps) l h k = ((k.0, (let a = h.0 in omega arith)), packed_steps n steps l h.1 k.1)

  line_kept : (F : List (List Monomial)) (line : Line) → length F ≤ max_lines → (line.steps ≡ [] → Packed line.formula) → Grown ring order F line → LineKept ring order F line
  line_kept F line l p g = record {
    fits = record {
      some = some_monomials line.formula g.lawful.not_zero;
      few = g.lawful.formula.not_long;
      short = g.lawful.short;
      packed = g.packed p;
      named = packed_steps (length F) line.steps l g.lawful.earlier g.packed_steps;
    };
    lawful = g.lawful;
  }

  -- the relations of a line and of those after it
  relation_packed : (steps : List Step) (f : List Monomial) (rest : List (List Monomial)) → AllByRecursion Packed (relation_of steps f ++ rest) → (steps ≡ [] → Packed f) × AllByRecursion Packed rest
  relation_packed [] f rest h = ((λ _. h.0), h.1)
  relation_packed (s ∷ steps) f rest h = ((λ e. let z : length (s ∷ steps) ≡ 0 = ap length e in absurd (omega arith)), h)

  kept_after : (before lines : List Line) → length before + length lines ≤ max_lines → AllByRecursion Packed (relations lines) → AllGrown ring order (formulas before) lines → KeptAfter ring order before lines
  kept_after before [] l p g = tt
  kept_after before (line ∷ lines) l p g =
      let w = relation_packed line.steps line.formula (relations lines) p in (
        line_kept (formulas before) line (let e = length_formulas before in omega arith) w.0 g.0,
        kept_after (before ++ line ∷ []) lines (let e = length-append before (line ∷ []) in omega arith) w.1 (subst (λ F. AllGrown ring order F lines) (sym (formulas_push before line)) g.1),
      )

  -- a complete workbook whose relations are numbers of 64 bits keeps the rules of a sheet
  lines_kept : (state : State) → Sound ring order state → complete state ≡ true → AllByRecursion Packed (relations state.lines) → LinesKept ring order state.lines
  lines_kept state s c p = record {
    few = s.within.lines;
    each = kept_at ring order [] state.lines (kept_after [] state.lines (let l = s.within.lines in omega arith) p s.grown);
    every_job = λ j h. (s.settled j (let l = leb-true (jobs state.lines) state.settled c in omega arith)).1;
  }

  all_fit : (lines : List Line) → LinesKept ring order lines → AllByRecursion FitsSheet lines
  all_fit lines k = All-from_get_or FitsSheet lines (record { formula = []; steps = [] }) (λ i l. (k.each i l).fits)

  pub written_sheets_pass : (state : State) → Sound ring order state → AllByRecursion Packed (relations state.lines) → WrittenSheetsPass ring order state
  written_sheets_pass state s p memory n h =
      let w = (written_exactly ring order state memory n).0 h in
      let whole : List ℕ = sheet ring order state.lines in
      ap (λ m. audited ring order (take n m)) (written_memory ring order state memory n h)
      ∙ ap (audited ring order) (take_at whole (drop (length whole) memory) n (sym w.1))
      ∙ kept_passes ring order state.lines (lines_kept state s w.0 p)

  pub written_sheets_decode : (state : State) → Sound ring order state → AllByRecursion Packed (relations state.lines) → WrittenSheetsDecode ring order state
  written_sheets_decode state s p memory n h =
      let w = (written_exactly ring order state memory n).0 h in
      let whole : List ℕ = sheet ring order state.lines in
      let k : LinesKept ring order state.lines = lines_kept state s w.0 p in
      ap (λ m. decoded (take n m)) (written_memory ring order state memory n h)
      ∙ ap decoded (take_at whole (drop (length whole) memory) n (sym w.1))
      ∙ reads_back (kinds_byte ring.kind order.kind) state.lines k.few (all_fit state.lines k)

  -- lines that keep the rules are strong
  kept_strong : (lines : List Line) → LinesKept ring order lines → StrongLines ring order lines
  kept_strong lines k f c t nz =
      let entries : AllByRecursion (Entry ring order) (formulas lines) = kept_entries ring order [] lines (kept_by_number ring order [] lines k.each) in
      let over_lines : Combination ring (map polynomial_of (formulas lines)) f = combination_through ring (map polynomial_of (relations lines)) (map polynomial_of (formulas lines)) (relations_among_lines ring lines) f c in
      strong_basis ring order (formulas lines) entries (λ j h. k.every_job j (subst (λ n. j < n * n) (length_formulas lines) h)) f (subst (λ l. Combination ring l f) (sym (plain_polynomials (formulas lines))) over_lines) t nz

  pub only_strong_sheets_pass : (bytes : List ℕ) → AllByRecursion Byte bytes → audited ring order bytes ≡ Ok tt → StrongSheet ring order bytes
  only_strong_sheets_pass bytes b h =
      let k : SheetKept ring order bytes = (audited_exactly ring order bytes b).0 h in
      record {
        sheet = record { kinds = kinds_byte ring.kind order.kind; lines = k.lines };
        is_read = ap decoded k.written ∙ reads_back (kinds_byte ring.kind order.kind) k.lines k.kept.few (all_fit k.lines k.kept);
        strong = kept_strong k.lines k.kept;
      }
