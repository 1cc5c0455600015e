-- The law over all lists of calls, and what the audit passes.
use Rattle.std.specs.Prelude.{◌≡◌, ℕ, ◌<◌, true, ◌↔◌, List, [], ◌++◌, map, length, take, Some, Ok, ◌≢◌, slice_index_or}
use Rattle.std.specs.List.{AllByRecursion}
use Rattle.ring.specs.CoefficientRing.{CoefficientRing}
use Rattle.order.specs.Term.{Term}
use Rattle.order.specs.TermOrder.{TermOrder}
use Rattle.term.specs.declared.monomial.Monomial.{Monomial}
use Rattle.term.specs.declared.monomial.Step.{Step}
use Rattle.formula.specs.Polynomial.{Packed}
use Rattle.basis.specs.Polynomial.{Polynomial, Same, coefficient, difference}
use Rattle.basis.specs.Combination.{Combination, sum_of_steps}
use Rattle.basis.specs.Basis.{HeadDivided}
use Rattle.layout.specs.Line.{Byte, Line}
use Rattle.layout.specs.Reading.{Sheet, decoded}
use Rattle.layout.specs.Writing.{kinds_byte}
use Rattle.model.specs.Polynomials.{line_of, polynomial_of, step_of}
use Rattle.model.specs.Workbook.{State, complete, formulas, relations}
use Rattle.model.specs.Calls.{decided, remainder, written}
use Rattle.model.specs.Runs.{Call, run}
use Rattle.model.specs.Spelling.{spelled_lines}
use Rattle.model.specs.Audit.{audited}
use Rattle.model.specs.Rules.{SheetKept}
use Rattle.model.specs.declared.answers.Judgement.{Judgement}
use Rattle.model.specs.declared.answers.Remainder.{Remainder}
use Rattle.model.specs.declared.answers.Verdict.TheVariants.{In, Out}

-- the polynomials of formulas
abbrev pub polynomials_of : List (List Monomial) → List Polynomial
polynomials_of F = map polynomial_of F

module _ (ring : CoefficientRing) (order : TermOrder) where
  -- a formula's remainder as a polynomial: what the call left at the start of the memory for the result
  abbrev pub result_of : State → (f : List Monomial) → (allowance : ℕ) → (result : List Monomial) → (trail : List Step) → Remainder → Polynomial
  result_of state f allowance result trail r = polynomial_of (take r.length (remainder ring order state f allowance result trail).result)

  -- in a complete workbook two formulas that get remainders get the same one exactly when their difference is a combination of the relations
  abbrev pub SameExactlyOnCombinations : State → (granted : List (List Monomial)) → Type 0
  SameExactlyOnCombinations state granted =
      complete state ≡ true
      → (f g : List Monomial) (allowance allowance' : ℕ) (result result' : List Monomial) (trail trail' : List Step) (r r' : Remainder)
      → (remainder ring order state f allowance result trail).answer ≡ Ok r → (remainder ring order state g allowance' result' trail').answer ≡ Ok r'
      → Same ring (result_of state f allowance result trail r) (result_of state g allowance' result' trail' r') ↔ Combination ring (polynomials_of granted) (difference ring (polynomial_of f) (polynomial_of g))

  -- the relation lines are the relations granted, in order, and each line is the combination of them that its pedigree spells out
  pub record LinesSpellRelations (state : State) (granted : List (List Monomial)) : Type 0 where
    pub relations_in_order : relations state.lines ≡ granted
    pub lines_as_spelled : (k : ℕ) → k < length state.lines → Same ring (polynomial_of (slice_index_or (formulas state.lines) k [])) (sum_of_steps ring (polynomials_of granted) (slice_index_or (spelled_lines ring state.lines) k []))

  -- every sheet that the workbook writes passes the audit
  abbrev pub WrittenSheetsPass : State → Type 0
  WrittenSheetsPass state = (memory : List ℕ) (n : ℕ) → (written ring order state memory).answer ≡ Ok n → audited ring order (take n (written ring order state memory).memory) ≡ Ok tt

  -- and it decodes to the lines and pedigrees that it came from
  abbrev pub WrittenSheetsDecode : State → Type 0
  WrittenSheetsDecode state =
      (memory : List ℕ) (n : ℕ) → (written ring order state memory).answer ≡ Ok n
      → decoded (take n (written ring order state memory).memory) ≡ Some (record { kinds = kinds_byte ring.kind order.kind; lines = state.lines })

  -- a formula is the sum of its remainder and the trail's steps over the lines
  abbrev pub ResultPlusTrail : State → Type 0
  ResultPlusTrail state =
      (f : List Monomial) (allowance : ℕ) (result : List Monomial) (trail : List Step) (r : Remainder) → (remainder ring order state f allowance result trail).answer ≡ Ok r
      → Same ring (polynomial_of f) (result_of state f allowance result trail r ++ sum_of_steps ring (polynomials_of (formulas state.lines)) (map step_of (take r.steps (remainder ring order state f allowance result trail).trail)))

  -- in is answered only for combinations of the relations, and out for none
  pub record DecisionsHold (state : State) (granted : List (List Monomial)) : Type 0 where
    pub in_is_a_combination : (f : List Monomial) (allowance : ℕ) (j : Judgement) → decided ring order state f allowance ≡ Ok j → j.verdict ≡ In → Combination ring (polynomials_of granted) (polynomial_of f)
    pub out_is_none : (f : List Monomial) (allowance : ℕ) (j : Judgement) → decided ring order state f allowance ≡ Ok j → j.verdict ≡ Out → Combination ring (polynomials_of granted) (polynomial_of f) → ⊥

  -- the law of a workbook after a list of calls, with the relations granted to it
  pub record RunLaw (calls : List Call) : Type 0 where
    pub same_exactly_on_combinations : SameExactlyOnCombinations (run ring order calls).state (run ring order calls).relations
    pub lines_spell_relations : LinesSpellRelations (run ring order calls).state (run ring order calls).relations
    -- a sheet holds numbers of 64 bits, so the relations are to be such
    pub written_sheets_pass : AllByRecursion Packed (run ring order calls).relations → WrittenSheetsPass (run ring order calls).state
    pub written_sheets_decode : AllByRecursion Packed (run ring order calls).relations → WrittenSheetsDecode (run ring order calls).state
    pub result_plus_trail : ResultPlusTrail (run ring order calls).state
    pub decisions_hold : DecisionsHold (run ring order calls).state (run ring order calls).relations

  -- each combination of the relations among some lines that is not zero has a head that some line's head divides
  abbrev pub StrongLines : List Line → Type 0
  StrongLines lines =
      (f : Polynomial) → Combination ring (polynomials_of (relations lines)) f
      → (t : Term) → (coefficient ring f t ≢ 0) → HeadDivided ring order (map line_of (formulas lines)) f

  -- bytes are a sheet of strong lines
  pub record StrongSheet (bytes : List ℕ) : Type 0 where
    pub sheet : Sheet
    pub is_read : decoded bytes ≡ Some sheet
    pub strong : StrongLines sheet.lines

  -- the audit passes exactly the sheets that keep the rules
  abbrev pub PassesExactlyWhatKeepsTheRules : Type 0
  PassesExactlyWhatKeepsTheRules = (bytes : List ℕ) → AllByRecursion Byte bytes → (audited ring order bytes ≡ Ok tt) ↔ SheetKept ring order bytes

  -- the law over all lists of calls and over all bytes
  pub record Law : Type 0 where
    -- what holds after each list of calls
    pub every_run : (calls : List Call) → RunLaw calls
    -- whatever its bytes, a sheet passes only if it is strong
    pub only_strong_sheets_pass : (bytes : List ℕ) → AllByRecursion Byte bytes → audited ring order bytes ≡ Ok tt → StrongSheet bytes
    -- a workbook for which this is not so is the state of no list of calls
    pub no_other_state : (state : State) (granted : List (List Monomial)) → (SameExactlyOnCombinations state granted × LinesSpellRelations state granted → ⊥)
        → (calls : List Call) → (run ring order calls).state ≡ state → (run ring order calls).relations ≢ granted
