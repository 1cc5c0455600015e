-- What is refused, with which refusal and in which order, where each call comes to an end, and the limits as numerals.
use Rattle.std.specs.Prelude.{◌≡◌, ℕ, ◌+◌, ◌*◌, ◌<◌, ◌≤◌, min, List, [], ◌∷◌, ◌++◌, length, Some, None, Ok, Err, Option, Result, ◌≢◌, slice_index_or}
use Rattle.std.specs.List.{flat_map, AllByRecursion}
use Rattle.refusal.specs.Number.{number}
use Rattle.refusal.specs.declared.Refusal.{Refusal}
use Rattle.refusal.specs.declared.Refusal.TheVariants.{RingSize, TooManyMonomials, CoefficientOutOfRange, TermsNotFalling, EmptyFormula, LinesFull, TablesFull, ExponentTooLarge, SumTooLong, AllowanceUsed, MemoryTooShort, NotComplete, OtherKinds, NotASheet, StepOutOfRange, NotTheSum, NotSettled}
use Rattle.ring.specs.CoefficientRing.{CoefficientRing}
use Rattle.order.specs.Term.{Divides, level, product}
use Rattle.order.specs.TermOrder.{TermOrder}
use Rattle.term.specs.declared.monomial.Monomial.{Monomial}
use Rattle.term.specs.declared.monomial.Step.{Step}
use Rattle.formula.specs.Formula.{Coefficient, Falling, Formula, code, max_monomials, term}
use Rattle.formula.specs.Sum.{merged, multiplied}
use Rattle.layout.specs.Line.{Line, max_count}
use Rattle.layout.specs.Reading.{Read, max_lines, read_line}
use Rattle.layout.specs.Writing.{kinds_byte, line_bytes}
use Rattle.model.specs.Workbook.{State, all_monomials, all_steps, formulas, table_size}
use Rattle.model.specs.Jobs.{Job, all_taken, job, polynomial_steps}
use Rattle.model.specs.Reduction.{ReducesTo, at_greatest, at_head, reduced, stepped}
use Rattle.model.specs.Settling.{cover, job_polynomial, job_reductions, settled_by}
use Rattle.model.specs.Calls.{decided, max_allowance, next_settled, related, remainder, sheet, written}
use Rattle.model.specs.Audit.{audit_reductions, audited}
use Rattle.model.specs.Rules.{Derived, EachKept, JobKept}
use Rattle.model.specs.Grants.{as_relation, with_relation}

-- a line is put last: first there are fewer than 64 lines, then at most 2048 monomials and 2048 steps of all lines together
pub record EntersInOrder {X : Type 0} (lines : List Line) (line : Line) (outcome : Result X Refusal) (after : X) : Type 0 where
  pub lines_full : 64 ≤ length lines → outcome ≡ Err LinesFull
  pub monomials_full : length lines < 64 → 2048 < all_monomials lines + length line.formula → outcome ≡ Err TablesFull
  pub steps_full : length lines < 64 → 2048 < all_steps lines + length line.steps → outcome ≡ Err TablesFull
  pub enters : length lines < 64 → all_monomials lines + length line.formula ≤ 2048 → all_steps lines + length line.steps ≤ 2048 → outcome ≡ Ok after

-- an outcome is the lines with one more at the end, or what refuses that
abbrev pub PutLast : List Line → Line → Result (List Line) Refusal → Type 0
PutLast lines line outcome = EntersInOrder lines line outcome (lines ++ line ∷ [])

-- each refusal has its number
pub record RefusalsAsNumbered : Type 0 where
  pub ring_size : number RingSize ≡ 1
  pub too_many_monomials : number TooManyMonomials ≡ 2
  pub coefficient_out_of_range : number CoefficientOutOfRange ≡ 3
  pub terms_not_falling : number TermsNotFalling ≡ 4
  pub empty_formula : number EmptyFormula ≡ 5
  pub lines_full : number LinesFull ≡ 6
  pub tables_full : number TablesFull ≡ 7
  pub exponent_too_large : number ExponentTooLarge ≡ 8
  pub sum_too_long : number SumTooLong ≡ 9
  pub allowance_used : number AllowanceUsed ≡ 10
  pub memory_too_short : number MemoryTooShort ≡ 11
  pub not_complete : number NotComplete ≡ 12
  pub other_kinds : number OtherKinds ≡ 13
  pub not_a_sheet : number NotASheet ≡ 14
  pub step_out_of_range : number StepOutOfRange ≡ 15
  pub not_the_sum : number NotTheSum ≡ 16
  pub not_settled : number NotSettled ≡ 17

-- each limit has its number, and so has each refusal
pub record LimitsAsStated : Type 0 where
  pub lines_of_a_workbook : max_lines ≡ 64
  pub monomials_and_steps_of_a_workbook : table_size ≡ 2048
  pub monomials_of_a_formula : max_monomials ≡ 64
  pub monomials_and_steps_of_a_line : max_count ≡ 64
  pub reductions_of_a_job : job_reductions ≡ 62
  pub reductions_of_a_job_in_an_audit : audit_reductions ≡ 63
  pub steps_allowed : max_allowance ≡ 1024
  pub refusal_numbers : RefusalsAsNumbered

module _ (ring : CoefficientRing) where
  -- every code is a coefficient
  abbrev pub Coefficients : List Monomial → Type 0
  Coefficients f = AllByRecursion (λ m. Coefficient ring (code m)) f

  -- every step names one of n lines and has a coefficient
  abbrev pub LawfulSteps : (n : ℕ) → List Step → Type 0
  LawfulSteps n steps = AllByRecursion (λ s. s.line < n) steps × AllByRecursion (λ s. Coefficient ring (code s.factor)) steps

  module _ (order : TermOrder) where
    -- a call checks the whole list for its length, then for coefficients, then for falling terms
    pub record ChecksInOrder {X : Type 0} (call : List Monomial → Result X Refusal) : Type 0 where
      pub too_many_monomials : (f : List Monomial) → 64 < length f → call f ≡ Err TooManyMonomials
      pub coefficient_out_of_range : (f : List Monomial) → length f ≤ 64 → (Coefficients f → ⊥) → call f ≡ Err CoefficientOutOfRange
      pub terms_not_falling : (f : List Monomial) → length f ≤ 64 → Coefficients f → (Falling order f → ⊥) → call f ≡ Err TermsNotFalling

    -- a relate checks its list, then refuses the empty one, then puts the formula last
    pub record RelateRefusals (state : State) : Type 0 where
      pub checks : ChecksInOrder (related ring order state)
      pub empty_formula : related ring order state [] ≡ Err EmptyFormula
      pub entering : (m : Monomial) (f : List Monomial) → Formula ring order (m ∷ f) → EntersInOrder state.lines (as_relation (m ∷ f)) (related ring order state (m ∷ f)) (with_relation state (m ∷ f))

    module _ (F : List (List Monomial)) where
      -- a formula plus a step, were there no limits
      abbrev pub step_sum : (f : List Monomial) → Step → List Monomial
      step_sum f s = merged ring order f (multiplied ring s.factor (slice_index_or F s.line []))

      -- no exponent of a step's products passes 255
      abbrev pub ExponentsFit : Step → Type 0
      ExponentsFit s = AllByRecursion (λ m. Divides (product (term s.factor) (term m)) (level 255)) (slice_index_or F s.line [])

      -- a step is refused for its exponents, then for a sum of more than 64 monomials, and else is that sum
      pub record StepRefusals (f : List Monomial) (s : Step) : Type 0 where
        pub exponent_too_large : (ExponentsFit s → ⊥) → stepped ring order F f s ≡ Err ExponentTooLarge
        pub sum_too_long : ExponentsFit s → 64 < length (step_sum f s) → stepped ring order F f s ≡ Err SumTooLong
        pub adds : ExponentsFit s → length (step_sum f s) ≤ 64 → stepped ring order F f s ≡ Ok (step_sum f s)

      -- f comes to h by steps, each the one that is chosen; whether one is chosen at h is left open
      abbrev pub StepsTo : (choose : List Monomial → Option Step) → (f : List Monomial) → List Step → (h : List Monomial) → Type 0
      StepsTo choose f [] h = f ≡ h
      StepsTo choose f (s ∷ steps) h = (g : List Monomial) × (choose f ≡ Some s) × (stepped ring order F f s ≡ Ok g) × StepsTo choose g steps h

      -- a reduction of f by at most n steps is refused where one more is chosen, or before that where a step is refused
      pub record RefusedOnTheWay {X : Type 0} (choose : List Monomial → Option Step) (n : ℕ) (f : List Monomial) (outcome : Result X Refusal) : Type 0 where
        pub allowance_used : (σ : List Step) (h : List Monomial) (s : Step) → StepsTo choose f σ h → choose h ≡ Some s → length σ ≡ n → outcome ≡ Err AllowanceUsed
        pub step_refused : (σ : List Step) (h : List Monomial) (s : Step) (refusal : Refusal) → StepsTo choose f σ h → choose h ≡ Some s → length σ < n → stepped ring order F h s ≡ Err refusal → outcome ≡ Err refusal

    -- every reduction is refused so
    abbrev pub ReductionRefusals : (F : List (List Monomial)) → (choose : List Monomial → Option Step) → (n : ℕ) → Type 0
    ReductionRefusals F choose n = (f : List Monomial) → RefusedOnTheWay F choose n f (reduced ring order F choose n f)

    -- a remainder and a decision check their list, then lower it by at most 1024 steps, and then a remainder wants memory
    pub record RemainderRefusals (state : State) (allowance : ℕ) : Type 0 where
      pub remainder_checks : (result : List Monomial) (trail : List Step) → ChecksInOrder (λ f. (remainder ring order state f allowance result trail).answer)
      pub decide_checks : ChecksInOrder (λ f. decided ring order state f allowance)
      pub remainder_lowers : (f result : List Monomial) (trail : List Step) → Formula ring order f
          → RefusedOnTheWay (formulas state.lines) (at_greatest ring (formulas state.lines)) (min allowance 1024) f (remainder ring order state f allowance result trail).answer
      pub decide_lowers : (f : List Monomial) → Formula ring order f
          → RefusedOnTheWay (formulas state.lines) (at_greatest ring (formulas state.lines)) (min allowance 1024) f (decided ring order state f allowance)
      pub result_too_short : (f result : List Monomial) (trail : List Step) (σ : List Step) (g : List Monomial) → Formula ring order f
          → ReducesTo ring order (formulas state.lines) (at_greatest ring (formulas state.lines)) f σ g → length σ ≤ min allowance 1024
          → length result < length g → (remainder ring order state f allowance result trail).answer ≡ Err MemoryTooShort
      pub trail_too_short : (f result : List Monomial) (trail : List Step) (σ : List Step) (g : List Monomial) → Formula ring order f
          → ReducesTo ring order (formulas state.lines) (at_greatest ring (formulas state.lines)) f σ g → length σ ≤ min allowance 1024
          → length trail < length σ → (remainder ring order state f allowance result trail).answer ≡ Err MemoryTooShort

    -- what a job that reduces comes to: its polynomial may be refused, then one of up to 62 reductions, then the line that is left
    pub record ReducingOutcomes (lines : List Line) (job : Job) (outcome : Result (List Line) Refusal) : Type 0 where
      pub polynomial_refused : (refusal : Refusal) → job_polynomial ring order (formulas lines) job ≡ Err refusal → outcome ≡ Err refusal
      pub reduces : (f : List Monomial) → job_polynomial ring order (formulas lines) job ≡ Ok f → RefusedOnTheWay (formulas lines) (at_head ring (formulas lines)) 62 f outcome
      pub comes_to_zero : (f : List Monomial) (σ : List Step) → job_polynomial ring order (formulas lines) job ≡ Ok f
          → ReducesTo ring order (formulas lines) (at_head ring (formulas lines)) f σ [] → length σ ≤ 62 → outcome ≡ Ok lines
      pub leaves_a_line : (f : List Monomial) (σ : List Step) (m : Monomial) (g : List Monomial) → job_polynomial ring order (formulas lines) job ≡ Ok f
          → ReducesTo ring order (formulas lines) (at_head ring (formulas lines)) f σ (m ∷ g) → length σ ≤ 62
          → PutLast lines (record { formula = m ∷ g; steps = all_taken (polynomial_steps ring (formulas lines) job) ++ σ }) outcome

    -- what each job comes to; a G-job that no line covers enters its polynomial as it is
    pub record JobOutcomes (lines : List Line) : Type 0 where
      pub a_job : (k : ℕ) → ReducingOutcomes lines (Job.A k) (settled_by ring order lines (Job.A k))
      pub s_job : (i k : ℕ) → ReducingOutcomes lines (Job.S i k) (settled_by ring order lines (Job.S i k))
      pub g_job_covered : (i k : ℕ) (s : Step) → cover ring order (formulas lines) i k ≡ Some s → settled_by ring order lines (Job.G i k) ≡ Ok lines
      pub g_polynomial_refused : (i k : ℕ) (refusal : Refusal) → cover ring order (formulas lines) i k ≡ None → job_polynomial ring order (formulas lines) (Job.G i k) ≡ Err refusal
          → settled_by ring order lines (Job.G i k) ≡ Err refusal
      pub g_job_enters : (i k : ℕ) (f : List Monomial) → cover ring order (formulas lines) i k ≡ None → job_polynomial ring order (formulas lines) (Job.G i k) ≡ Ok f
          → PutLast lines (record { formula = f; steps = all_taken (polynomial_steps ring (formulas lines) (Job.G i k)) }) (settled_by ring order lines (Job.G i k))

    -- the next job of a workbook is the one whose number is the count of the settled ones
    pub record NextJobOutcomes (state : State) : Type 0 where
      pub next_refused : (refusal : Refusal) → settled_by ring order state.lines (job state.settled) ≡ Err refusal → next_settled ring order state ≡ Err refusal
      pub next_granted : (lines : List Line) → settled_by ring order state.lines (job state.settled) ≡ Ok lines → next_settled ring order state ≡ Ok (record { lines = lines; settled = state.settled + 1 })

    -- a write wants all jobs of L lines settled, which are L², and then memory
    pub record WriteRefusals (state : State) (memory : List ℕ) : Type 0 where
      pub not_complete : state.settled < length state.lines * length state.lines → (written ring order state memory).answer ≡ Err NotComplete
      pub memory_too_short : length state.lines * length state.lines ≤ state.settled → length memory < length (sheet ring order state.lines) → (written ring order state memory).answer ≡ Err MemoryTooShort

    -- bytes of the right kinds that count n lines and begin with these
    abbrev pub begun : (n : ℕ) → List Line → (rest : List ℕ) → List ℕ
    begun n lines rest = kinds_byte ring.kind order.kind ∷ n ∷ (flat_map line_bytes lines ++ rest)

    -- what is refused at the line after some that keep the rules, whatever follows it: bytes that are no line, then a line that
    -- is no formula, then steps, then another sum
    pub record NextLineRefusals (n : ℕ) (lines : List Line) (rest : List ℕ) : Type 0 where
      pub no_line : read_line rest ≡ None → audited ring order (begun n lines rest) ≡ Err NotASheet
      pub no_formula : (r : Read Line) → read_line rest ≡ Some r → (Formula ring order r.item.formula → ⊥) → audited ring order (begun n lines rest) ≡ Err NotASheet
      pub step_out_of_range : (r : Read Line) → read_line rest ≡ Some r → Formula ring order r.item.formula
          → (LawfulSteps (length lines) r.item.steps → ⊥) → audited ring order (begun n lines rest) ≡ Err StepOutOfRange
      pub not_the_sum : (r : Read Line) → read_line rest ≡ Some r → Formula ring order r.item.formula → LawfulSteps (length lines) r.item.steps
          → (Derived ring order (formulas lines) r.item.formula r.item.steps → ⊥) → audited ring order (begun n lines rest) ≡ Err NotTheSum

    -- the refusals of an audit: the first two bytes, then line by line, then bytes left over, then the jobs
    pub record AuditRefusals : Type 0 where
      pub under_two_bytes : (bytes : List ℕ) → length bytes < 2 → audited ring order bytes ≡ Err NotASheet
      pub other_kinds : (kinds n : ℕ) (bytes : List ℕ) → (kinds ≢ kinds_byte ring.kind order.kind) → audited ring order (kinds ∷ n ∷ bytes) ≡ Err OtherKinds
      pub too_many_lines : (n : ℕ) (bytes : List ℕ) → 64 < n → audited ring order (kinds_byte ring.kind order.kind ∷ n ∷ bytes) ≡ Err NotASheet
      pub next_line : (n : ℕ) (lines : List Line) (rest : List ℕ) → n ≤ 64 → EachKept ring order lines → length lines < n → NextLineRefusals n lines rest
      pub bytes_left_over : (lines : List Line) (b : ℕ) (rest : List ℕ) → length lines ≤ 64 → EachKept ring order lines → audited ring order (begun (length lines) lines (b ∷ rest)) ≡ Err NotASheet
      pub job_not_settled : (lines : List Line) (j : ℕ) → length lines ≤ 64 → EachKept ring order lines → j < length lines * length lines → (JobKept ring order (formulas lines) (job j) → ⊥)
          → audited ring order (begun (length lines) lines []) ≡ Err NotSettled

    -- what is refused by every call, for every workbook, and by the audit
    pub record RefusedInOrder : Type 0 where
      pub relates : (state : State) → RelateRefusals state
      pub steps : (F : List (List Monomial)) (f : List Monomial) (s : Step) → StepRefusals F f s
      pub reductions : (F : List (List Monomial)) (choose : List Monomial → Option Step) (n : ℕ) → ReductionRefusals F choose n
      pub remainders : (state : State) (allowance : ℕ) → RemainderRefusals state allowance
      pub each_job : (lines : List Line) → JobOutcomes lines
      pub next_job : (state : State) → NextJobOutcomes state
      pub writes : (state : State) (memory : List ℕ) → WriteRefusals state memory
      pub audits : AuditRefusals
