-- What settling a job does: no line or one more line, which is the sum of its steps, and the job is settled; more lines keep that.
use Rattle.std.proofs.Common.{◌≡◌, ℕ, ◌-◌, ◌^◌, ◌<◌, true, ◌⊎◌, List, [], ◌∷◌, ◌++◌, map, length, get_or, Some, Ok, sym, ap, ◌∙◌, subst, ap₂, arith}
use Rattle.std.specs.List.{AllByRecursion}
use Rattle.std.proofs.lemmas.List.{length-append, length-map, map-append}
use Rattle.ring.specs.CoefficientRing.{CoefficientRing}
use Rattle.order.specs.TermOrder.{TermOrder}
use Rattle.term.specs.declared.monomial.Monomial.{Monomial}
use Rattle.term.specs.declared.monomial.Step.{Step}
use Rattle.formula.specs.Formula.{Coefficient, Formula, code, term}
use Rattle.formula.specs.Polynomial.{Packed}
use Rattle.basis.specs.Polynomial.{Monomial as PlainMonomial}
use Rattle.basis.specs.Basis.{DividedByLine, DividesMonomial, line_of as nth_line}
use Rattle.basis.specs.Criterion.{gcd_at_lcm}
use Rattle.basis.proofs.Rings.{negative_twice, negative_of_zero, zero_times}
use Rattle.basis.proofs.Codes.{Code, code_ring, same_code}
use Rattle.layout.specs.Line.{Line}
use Rattle.model.specs.Polynomials.{line_of}
use Rattle.model.specs.Workbook.{formulas}
use Rattle.model.specs.Jobs.{Job, a_steps, all_taken, g_steps, numbered_line, polynomial_steps, s_steps}
use Rattle.model.specs.Reduction.{ReducesTo, at_head, fitting, summed}
use Rattle.model.specs.Settling.{job_polynomial}
use Rattle.model.specs.Calls.{has_head}
use Rattle.model.specs.Rules.{Derived, JobKept, LineLawful, Vanishes}
use Rattle.model.specs.Grants.{Roomy}
use Rattle.model.proofs.Outcomes.{false_true, none_some, ok_ok}
use Rattle.model.proofs.Values.{CodedSteps, added_formula, zero_formula}
use Rattle.model.proofs.Searches.{factor_code, fits_at, found}
use Rattle.model.proofs.Traces.{Good, Summed, good_line, same_line, summed_more, summed_sum, trace_more}
use Rattle.model.proofs.JobPolynomials.{Entry, all_of_taken, good_of, job_codes, job_packed}
use Rattle.model.proofs.Covers.{nth_plain}
use Rattle.model.proofs.Numbering.{Inside}

pub formulas_push : (lines : List Line) (line : Line) → formulas (lines ++ line ∷ []) ≡ formulas lines ++ line.formula ∷ []
formulas_push lines line = map-append (λ l. l.formula) lines (line ∷ [])

pub length_formulas : (lines : List Line) → length (formulas lines) ≡ length lines
length_formulas lines = length-map lines (λ l. l.formula)

-- the steps of a job name lines that are there
job_names : (ring : CoefficientRing) (F : List (List Monomial)) (job : Job) → Inside (length F) job → AllByRecursion (λ s. s.line < length F) (polynomial_steps ring F job)
job_names ring F (Job.A k) h = (h, tt)
job_names ring F (Job.G i k) h = ((let a = h.0 in let b = h.1 in omega arith), (h.1, tt))
job_names ring F (Job.S i k) h = ((let a = h.0 in let b = h.1 in omega arith), (h.1, tt))

module _ (ring : CoefficientRing) (order : TermOrder) (F more : List (List Monomial)) where
  pub same_numbered : (k : ℕ) → k < length F → numbered_line ring (F ++ more) k ≡ numbered_line ring F k
  same_numbered k h = ap line_of (same_line ring order F more k h)

  -- a job has the same steps among more lines
  steps_more : (job : Job) → Inside (length F) job → polynomial_steps ring (F ++ more) job ≡ polynomial_steps ring F job
  steps_more (Job.A k) h = ap (λ l. a_steps ring l k) (same_numbered k h)
  steps_more (Job.G i k) h = ap₂ (λ l r. g_steps ring l r i k) (same_numbered i (let a = h.0 in let b = h.1 in omega arith)) (same_numbered k h.1)
  steps_more (Job.S i k) h = ap₂ (λ l r. s_steps ring l r i k) (same_numbered i (let a = h.0 in let b = h.1 in omega arith)) (same_numbered k h.1)

  pub polynomial_more : (job : Job) → Inside (length F) job → job_polynomial ring order (F ++ more) job ≡ job_polynomial ring order F job
  polynomial_more job h =
      ap (λ σ. summed ring order (F ++ more) [] (all_taken σ)) (steps_more job h)
      ∙ summed_more ring order F more [] (all_taken (polynomial_steps ring F job)) (all_of_taken ring (λ s. s.line < length F) (polynomial_steps ring F job) (job_names ring F job h))

  vanishes_more : (job : Job) → Inside (length F) job → Vanishes ring order F job → Vanishes ring order (F ++ more) job
  vanishes_more job h v = record {
    polynomial = v.polynomial;
    built = polynomial_more job h ∙ v.built;
    steps = v.steps;
    to_zero = trace_more ring order F more v.polynomial v.steps v.to_zero;
    few = v.few;
  }

  divided_more : (m : PlainMonomial) → DividedByLine ring (map line_of F) m → DividedByLine ring (map line_of (F ++ more)) m
  divided_more m d =
      let inside : d.line < length F = subst (λ n. d.line < n) (length-map F line_of) d.inside in
      let is : nth_line (map line_of F) d.line ≡ nth_line (map line_of (F ++ more)) d.line = nth_plain F d.line ∙ sym (same_numbered d.line inside) ∙ sym (nth_plain (F ++ more) d.line) in
      record {
        line = d.line;
        inside = subst (λ n. d.line < n) (sym (length-map (F ++ more) line_of)) (let e = length-append F more in omega arith);
        divides = subst (λ l. DividesMonomial ring l.head m) is d.divides;
      }

  -- a job that is settled stays settled
  pub kept_more : (job : Job) → Inside (length F) job → JobKept ring order F job → JobKept ring order (F ++ more) job
  kept_more (Job.A k) h v = vanishes_more (Job.A k) h v
  kept_more (Job.G i k) h d =
      subst (DividedByLine ring (map line_of (F ++ more))) (sym (ap₂ (gcd_at_lcm ring) (same_numbered i (let a = h.0 in let b = h.1 in omega arith)) (same_numbered k h.1)))
      (divided_more (gcd_at_lcm ring (numbered_line ring F i) (numbered_line ring F k)) d)
  kept_more (Job.S i k) h v = vanishes_more (Job.S i k) h v

-- what is asked of a line after the formulas before it; one with steps has numbers of 64 bits
pub record Grown (ring : CoefficientRing) (order : TermOrder) (F : List (List Monomial)) (line : Line) : Type 0 where
  pub lawful : LineLawful ring order F line
  pub packed : (line.steps ≡ [] → Packed line.formula) → Packed line.formula
  pub packed_steps : AllByRecursion (λ s. s.factor.bits < 2 ^ 64) line.steps

-- the lines after a job: the same, or one more that is no relation, and C holds of their formulas
pub record OneMore (ring : CoefficientRing) (order : TermOrder) (lines after : List Line) (C : List (List Monomial) → Type 0) : Type 0 where
  pub line : Line
  pub is : after ≡ lines ++ line ∷ []
  pub room : Roomy lines line
  pub derived : line.steps ≡ [] → ⊥
  pub grown : Grown ring order (formulas lines) line
  pub holds : C (formulas lines ++ line.formula ∷ [])

abbrev pub Outcome : CoefficientRing → TermOrder → List Line → List Line → (List (List Monomial) → Type 0) → Type 0
Outcome ring order lines after C = ((after ≡ lines) × C (formulas lines)) ⊎ OneMore ring order lines after C

-- steps that add up to something are there
pub some_steps : (ring : CoefficientRing) (order : TermOrder) (F : List (List Monomial)) (steps : List Step) (m : Monomial) (f : List Monomial) → summed ring order F [] steps ≡ Ok (m ∷ f) → steps ≡ [] → ⊥
some_steps ring order F [] m f e n = let z : has_head [] ≡ true = ap has_head (ok_ok e) in false_true z
some_steps ring order F (s ∷ steps) m f e n = let z : length (s ∷ steps) ≡ 0 = ap length n in absurd (omega arith)

pub derived_of : (ring : CoefficientRing) (order : TermOrder) (F : List (List Monomial)) (f : List Monomial) (steps : List Step) → summed ring order F [] steps ≡ Ok f → Derived ring order F f steps
derived_of ring order F f [] e = tt
derived_of ring order F f (s ∷ steps) e = e

module _ (ring : CoefficientRing) (order : TermOrder) (F : List (List Monomial)) (entries : AllByRecursion (Entry ring order) F) where
  pub good : Good ring order F
  good = good_of ring order F entries

  -- a step that takes a head away has a coefficient that is not 0
  pub coefficient_at_head : (f : List Monomial) (s : Step) → Formula ring order f → at_head ring F f ≡ Some s → Coefficient ring (code s.factor)
  coefficient_at_head [] s u e = none_some e
  coefficient_at_head (m ∷ f) s u e =
      let w = found (fitting ring ring.quotient (code m) (term m)) 0 F s e in
      let v = fits_at ring ring.quotient (code m) (term m) (get_or F (s.line - 0) []) s.factor w.passed in
      let q : Code ring = (v.q, ring.quotient_below (code m) (code v.head) v.q v.quotient_is) in
      let line : Formula ring order (v.head ∷ v.rest) = subst (Formula ring order) v.is (good_line ring order F good (s.line - 0)) in
      let r : Code ring = (code v.head, line.coefficients.0.1) in
      let is : code s.factor ≡ ring.negative v.q = factor_code ring ring.quotient (code m) (term m) (get_or F (s.line - 0) []) s.factor v in
      let times : ring.product v.q (code v.head) ≡ code m = ring.quotient_times_divisor (code m) (code v.head) v.q u.coefficients.0.1 line.coefficients.0.1 v.quotient_is in
      (positive (code s.factor) (λ z. zero_head q r (sym is ∙ z) times), subst (λ c. c < ring.size) (sym is) (ring.negative_below v.q))
    where
      positive : (c : ℕ) → (c ≡ 0 → ⊥) → 0 < c
      positive c n = omega arith

      absurd_zero : (c : ℕ) → 0 < c → c ≡ 0 → ⊥
      absurd_zero c l e = omega arith

      zero_head : (q r : Code ring) → ring.negative q.0 ≡ 0 → ring.product q.0 r.0 ≡ code m → ⊥
      zero_head q r z p =
          let zero : q ≡ (code_ring ring).zero = sym (negative_twice (code_ring ring) q) ∙ ap (code_ring ring).negative (same_code ring ((code_ring ring).negative q) (code_ring ring).zero z) ∙ negative_of_zero (code_ring ring) in
          absurd_zero (code m) u.coefficients.0.0 (sym p ∙ ap (λ c. c.0) (ap (λ c. (code_ring ring).product c r) zero ∙ zero_times (code_ring ring) r))

  pub coefficients_of_trace : (f : List Monomial) (steps : List Step) (g : List Monomial) → Formula ring order f → ReducesTo ring order F (at_head ring F) f steps g → AllByRecursion (λ s. Coefficient ring (code s.factor)) steps
  coefficients_of_trace f [] g u t = tt
  coefficients_of_trace f (s ∷ steps) g u t =
      let c = coefficient_at_head f s u t.1 in
      (c, coefficients_of_trace t.0 steps g (added_formula ring order f s.factor (get_or F s.line []) t.0 u (good_line ring order F good s.line) c.1 t.2) t.3)

  -- the steps of a job's polynomial, and its value
  abbrev pub start_steps : Job → List Step
  start_steps job = all_taken (polynomial_steps ring F job)

  pub start_codes : (job : Job) → CodedSteps ring (start_steps job)
  start_codes job = all_of_taken ring (λ s. code s.factor < ring.size) (polynomial_steps ring F job) (job_codes ring F job)

  pub start_names : (job : Job) → Inside (length F) job → AllByRecursion (λ s. s.line < length F) (start_steps job)
  start_names job h = all_of_taken ring (λ s. s.line < length F) (polynomial_steps ring F job) (job_names ring F job h)

  pub start_packed : (job : Job) → AllByRecursion (λ s. s.factor.bits < 2 ^ 64) (start_steps job)
  start_packed job = all_of_taken ring (λ s. s.factor.bits < 2 ^ 64) (polynomial_steps ring F job) (job_packed ring F job)

  pub start_sum : (job : Job) (f : List Monomial) → job_polynomial ring order F job ≡ Ok f → Summed ring order F [] (start_steps job) f
  start_sum job f e = summed_sum ring order F good [] (start_steps job) f (zero_formula ring order) (start_codes job) e
