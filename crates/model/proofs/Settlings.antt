-- The outcome of each job: its line, if it enters one, and that the job is settled then.
use Rattle.std.proofs.Common.{◌≡◌, ℕ, ◌^◌, ◌<◌, ◌≤◌, List, [], ◌∷◌, ◌++◌, map, length, get_or, Some, None, Ok, Option, sym, refl, ap, ◌∙◌, subst, ap₂, inl, inr, arith}
use Rattle.std.specs.List.{AllByRecursion}
use Rattle.std.proofs.lemmas.List.{get_or_push, length-append, length-map}
use Rattle.std.proofs.ByRecursion.{All-append, All-get_or}
use Rattle.ring.specs.CoefficientRing.{CoefficientRing}
use Rattle.order.specs.Term.{Divides, Term}
use Rattle.order.specs.TermOrder.{TermOrder}
use Rattle.order.proofs.Terms.{lcm_laws}
use Rattle.term.specs.declared.monomial.Monomial.{Monomial}
use Rattle.term.specs.declared.monomial.Step.{Step}
use Rattle.formula.specs.Formula.{Coefficient, Formula, code, term}
use Rattle.basis.specs.Polynomial.{Monomial as PlainMonomial}
use Rattle.basis.specs.Basis.{DividedByLine, DividesMonomial, Head, Line as PlainLine, line_of as nth_line}
use Rattle.basis.specs.Criterion.{gcd_at_lcm}
use Rattle.basis.proofs.Rings.{one_times, zero_left, zero_times}
use Rattle.basis.proofs.Codes.{code_ring, zero_below}
use Rattle.basis.proofs.Coefficients.{at}
use Rattle.basis.proofs.CriticalPolynomials.{critical_polynomials}
use Rattle.basis.proofs.Heads.{head_unique}
use Rattle.layout.specs.Line.{Line, max_count}
use Rattle.model.specs.Polynomials.{head_of, line_of, polynomial_of}
use Rattle.model.specs.Workbook.{entered, formulas}
use Rattle.model.specs.Jobs.{Job, all_taken, numbered_line, polynomial_steps}
use Rattle.model.specs.Reduction.{ReducesTo, Reduction, at_head, fitting, reduced, summed}
use Rattle.model.specs.Settling.{by_reduction, cover, job_polynomial, job_reduced, job_reductions, left_entered, settled_by, unless_covered}
use Rattle.model.specs.Rules.{JobKept, Vanishes}
use Rattle.model.proofs.Outcomes.{false_true, ok_ok, then_first}
use Rattle.model.proofs.Values.{CodedSteps, co, co_zero, headed, worth, zero_formula}
use Rattle.model.proofs.Searches.{no_fit, none_found}
use Rattle.model.proofs.Traces.{Lawful, Traced, coded_steps, inside_steps, lawful_at_head, packed_steps, summed_append, summed_packed, summed_sum, trace_all, trace_of, trace_summed}
use Rattle.model.proofs.Selves.{self, trace_self}
use Rattle.model.proofs.JobPolynomials.{Entry, headed_line, job_few, job_plain, job_worth, length_taken, taken_coefficients, job_codes, worth_taken}
use Rattle.model.proofs.Covers.{divided_by_found, nth_plain}
use Rattle.model.proofs.Numbering.{Inside}
use Rattle.model.proofs.Grants.{entered_exactly}
use Rattle.model.proofs.Growth.{Grown, Outcome, coefficients_of_trace, derived_of, good, polynomial_more, same_numbered, some_steps, start_codes, start_names, start_packed, start_steps, start_sum}

module _ (ring : CoefficientRing) (order : TermOrder) (lines after : List Line) (entries : AllByRecursion (Entry ring order) (formulas lines)) where
  abbrev F : List (List Monomial)
  F = formulas lines

  -- a line that is the sum of steps is grown
  grown_line : (steps : List Step) (m : Monomial) (f : List Monomial) → Formula ring order (m ∷ f) → length steps ≤ max_count → AllByRecursion (λ s. s.line < length (formulas lines)) steps → AllByRecursion (λ s. Coefficient ring (code s.factor)) steps
      → AllByRecursion (λ s. s.factor.bits < 2 ^ 64) steps → CodedSteps ring steps → summed ring order (formulas lines) [] steps ≡ Ok (m ∷ f) → Grown ring order (formulas lines) (record { formula = m ∷ f; steps = steps })
  grown_line steps m f u short earlier coefficients packed coded e = record {
    lawful = record { formula = u; not_zero = refl; short = short; earlier = earlier; coefficients = coefficients; sum = derived_of ring order F (m ∷ f) steps e };
    packed = λ _. summed_packed ring order F (good ring order F entries) [] steps (m ∷ f) (zero_formula ring order) tt coded e;
    packed_steps = packed;
  }

  module _ (job : Job) (inside : Inside (length (formulas lines)) job) (f : List Monomial) (built : job_polynomial ring order (formulas lines) job ≡ Ok f) (r : Reduction) (traced : Traced ring order (formulas lines) (at_head ring (formulas lines)) job_reductions f r) where
    abbrev steps : List Step
    steps = start_steps ring order (formulas lines) entries job ++ r.steps

    formula : Formula ring order f
    formula = (start_sum ring order F entries job f built).0

    left : (g : List Monomial) → r.formula ≡ g → left_entered lines (start_steps ring order (formulas lines) entries job ++ r.steps) g ≡ Ok after → Outcome ring order lines after (λ G. Vanishes ring order G job)
    left [] z e = inl (
      sym (ok_ok e),
      record {
        polynomial = f;
        built = built;
        steps = r.steps;
        to_zero = subst (ReducesTo ring order F (at_head ring F) f r.steps) z traced.0;
        few = (let a = traced.1 in omega arith);
      },
    )
    left (m ∷ g) z e =
        let trace : ReducesTo ring order F (at_head ring F) f r.steps (m ∷ g) = subst (ReducesTo ring order F (at_head ring F) f r.steps) z traced.0 in
        let lawful : AllByRecursion (Lawful ring F) r.steps = trace_all ring order F (at_head ring F) (Lawful ring F) (lawful_at_head ring F) f r.steps (m ∷ g) trace in
        let coded : CodedSteps ring r.steps = coded_steps ring F r.steps lawful in
        let more : summed ring order F f r.steps ≡ Ok (m ∷ g) = trace_summed ring order F (at_head ring F) f r.steps (m ∷ g) trace in
        let law : Formula ring order (m ∷ g) = (summed_sum ring order F (good ring order F entries) f r.steps (m ∷ g) formula coded more).0 in
        let all : summed ring order F [] steps ≡ Ok (m ∷ g) = summed_append ring order F [] f (m ∷ g) (start_steps ring order F entries job) r.steps built more in
        inr (record {
          line = record { formula = m ∷ g; steps = steps };
          is = ((entered_exactly lines (record { formula = m ∷ g; steps = steps }) after).0 e).1;
          room = ((entered_exactly lines (record { formula = m ∷ g; steps = steps }) after).0 e).0;
          derived = some_steps ring order F steps m g all;
          grown = grown_line steps m g law
              (let a = traced.1 in let b = length_taken ring (polynomial_steps ring F job) in let c = job_few ring F job in let d = length-append (start_steps ring order F entries job) r.steps in omega arith)
              (All-append (λ s. s.line < length F) (start_steps ring order F entries job) r.steps (start_names ring order F entries job inside) (inside_steps ring F r.steps lawful))
              (All-append (λ s. Coefficient ring (code s.factor)) (start_steps ring order F entries job) r.steps (taken_coefficients ring (polynomial_steps ring F job) (job_codes ring F job)) (coefficients_of_trace ring order F entries f r.steps (m ∷ g) formula trace))
              (All-append (λ s. s.factor.bits < 2 ^ 64) (start_steps ring order F entries job) r.steps (start_packed ring order F entries job) (packed_steps ring F r.steps lawful))
              (All-append (λ s. code s.factor < ring.size) (start_steps ring order F entries job) r.steps (start_codes ring order F entries job) coded) all;
          holds = record {
            polynomial = f;
            built = polynomial_more ring order F ((m ∷ g) ∷ []) job inside ∙ built;
            steps = r.steps ++ self ring order F m g ∷ [];
            to_zero = trace_self ring order F m g law f r.steps trace;
            few = (let a = traced.1 in let b = length-append r.steps (self ring order F m g ∷ []) in omega arith);
          };
        })

  pub by_reduction_outcome : (job : Job) → Inside (length (formulas lines)) job → by_reduction ring order lines job ≡ Ok after → Outcome ring order lines after (λ G. Vanishes ring order G job)
  by_reduction_outcome job inside e =
      let (r, k, rest) = then_first (job_reduced ring order F job_reductions job) (λ r. left_entered lines (all_taken (polynomial_steps ring F job) ++ r.steps) r.formula) after e in
      let (f, built, red) = then_first (job_polynomial ring order F job) (λ f. reduced ring order F (at_head ring F) job_reductions f) r k in
      left job inside f built r (trace_of ring order F (at_head ring F) job_reductions f r red) r.formula refl rest

  module _ (i k : ℕ) (ik : i < k) (kn : k < length (formulas lines)) where
    abbrev l : PlainLine
    l = numbered_line ring (formulas lines) i

    abbrev r : PlainLine
    r = numbered_line ring (formulas lines) k

    abbrev goal : PlainMonomial
    goal = gcd_at_lcm ring (numbered_line ring (formulas lines) i) (numbered_line ring (formulas lines) k)

    iin : i < length (formulas lines)
    iin = omega arith

    -- a gcd that no line covers is not zero: zero is covered by the first of the two lines
    not_covered : cover ring order (formulas lines) i k ≡ None → goal.coefficient ≡ 0 → ⊥
    not_covered n z = by (get_or F i []) refl (All-get_or (Entry ring order) F i [] iin entries)
      where
        none : fitting ring ring.quotient goal.coefficient goal.term (get_or F i []) ≡ None
        none = All-get_or (λ f. fitting ring ring.quotient goal.coefficient goal.term f ≡ None) F i [] iin (none_found (fitting ring ring.quotient goal.coefficient goal.term) 0 F n)

        by : (f : List Monomial) → get_or F i [] ≡ f → Entry ring order f → ⊥
        by [] e h = false_true h.1
        by (m ∷ f) e h =
            let c : code m < ring.size = h.0.coefficients.0.1 in
            let divides : Divides (term m) goal.term = subst (λ t. Divides t goal.term) (ap (λ f. (head_of f).term) e) (lcm_laws.left_divides (head_of (get_or F i [])).term (head_of (get_or F k [])).term) in
            let no : ring.quotient goal.coefficient (code m) ≡ None = no_fit ring ring.quotient goal.coefficient goal.term m f (ap (fitting ring ring.quotient goal.coefficient goal.term) (sym e) ∙ none) divides in
            ring.quotient_none_without_multiple 0 (code m) (zero_below ring) c (ap (λ g. ring.quotient g (code m)) (sym z) ∙ no)
            (0, zero_below ring, ap (λ c. c.0) (zero_times (code_ring ring) (code m, c)))

    -- the head of a G-polynomial that is not covered is g·T
    g_head : (f : List Monomial) → job_polynomial ring order (formulas lines) (Job.G i k) ≡ Ok f → (goal.coefficient ≡ 0 → ⊥) → Head ring order (polynomial_of f) goal
    g_head f e n =
        let w = start_sum ring order F entries (Job.G i k) f e in
        let value : (x : Term) → co ring f x ≡ at ring (job_plain ring F (Job.G i k)) x =
        λ x. w.1 x ∙ ap (λ c. (code_ring ring).sum c (worth ring F (start_steps ring order F entries (Job.G i k)) x)) (co_zero ring x) ∙ zero_left (code_ring ring) (worth ring F (start_steps ring order F entries (Job.G i k)) x)
        ∙ worth_taken ring F (polynomial_steps ring F (Job.G i k)) x ∙ job_worth ring F (Job.G i k) x in
        let c = critical_polynomials ring order in
        record {
          there = ap (λ c. c.0) (value goal.term) ∙ c.g_there l r (headed_line ring order F entries i iin) (headed_line ring order F entries k kn);
          not_zero = n;
          none_after = λ t a. ap (λ c. c.0) (value t) ∙ c.g_none_after l r (headed_line ring order F entries i iin) (headed_line ring order F entries k kn) t a;
        }

    -- a new line whose head is the goal covers it
    covers_itself : (m : Monomial) (f : List Monomial) → Formula ring order (m ∷ f) → Head ring order (polynomial_of (m ∷ f)) goal → DividedByLine ring (map line_of (formulas lines ++ (m ∷ f) ∷ [])) goal
    covers_itself m f u h =
        let same : head_of (m ∷ f) ≡ goal = head_unique ring order (polynomial_of (m ∷ f)) (head_of (m ∷ f)) goal (headed ring order m f u) h in
        let is : (nth_line (map line_of (F ++ (m ∷ f) ∷ [])) (length F)).head ≡ goal = ap (λ l. l.head) (nth_plain (F ++ (m ∷ f) ∷ []) (length F)) ∙ ap head_of (get_or_push F (m ∷ f) [] (length F) refl) ∙ same in
        let below : goal.coefficient < ring.size = (ring.gcd_below l.head.coefficient r.head.coefficient).0 in
        record {
          line = length F;
          inside = subst (λ n. length F < n) (sym (length-map (F ++ (m ∷ f) ∷ []) line_of)) (let e = length-append F ((m ∷ f) ∷ []) in omega arith);
          divides = subst (λ h. DividesMonomial ring h goal) (sym is) (record { term = omega arith; coefficient = (ring.one, ring.one_below, ap (λ c. c.0) (one_times (code_ring ring) (goal.coefficient, below))) });
        }

    same_goal : (more : List (List Monomial)) → gcd_at_lcm ring (numbered_line ring (formulas lines ++ more) i) (numbered_line ring (formulas lines ++ more) k) ≡ goal
    same_goal more = ap₂ (gcd_at_lcm ring) (same_numbered ring order F more i iin) (same_numbered ring order F more k kn)

    entered_g : (f : List Monomial) → job_polynomial ring order (formulas lines) (Job.G i k) ≡ Ok f → (goal.coefficient ≡ 0 → ⊥) → entered lines (record { formula = f; steps = start_steps ring order (formulas lines) entries (Job.G i k) }) ≡ Ok after
        → Outcome ring order lines after (λ G. JobKept ring order G (Job.G i k))
    entered_g [] e n h = absurd (n (sym (g_head [] e n).there ∙ ap (λ c. c.0) (co_zero ring goal.term)))
    entered_g (m ∷ f) e n h =
        let steps : List Step = start_steps ring order F entries (Job.G i k) in
        let u : Formula ring order (m ∷ f) = (start_sum ring order F entries (Job.G i k) (m ∷ f) e).0 in
        inr (record {
          line = record { formula = m ∷ f; steps = steps };
          is = ((entered_exactly lines (record { formula = m ∷ f; steps = steps }) after).0 h).1;
          room = ((entered_exactly lines (record { formula = m ∷ f; steps = steps }) after).0 h).0;
          derived = some_steps ring order F steps m f e;
          grown = grown_line steps m f u (let b = length_taken ring (polynomial_steps ring F (Job.G i k)) in omega arith) (start_names ring order F entries (Job.G i k) (ik, kn)) (taken_coefficients ring (polynomial_steps ring F (Job.G i k)) (job_codes ring F (Job.G i k)))
              (start_packed ring order F entries (Job.G i k)) (start_codes ring order F entries (Job.G i k)) e;
          holds = subst (DividedByLine ring (map line_of (F ++ (m ∷ f) ∷ []))) (sym (same_goal ((m ∷ f) ∷ []))) (covers_itself m f u (g_head (m ∷ f) e n));
        })

    pub by_cover_outcome : settled_by ring order lines (Job.G i k) ≡ Ok after → Outcome ring order lines after (λ G. JobKept ring order G (Job.G i k))
    by_cover_outcome h = by (cover ring order F i k) refl h
      where
        by : (o : Option Step) → cover ring order F i k ≡ o → unless_covered ring order o lines (Job.G i k) ≡ Ok after → Outcome ring order lines after (λ G. JobKept ring order G (Job.G i k))
        by (Some s) c h = inl (sym (ok_ok h), divided_by_found ring order F (good ring order F entries) goal.coefficient goal.term s (ring.gcd_below l.head.coefficient r.head.coefficient).0 c)
        by None c h =
            let (f, e, rest) = then_first (job_polynomial ring order F (Job.G i k)) (λ f. entered lines (record { formula = f; steps = all_taken (polynomial_steps ring F (Job.G i k)) })) after h in
            entered_g f e (not_covered c) rest

  -- each job is settled by what it does
  pub settled_outcome : (job : Job) → Inside (length (formulas lines)) job → settled_by ring order lines job ≡ Ok after → Outcome ring order lines after (λ G. JobKept ring order G job)
  settled_outcome (Job.A k) h e = by_reduction_outcome (Job.A k) h e
  settled_outcome (Job.G i k) h e = by_cover_outcome i k h.0 h.1 e
  settled_outcome (Job.S i k) h e = by_reduction_outcome (Job.S i k) h e
