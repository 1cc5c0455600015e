-- Lines all of whose jobs are settled meet the criterion, so they are a strong basis.
use Rattle.std.proofs.Common.{◌≡◌, ℕ, suc, ◌+◌, ◌-◌, ◌*◌, ◌<◌, ◌≤◌, List, [], ◌∷◌, map, length, get_or, Some, sym, refl, ap, ◌∙◌, subst, ap₂, mul-le-mul, arith}
use Rattle.std.proofs.Math.ListN.{get_or-map}
use Rattle.std.specs.List.{AllByRecursion}
use Rattle.std.proofs.lemmas.List.{length-map}
use Rattle.ring.specs.CoefficientRing.{CoefficientRing, Multiple}
use Rattle.order.specs.Term.{Divides, Term, product}
use Rattle.order.specs.TermOrder.{TermOrder}
use Rattle.term.specs.declared.monomial.Monomial.{Monomial}
use Rattle.term.specs.declared.monomial.Step.{Step}
use Rattle.formula.specs.Formula.{Formula, code, term}
use Rattle.basis.specs.Polynomial.{Polynomial}
use Rattle.basis.specs.Combination.{sum_of_steps}
use Rattle.basis.specs.Basis.{DividedByLine, Headed, Line, StrongBasis, line_of as nth_line, polynomials}
use Rattle.basis.specs.Criterion.{Criterion, LowRepresentation, StepBefore, a_polynomial, gcd_at_lcm, head_lcm, s_polynomial}
use Rattle.basis.proofs.Rings.{negative_unique, sum_turns, zero_left}
use Rattle.basis.proofs.Codes.{code_ring}
use Rattle.basis.proofs.Coefficients.{at}
use Rattle.basis.proofs.Criteria.{criterion_makes_basis}
use Rattle.model.specs.Polynomials.{head_of, line_of, polynomial_of, step_of}
use Rattle.model.specs.Jobs.{Job, all_taken, job, numbered_line, polynomial_steps}
use Rattle.model.specs.Reduction.{at_head, covering, fitting}
use Rattle.model.specs.Calls.{trail_of}
use Rattle.model.specs.Rules.{JobKept, Vanishes}
use Rattle.model.proofs.Values.{CodedSteps, at_steps, co, co_zero, worth, zero_formula}
use Rattle.model.proofs.Searches.{fits_at, found}
use Rattle.model.proofs.Traces.{Good, Lawful, Summed, coded_steps, good_line, lawful_at_head, summed_sum, trace_all, trace_summed}
use Rattle.model.proofs.Heads.{Under, trace_before}
use Rattle.model.proofs.JobPolynomials.{Entry, a_under, all_of_taken, good_of, headed_line, job_codes, job_worth, s_under, worth_taken}
use Rattle.model.proofs.Opposites.{opposite_term, worth_trail}
use Rattle.model.proofs.Numbering.{job_a, job_g, job_s}

-- the lines of the theory, one by one
pub nth_plain : (F : List (List Monomial)) (k : ℕ) → nth_line (map line_of F) k ≡ line_of (get_or F k [])
nth_plain F k = get_or-map line_of F k []

pub plain_polynomials : (F : List (List Monomial)) → polynomials (map line_of F) ≡ map polynomial_of F
plain_polynomials [] = refl
plain_polynomials (f ∷ F) = ap (λ z. polynomial_of f ∷ z) (plain_polynomials F)

module _ (ring : CoefficientRing) (order : TermOrder) (F : List (List Monomial)) where
  open code_ring ring use {zero as 𝟎, sum as ◌+◌, negative as −◌}

  infixl 60 ◌+◌
  infix 80 −◌
  -- a line that is found divides the monomial that was searched for
  pub divided_by_found : Good ring order F → (c : ℕ) (t : Term) (s : Step) → c < ring.size → covering ring F c t ≡ Some s → DividedByLine ring (map line_of F) (record { coefficient = c; term = t })
  divided_by_found good c t s h e =
      let w = found (fitting ring ring.quotient c t) 0 F s e in
      let v = fits_at ring ring.quotient c t (get_or F (s.line - 0) []) s.factor w.passed in
      let k : ℕ = s.line - 0 in
      let line : Formula ring order (v.head ∷ v.rest) = subst (Formula ring order) v.is (good_line ring order F good k) in
      let is : nth_line (map line_of F) k ≡ line_of (v.head ∷ v.rest) = nth_plain F k ∙ ap line_of v.is in
      record {
        line = k;
        inside = subst (λ n. k < n) (sym (length-map F line_of)) w.inside;
        divides = record {
          term = subst (λ l. Divides l.head.term t) (sym is) v.divided;
          coefficient = subst (λ l. Multiple ring.size ring.product c l.head.coefficient) (sym is)
              (v.q, ring.quotient_below c (code v.head) v.q v.quotient_is, ring.quotient_times_divisor c (code v.head) v.q h line.coefficients.0.1 v.quotient_is);
        };
      }

  module _ (entries : AllByRecursion (Entry ring order) F) where
    good : Good ring order F
    good = good_of ring order F entries

    -- steps of a trace, with the other sign, lie before X among the lines of the theory
    low_steps : (X : Term) (steps : List Step) → AllByRecursion (Lawful ring F) steps → AllByRecursion (λ s. order.before (product (term s.factor) (head_of (get_or F s.line [])).term) X) steps
        → AllByRecursion (StepBefore ring order (map line_of F) X) (map step_of (trail_of ring steps))
    low_steps X [] h l = tt
    low_steps X (s ∷ steps) h l = (
      record {
        inside = subst (λ n. s.line < n) (sym (length-map F line_of)) h.0.inside;
        before = subst (λ t. order.before t X) (sym (ap₂ (λ u k. product u k.head.term) (opposite_term ring s) (nth_plain F s.line))) l.0;
      },
      low_steps X steps h.1 l.1,
    )

    -- what comes to zero has a low representation
    low_representation : (X : Term) (p : Polynomial) (j : Job) → Vanishes ring order F j → ((x : Term) → at ring p x ≡ worth ring F (polynomial_steps ring F j) x) → Under ring order X (worth ring F (polynomial_steps ring F j))
        → LowRepresentation ring order (map line_of F) X p
    low_representation X p j v is under =
        let f : List Monomial = v.polynomial in
        let w : Summed ring order F [] (all_taken (polynomial_steps ring F j)) f =
        summed_sum ring order F good [] (all_taken (polynomial_steps ring F j)) f (zero_formula ring order) (all_of_taken ring (λ s. code s.factor < ring.size) (polynomial_steps ring F j) (job_codes ring F j)) v.built in
        let value : (x : Term) → co ring f x ≡ worth ring F (polynomial_steps ring F j) x = λ x. w.1 x ∙ zero_left (code_ring ring) (worth ring F (all_taken (polynomial_steps ring F j)) x) ∙ worth_taken ring F (polynomial_steps ring F j) x in
        let trace = v.to_zero in
        let lawful : AllByRecursion (Lawful ring F) v.steps = trace_all ring order F (at_head ring F) (Lawful ring F) (lawful_at_head ring F) f v.steps [] trace in
        let coded : CodedSteps ring v.steps = coded_steps ring F v.steps lawful in
        let z = summed_sum ring order F good f v.steps [] w.0 coded (trace_summed ring order F (at_head ring F) f v.steps [] trace) in
        record {
          steps = map step_of (trail_of ring v.steps);
          low = low_steps X v.steps lawful (trace_before ring order F good X f v.steps [] w.0 (λ x n. value x ∙ under x n) trace);
          same = λ x. ap (λ c. c.0) (is x ∙ sym (value x) ∙ negated x (z.1 x) ∙ sym (worth_trail ring F v.steps x coded) ∙ sym (at_steps ring F (trail_of ring v.steps) x)
              ∙ ap (λ l. at ring (sum_of_steps ring l (map step_of (trail_of ring v.steps))) x) (sym (plain_polynomials F)));
        }
      where
        negated : (x : Term) → co ring [] x ≡ co ring v.polynomial x + worth ring F v.steps x → co ring v.polynomial x ≡ − worth ring F v.steps x
        negated x e = negative_unique (code_ring ring) (worth ring F v.steps x) (co ring v.polynomial x) (sum_turns (code_ring ring) (worth ring F v.steps x) (co ring v.polynomial x) ∙ sym e ∙ co_zero ring x)

    pub meets_criterion : ((k : ℕ) → k < length F → JobKept ring order F (Job.A k)) → ((i k : ℕ) → i < k → k < length F → JobKept ring order F (Job.S i k)) → ((i k : ℕ) → i < k → k < length F → JobKept ring order F (Job.G i k))
        → Criterion ring order (map line_of F)
    meets_criterion a s g = record {
      heads = λ k h. subst (Headed ring order) (sym (nth_plain F k)) (headed_line ring order F entries k (inside k h));
      annihilated = λ k h. subst (λ l. LowRepresentation ring order (map line_of F) l.head.term (a_polynomial ring l)) (sym (nth_plain F k))
          (low_representation (numbered_line ring F k).head.term (a_polynomial ring (numbered_line ring F k)) (Job.A k) (a k (inside k h)) (λ x. sym (job_worth ring F (Job.A k) x)) (a_under ring order F entries k (inside k h)));
      subtracted = λ i k l h. subst₂' i k
          (low_representation (head_lcm (numbered_line ring F i) (numbered_line ring F k)) (s_polynomial ring (numbered_line ring F i) (numbered_line ring F k)) (Job.S i k) (s i k l (inside k h)) (λ x. sym (job_worth ring F (Job.S i k) x))
          (s_under ring order F entries i k (let b = inside k h in omega arith) (inside k h)));
      covered = λ i k l h. subst (λ m. DividedByLine ring (map line_of F) m) (sym (ap₂ (gcd_at_lcm ring) (nth_plain F i) (nth_plain F k))) (g i k l (inside k h));
    }
      where
        inside : (k : ℕ) → k < length (map line_of F) → k < length F
        inside k h = subst (λ n. k < n) (length-map F line_of) h

        subst₂' : (i k : ℕ) → LowRepresentation ring order (map line_of F) (head_lcm (numbered_line ring F i) (numbered_line ring F k)) (s_polynomial ring (numbered_line ring F i) (numbered_line ring F k))
            → LowRepresentation ring order (map line_of F) (head_lcm (nth_line (map line_of F) i) (nth_line (map line_of F) k)) (s_polynomial ring (nth_line (map line_of F) i) (nth_line (map line_of F) k))
        subst₂' i k w = subst (λ (z : Line × Line). LowRepresentation ring order (map line_of F) (head_lcm z.0 z.1) (s_polynomial ring z.0 z.1)) (λ j. (sym (nth_plain F i) j, sym (nth_plain F k) j)) w

module _ (ring : CoefficientRing) (order : TermOrder) (F : List (List Monomial)) (entries : AllByRecursion (Entry ring order) F) where
  -- all jobs settled: a strong basis
  pub strong_basis : ((j : ℕ) → j < length F * length F → JobKept ring order F (job j)) → StrongBasis ring order (map line_of F)
  strong_basis kept = criterion_makes_basis ring order (map line_of F) (meets_criterion ring order F entries
      (λ k h. subst (JobKept ring order F) (job_a k) (kept (k * k) (let s = wide k h in omega arith)))
      (λ i k l h. subst (JobKept ring order F) (job_s i k l) (kept (k * k + suc (suc (2 * i))) (let s = wide k h in omega arith)))
      (λ i k l h. subst (JobKept ring order F) (job_g i k l) (kept (k * k + suc (2 * i)) (let s = wide k h in omega arith))))
    where
      wide : (k : ℕ) → k < length F → suc k * suc k ≤ length F * length F
      wide k h = mul-le-mul h h
