-- The polynomials of jobs: the steps of a job give its A-, G- or S-polynomial, and those of A and S are zero from the top on.
use Rattle.std.proofs.Common.{◌≡◌, ℕ, suc, ◌^◌, ◌<◌, ◌≤◌, Bool, true, false, cond, eqb, List, [], ◌∷◌, ◌++◌, length, get_or, sym, refl, ap, ◌∙◌, subst, ap₂, arith}
use Rattle.std.specs.List.{AllByRecursion}
use Rattle.std.proofs.lemmas.Bool.{eqb-true, eqb-false}
use Rattle.std.proofs.ByRecursion.{All-get_or, All-weaker}
use Rattle.ring.specs.CoefficientRing.{CoefficientRing}
use Rattle.order.specs.Term.{Term, lcm, product, quotient, unit}
use Rattle.order.specs.TermOrder.{TermOrder}
use Rattle.order.proofs.Terms.{product_laws}
use Rattle.term.specs.Packed.{Fits, monomial}
use Rattle.term.specs.declared.monomial.Monomial.{Monomial}
use Rattle.term.specs.declared.monomial.Step.{Step}
use Rattle.formula.specs.Formula.{Coefficient, Formula, code, term}
use Rattle.basis.specs.Polynomial.{Polynomial, scaled}
use Rattle.basis.specs.Basis.{Headed, Line}
use Rattle.basis.specs.Criterion.{a_polynomial, g_polynomial, head_gcd, head_lcm, head_over, s_polynomial, term_over_head}
use Rattle.basis.proofs.Rings.{zero_left, zero_right, zero_times}
use Rattle.basis.proofs.Codes.{code_of, code_of_code, code_ring, same_code, zero_below}
use Rattle.basis.proofs.SixTerms.{lift_left, lift_right, six_terms}
use Rattle.basis.proofs.Shifts.{shifted}
use Rattle.basis.proofs.Coefficients.{at, at_append, at_scaled}
use Rattle.basis.proofs.Quotients.{quotient_is_code}
use Rattle.basis.proofs.CriticalPolynomials.{critical_polynomials}
use Rattle.model.specs.Polynomials.{head_of, line_of, polynomial_of}
use Rattle.model.specs.Jobs.{Job, all_taken, numbered_line, polynomial_steps}
use Rattle.model.specs.Calls.{has_head}
use Rattle.model.proofs.Outcomes.{false_true}
use Rattle.model.proofs.Packings.{code_of_monomial, head_fits, lcm_fits, monomial_packed, quotient_fits, term_of_monomial, unit_fits}
use Rattle.model.proofs.Values.{CodedSteps, co, headed, multiple, worth}
use Rattle.model.proofs.Traces.{Good, good_line}
use Rattle.model.proofs.Heads.{Under, multiple_after, not_before}

module _ (ring : CoefficientRing) where
  open code_ring ring use {zero as 𝟎, sum as ◌+◌, product as ◌*◌}

  infixl 60 ◌+◌
  infixl 70 ◌*◌
  -- steps of coefficient 0 count for nothing
  pub worth_taken : (F : List (List Monomial)) (steps : List Step) (t : Term) → worth ring F (all_taken steps) t ≡ worth ring F steps t
  worth_taken F [] t = refl
  worth_taken F (s ∷ steps) t = by (eqb (code s.factor) 0) refl (worth_taken F steps t)
    where
      nothing : code s.factor ≡ 0 → multiple ring s.factor (get_or F s.line []) t ≡ 𝟎
      nothing e =
          ap (λ c. code_of ring c * shifted (code_ring ring) six_terms (term s.factor) (co ring (get_or F s.line [])) t) e
          ∙ ap (λ c. c * shifted (code_ring ring) six_terms (term s.factor) (co ring (get_or F s.line [])) t) (code_of_code ring 0 (zero_below ring))
          ∙ zero_times (code_ring ring) (shifted (code_ring ring) six_terms (term s.factor) (co ring (get_or F s.line [])) t)

      by : (b : Bool) → eqb (code s.factor) 0 ≡ b → worth ring F (all_taken steps) t ≡ worth ring F steps t → worth ring F (cond b [] (s ∷ []) ++ all_taken steps) t ≡ worth ring F (s ∷ steps) t
      by true e rest =
          rest ∙ sym (ap (λ y. y + worth ring F steps t) (nothing (eqb-true (code s.factor) 0 e)) ∙ zero_left (code_ring ring) (worth ring F steps t))
      by false e rest = ap (λ y. multiple ring s.factor (get_or F s.line []) t + y) rest

  -- what holds of all steps holds of those taken, and those have a coefficient
  pub all_of_taken : (P : Step → Type 0) (steps : List Step) → AllByRecursion P steps → AllByRecursion P (all_taken steps)
  all_of_taken P [] h = tt
  all_of_taken P (s ∷ steps) h = by (eqb (code s.factor) 0) (all_of_taken P steps h.1)
    where
      by : (b : Bool) → AllByRecursion P (all_taken steps) → AllByRecursion P (cond b [] (s ∷ []) ++ all_taken steps)
      by true rest = rest
      by false rest = (h.0, rest)

  pub taken_coefficients : (steps : List Step) → CodedSteps ring steps → AllByRecursion (λ s. Coefficient ring (code s.factor)) (all_taken steps)
  taken_coefficients [] h = tt
  taken_coefficients (s ∷ steps) h = by (eqb (code s.factor) 0) refl (taken_coefficients steps h.1)
    where
      positive : (c : ℕ) → (c ≡ 0 → ⊥) → 0 < c
      positive c n = omega arith

      by : (b : Bool) → eqb (code s.factor) 0 ≡ b → AllByRecursion (λ s. Coefficient ring (code s.factor)) (all_taken steps) → AllByRecursion (λ s. Coefficient ring (code s.factor)) (cond b [] (s ∷ []) ++ all_taken steps)
      by true e rest = rest
      by false e rest = ((positive (code s.factor) (eqb-false (code s.factor) 0 e), h.0), rest)

  pub length_taken : (steps : List Step) → length (all_taken steps) ≤ length steps
  length_taken [] = omega arith
  length_taken (s ∷ steps) = by (eqb (code s.factor) 0) (length_taken steps)
    where
      by : (b : Bool) → length (all_taken steps) ≤ length steps → length (cond b [] (s ∷ []) ++ all_taken steps) ≤ suc (length steps)
      by true h = omega arith
      by false h = omega arith

  -- a packed factor times a formula is the multiple of its polynomial
  pub multiple_of : (t : Term) (c : ℕ) (f : List Monomial) → Fits t → c < ring.size → (x : Term) → multiple ring (monomial t c) f x ≡ at ring (scaled ring c t (polynomial_of f)) x
  multiple_of t c f h l x =
      ap₂ (λ d s. code_of ring d * shifted (code_ring ring) six_terms s (co ring f) x) (code_of_monomial ring t c l) (term_of_monomial ring t c h l) ∙ sym (at_scaled ring c t (polynomial_of f) x)

  pub over_fits : (f g : List Monomial) (k : Line) → Fits (term_over_head (head_lcm (line_of f) (line_of g)) k)
  over_fits f g k = quotient_fits k.head.term (lcm (head_of f).term (head_of g).term) (lcm_fits (head_of f).term (head_of g).term (head_fits f) (head_fits g))

  pub over_below : (g : ℕ) (k : Line) → head_over ring g k < ring.size
  over_below g k = quotient_is_code ring k.head.coefficient g

  -- the polynomial of each job
  abbrev pub job_plain : List (List Monomial) → Job → Polynomial
  job_plain F (Job.A k) = a_polynomial ring (numbered_line ring F k)
  job_plain F (Job.G i k) = g_polynomial ring (numbered_line ring F i) (numbered_line ring F k)
  job_plain F (Job.S i k) = s_polynomial ring (numbered_line ring F i) (numbered_line ring F k)

  worth_two : (F : List (List Monomial)) (s t : Term) (a b : ℕ) (i k : ℕ) → Fits s → Fits t → a < ring.size → b < ring.size → (x : Term)
      → worth ring F (record { factor = monomial s a; line = i } ∷ record { factor = monomial t b; line = k } ∷ []) x ≡ at ring (scaled ring a s (polynomial_of (get_or F i [])) ++ scaled ring b t (polynomial_of (get_or F k []))) x
  worth_two F s t a b i k hs ht ha hb x =
      ap₂ ◌+◌ (multiple_of s a (get_or F i []) hs ha x) (zero_right (code_ring ring) (multiple ring (monomial t b) (get_or F k []) x) ∙ multiple_of t b (get_or F k []) ht hb x)
      ∙ sym (at_append ring (scaled ring a s (polynomial_of (get_or F i []))) (scaled ring b t (polynomial_of (get_or F k []))) x)

  pub job_worth : (F : List (List Monomial)) (job : Job) (x : Term) → worth ring F (polynomial_steps ring F job) x ≡ at ring (job_plain F job) x
  job_worth F (Job.A k) x =
      let r : ℕ = (head_of (get_or F k [])).coefficient in
      zero_right (code_ring ring) (multiple ring (monomial unit (ring.annihilator r)) (get_or F k []) x) ∙ multiple_of unit (ring.annihilator r) (get_or F k []) unit_fits (ring.annihilator_below r) x
  job_worth F (Job.G i k) x =
      let l : Line = line_of (get_or F i []) in
      let r : Line = line_of (get_or F k []) in
      let d = ring.gcd_below l.head.coefficient r.head.coefficient in
      worth_two F (term_over_head (head_lcm l r) l) (term_over_head (head_lcm l r) r) (head_gcd ring l r).u (head_gcd ring l r).v i k
      (over_fits (get_or F i []) (get_or F k []) l) (over_fits (get_or F i []) (get_or F k []) r) d.1 d.2 x
  job_worth F (Job.S i k) x =
      let l : Line = line_of (get_or F i []) in
      let r : Line = line_of (get_or F k []) in
      let g : ℕ = (head_gcd ring l r).g in
      worth_two F (term_over_head (head_lcm l r) l) (term_over_head (head_lcm l r) r) (head_over ring g r) (ring.negative (head_over ring g l)) i k
      (over_fits (get_or F i []) (get_or F k []) l) (over_fits (get_or F i []) (get_or F k []) r) (over_below g r) (ring.negative_below (head_over ring g l)) x

  -- what is asked of a step that is built: a code and a factor of 64 bits
  abbrev Built : Step → Type 0
  Built s = (code s.factor < ring.size) × (s.factor.bits < 2 ^ 64)

  built : (t : Term) (c k : ℕ) → Fits t → c < ring.size → Built (record { factor = monomial t c; line = k })
  built t c k h l = (subst (λ z. z < ring.size) (sym (code_of_monomial ring t c l)) l, monomial_packed ring t c h l)

  job_built : (F : List (List Monomial)) (job : Job) → AllByRecursion Built (polynomial_steps ring F job)
  job_built F (Job.A k) = (built unit (ring.annihilator (head_of (get_or F k [])).coefficient) k unit_fits (ring.annihilator_below (head_of (get_or F k [])).coefficient), tt)
  job_built F (Job.G i k) =
      let l : Line = line_of (get_or F i []) in
      let r : Line = line_of (get_or F k []) in
      let d = ring.gcd_below l.head.coefficient r.head.coefficient in (
        built (term_over_head (head_lcm l r) l) (head_gcd ring l r).u i (over_fits (get_or F i []) (get_or F k []) l) d.1,
        (built (term_over_head (head_lcm l r) r) (head_gcd ring l r).v k (over_fits (get_or F i []) (get_or F k []) r) d.2, tt),
      )
  job_built F (Job.S i k) =
      let l : Line = line_of (get_or F i []) in
      let r : Line = line_of (get_or F k []) in
      let g : ℕ = (head_gcd ring l r).g in (
        built (term_over_head (head_lcm l r) l) (head_over ring g r) i (over_fits (get_or F i []) (get_or F k []) l) (over_below g r),
        (built (term_over_head (head_lcm l r) r) (ring.negative (head_over ring g l)) k (over_fits (get_or F i []) (get_or F k []) r) (ring.negative_below (head_over ring g l)), tt),
      )

  pub job_codes : (F : List (List Monomial)) (job : Job) → CodedSteps ring (polynomial_steps ring F job)
  job_codes F job = All-weaker Built (λ s. code s.factor < ring.size) (λ s h. h.0) (polynomial_steps ring F job) (job_built F job)

  pub job_packed : (F : List (List Monomial)) (job : Job) → AllByRecursion (λ s. s.factor.bits < 2 ^ 64) (polynomial_steps ring F job)
  job_packed F job = All-weaker Built (λ s. s.factor.bits < 2 ^ 64) (λ s h. h.1) (polynomial_steps ring F job) (job_built F job)

  pub job_few : (F : List (List Monomial)) (job : Job) → length (polynomial_steps ring F job) ≤ 2
  job_few F (Job.A k) = omega arith
  job_few F (Job.G i k) = omega arith
  job_few F (Job.S i k) = omega arith

-- a line's formula: lawful and not zero
abbrev pub Entry : CoefficientRing → TermOrder → List Monomial → Type 0
Entry ring order f = Formula ring order f × (has_head f ≡ true)

module _ (ring : CoefficientRing) (order : TermOrder) where
  pub good_of : (F : List (List Monomial)) → AllByRecursion (Entry ring order) F → Good ring order F
  good_of [] h = tt
  good_of (f ∷ F) h = (h.0.0, good_of F h.1)

  pub headed_entry : (f : List Monomial) → Entry ring order f → Headed ring order (line_of f)
  headed_entry [] e = false_true e.1
  headed_entry (m ∷ f) e = headed ring order m f e.0

  module _ (F : List (List Monomial)) (entries : AllByRecursion (Entry ring order) F) where
    pub headed_line : (k : ℕ) → k < length F → Headed ring order (numbered_line ring F k)
    headed_line k h = headed_entry (get_or F k []) (All-get_or (Entry ring order) F k [] h entries)

    pub a_under : (k : ℕ) → k < length F → Under ring order (numbered_line ring F k).head.term (worth ring F (polynomial_steps ring F (Job.A k)))
    a_under k h x n = not_before ring order (numbered_line ring F k).head.term x n
        (λ e. job_worth ring F (Job.A k) x ∙ ap (at ring (a_polynomial ring (numbered_line ring F k))) e ∙ same_code ring _ (code_ring ring).zero ((critical_polynomials ring order).a_cancelled (numbered_line ring F k) (headed_line k h)))
        (λ l. zero_right (code_ring ring) (multiple ring (monomial unit (ring.annihilator r)) (get_or F k []) x) ∙ multiple_after ring order (monomial unit (ring.annihilator r)) (get_or F k []) (good_line ring order F (good_of F entries) k) x
        (subst (λ t. order.before t x) (sym (ap (λ t. product t (head_of (get_or F k [])).term) (term_of_monomial ring unit (ring.annihilator r) unit_fits (ring.annihilator_below r)) ∙ product_laws.with_unit (head_of (get_or F k [])).term)) l))
      where
        r : ℕ
        r = (head_of (get_or F k [])).coefficient

    pub s_under : (i k : ℕ) → i < length F → k < length F → Under ring order (head_lcm (numbered_line ring F i) (numbered_line ring F k)) (worth ring F (polynomial_steps ring F (Job.S i k)))
    s_under i k hi hk x n = not_before ring order T x n
        (λ e. job_worth ring F (Job.S i k) x ∙ ap (at ring (s_polynomial ring l r)) e ∙ same_code ring _ (code_ring ring).zero ((critical_polynomials ring order).s_cancelled l r (headed_line i hi) (headed_line k hk)))
        (λ a. ap₂ (code_ring ring).sum (raised_after (get_or F i []) (head_over ring g r) (over_below ring g r) (good_line ring order F (good_of F entries) i) (lift_left l.head.term r.head.term) a)
        (zero_right (code_ring ring) _ ∙ raised_after (get_or F k []) (ring.negative (head_over ring g l)) (ring.negative_below (head_over ring g l)) (good_line ring order F (good_of F entries) k) (lift_right l.head.term r.head.term) a)
        ∙ zero_right (code_ring ring) (code_ring ring).zero)
      where
        l : Line
        l = numbered_line ring F i

        r : Line
        r = numbered_line ring F k

        g : ℕ
        g = (head_gcd ring l r).g

        T : Term
        T = head_lcm l r

        raised_after : (f : List Monomial) (c : ℕ) → c < ring.size → Formula ring order f → product (head_of f).term (quotient T (head_of f).term) ≡ T → order.before T x
            → multiple ring (monomial (quotient T (head_of f).term) c) f x ≡ (code_ring ring).zero
        raised_after f c h u e a = multiple_after ring order (monomial (quotient T (head_of f).term) c) f u x
            (subst (λ t. order.before t x) (sym (ap (λ t. product t (head_of f).term) (term_of_monomial ring (quotient T (head_of f).term) c (over_fits ring (get_or F i []) (get_or F k []) (line_of f)) h)
            ∙ product_laws.commutes (quotient T (head_of f).term) (head_of f).term ∙ e)) a)
