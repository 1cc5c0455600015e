-- The coefficients of formulas and of sums of packed steps, as elements of the ring of codes.
use Rattle.std.proofs.Common.{◌≡◌, ℕ, ◌<◌, true, false, List, [], ◌∷◌, ◌++◌, map, get_or, Ok, sym, refl, ap, ◌∙◌, ap₂, arith}
use Rattle.std.proofs.Math.ListN.{get_or-map}
use Rattle.std.proofs.ByRecursion.{All-weaker}
use Rattle.std.proofs.lemmas.Bool.{cond-true, cond-false}
use Rattle.std.specs.List.{AllByRecursion}
use Rattle.ring.specs.CoefficientRing.{CoefficientRing}
use Rattle.order.specs.Term.{Term, divides, product}
use Rattle.order.specs.TermOrder.{TermOrder}
use Rattle.order.proofs.Terms.{division_laws}
use Rattle.term.specs.declared.monomial.Monomial.{Monomial}
use Rattle.term.specs.declared.monomial.Step.{Step}
use Rattle.formula.specs.Formula.{Coefficient, Formula, code, term}
use Rattle.formula.specs.Polynomial.{coefficient as packed_coefficient, multiple_coefficient, same}
use Rattle.formula.specs.Sum.{added}
use Rattle.formula.proofs.Adding.{addition_law}
use Rattle.formula.proofs.Polynomials.{formula_laws, refuted}
use Rattle.basis.specs.Polynomial.{coefficient}
use Rattle.basis.specs.Combination.{numbered, sum_of_steps}
use Rattle.basis.specs.Basis.{Headed}
use Rattle.basis.proofs.Rings.{sum_nests, times_zero, zero_left}
use Rattle.basis.proofs.Codes.{Code, code_of, code_of_code, code_ring, same_code}
use Rattle.basis.proofs.SixTerms.{six_terms}
use Rattle.basis.proofs.Shifts.{by_division, shifted, shifted_at_product, shifted_elsewhere}
use Rattle.basis.proofs.Coefficients.{at, at_append, at_scaled, coefficient_below, share_of_code}
use Rattle.model.specs.Polynomials.{line_of, monomial_of, polynomial_of, step_of}

module _ (ring : CoefficientRing) where
  open code_ring ring use {zero as 𝟎, sum as ◌+◌, negative as −◌, product as ◌*◌}

  infixl 60 ◌+◌
  infixl 70 ◌*◌
  infix 80 −◌
  -- the coefficient of a formula at a term
  abbrev pub co : List Monomial → Term → Code ring
  co f t = at ring (polynomial_of f) t

  -- the coefficient of a monomial times a formula
  abbrev pub multiple : Monomial → List Monomial → Term → Code ring
  multiple s f t = code_of ring (code s) * shifted (code_ring ring) six_terms (term s) (co f) t

  -- the coefficient of a sum of steps over formulas
  abbrev pub worth : List (List Monomial) → List Step → Term → Code ring
  worth F [] t = 𝟎
  worth F (s ∷ steps) t = multiple s.factor (get_or F s.line []) t + worth F steps t

  abbrev pub Codes : List Monomial → Type 0
  Codes f = AllByRecursion (λ m. code m < ring.size) f

  -- codes of steps
  abbrev pub CodedSteps : List Step → Type 0
  CodedSteps steps = AllByRecursion (λ s. code s.factor < ring.size) steps

  pub co_is : (f : List Monomial) → Codes f → (t : Term) → coefficient ring (polynomial_of f) t ≡ packed_coefficient ring f t
  unfolding same
  co_is [] h t = refl
  co_is (m ∷ f) h t = ap₂ ring.sum (share_of_code ring (monomial_of m) h.0 t) (co_is f h.1 t)

  pub co_zero : (t : Term) → co [] t ≡ 𝟎
  unfolding coefficient_below
  co_zero t = refl

  divides_product : (s y : Term) → divides s (product s y) ≡ true
  divides_product s y = (division_laws.decided s (product s y)).1 ((division_laws.exactly_multiples s (product s y)).1 (y, refl))

  not_divides : (s x : Term) → ¬ ((y : Term) × (product s y ≡ x)) → divides s x ≡ false
  not_divides s x n = refuted (divides s x) (division_laws.decided s x) (λ d. n ((division_laws.exactly_multiples s x).0 d))

  pub multiple_is : (s : Monomial) (f : List Monomial) → code s < ring.size → Codes f → (t : Term) → (multiple s f t).0 ≡ multiple_coefficient ring s f t
  multiple_is s f c h = by_division (code_ring ring) six_terms (λ t. (multiple s f t).0 ≡ multiple_coefficient ring s f t) (term s)
      (λ y. ap (λ z. z.0) (ap₂ ◌*◌ (code_of_code ring (code s) c) (shifted_at_product (code_ring ring) six_terms (term s) (co f) y)) ∙ ap (ring.product (code s)) (co_is f h y)
      ∙ sym (cond-true (divides (term s) (product (term s) y)) _ 0 (divides_product (term s) y) ∙ ap (λ z. ring.product (code s) (packed_coefficient ring f z)) (division_laws.of_product (term s) y)))
      (λ x n. ap (λ z. z.0) (ap₂ ◌*◌ (code_of_code ring (code s) c) (shifted_elsewhere (code_ring ring) six_terms (term s) (co f) x n)) ∙ product_with_zero (code s) c
      ∙ sym (cond-false (divides (term s) x) _ 0 (not_divides (term s) x n)))
    where
      product_with_zero : (a : ℕ) → a < ring.size → ring.product a 0 ≡ 0
      product_with_zero a h = ap (λ z. z.0) (times_zero (code_ring ring) (a, h))

  pub numbered_polynomial : (F : List (List Monomial)) (k : ℕ) → numbered (map polynomial_of F) k ≡ polynomial_of (get_or F k [])
  numbered_polynomial F k = get_or-map polynomial_of F k []

  -- a sum of packed steps is the sum of the steps that they stand for
  pub at_steps : (F : List (List Monomial)) (steps : List Step) (t : Term) → at ring (sum_of_steps ring (map polynomial_of F) (map step_of steps)) t ≡ worth F steps t
  unfolding coefficient_below
  at_steps F [] t = refl
  at_steps F (s ∷ steps) t =
      at_append ring _ (sum_of_steps ring (map polynomial_of F) (map step_of steps)) t
      ∙ ap₂ ◌+◌ (at_scaled ring (code s.factor) (term s.factor) (numbered (map polynomial_of F) s.line) t
      ∙ ap (λ f. code_of ring (code s.factor) * shifted (code_ring ring) six_terms (term s.factor) (at ring f) t) (numbered_polynomial F s.line)) (at_steps F steps t)

  pub worth_append : (F : List (List Monomial)) (σ τ : List Step) (t : Term) → worth F (σ ++ τ) t ≡ worth F σ t + worth F τ t
  worth_append F [] τ t = sym (zero_left (code_ring ring) (worth F τ t))
  worth_append F (s ∷ σ) τ t = ap (λ y. multiple s.factor (get_or F s.line []) t + y) (worth_append F σ τ t) ∙ sym (sum_nests (code_ring ring) (multiple s.factor (get_or F s.line []) t) (worth F σ t) (worth F τ t))

  module _ (order : TermOrder) where
    pub codes_of : (f : List Monomial) → Formula ring order f → Codes f
    codes_of f h = All-weaker (λ m. Coefficient ring (code m)) (λ m. code m < ring.size) (λ m c. c.1) f h.coefficients

    pub zero_formula : Formula ring order []
    zero_formula = record { not_long = omega arith; coefficients = tt; falling_terms = tt }

    -- a granted sum is a formula with the coefficients of the sum
    pub added_formula : (f : List Monomial) (s : Monomial) (line h : List Monomial) → Formula ring order f → Formula ring order line → code s < ring.size → added ring order f s line ≡ Ok h → Formula ring order h
    added_formula f s line h hf hl c e = (addition_law ring order f s line h hf hl c e).formula

    pub added_sum : (f : List Monomial) (s : Monomial) (line h : List Monomial) → Formula ring order f → Formula ring order line → code s < ring.size → added ring order f s line ≡ Ok h
        → (t : Term) → co h t ≡ co f t + multiple s line t
    added_sum f s line h hf hl c e t =
        let w = addition_law ring order f s line h hf hl c e in
        same_code ring (co h t) (co f t + multiple s line t)
        (co_is h (codes_of h w.formula) t ∙ w.coefficients t ∙ sym (ap₂ ring.sum (co_is f (codes_of f hf) t) (multiple_is s line c (codes_of line hl) t)))

    -- the first monomial of a formula is its head
    pub headed : (m : Monomial) (f : List Monomial) → Formula ring order (m ∷ f) → Headed ring order (line_of (m ∷ f))
    headed m f h =
        let w = (formula_laws ring order).first_is_head m f h in
        record {
          there = co_is (m ∷ f) (codes_of (m ∷ f) h) (term m) ∙ w.at_its_term;
          not_zero = positive (code m) h.coefficients.0.0;
          none_after = λ t l. co_is (m ∷ f) (codes_of (m ∷ f) h) t ∙ w.zero_after t l;
        }
      where
        positive : (c : ℕ) → 0 < c → c ≡ 0 → ⊥
        positive c l e = omega arith
