-- A list of lines as lines of the theory; a step of a missing line adds nothing.
use Rattle.std.proofs.Common.{◌≡◌, ℕ, ◌<◌, List, [], ◌∷◌, length, refl, ap, ◌∙◌, ap₂, arith}
use native.Mathlib.Decide.{dec_lt}
use Rattle.std.specs.List.{AllByRecursion}
use Rattle.std.proofs.Math.ListN.{get_or-map}
use Rattle.std.proofs.lemmas.List.{get_or_past}
use Rattle.ring.specs.CoefficientRing.{CoefficientRing}
use Rattle.order.specs.Term.{Term}
use Rattle.order.specs.TermOrder.{TermOrder}
use Rattle.basis.specs.Polynomial.{Polynomial}
use Rattle.basis.specs.Combination.{Step, numbered, sum_of_steps, Combination}
use Rattle.basis.specs.Basis.{Line, line_of, polynomials, Headed}
use Rattle.basis.specs.Criterion.{StepBefore, LowRepresentation}
use Rattle.basis.proofs.Rings.{zero_left, times_zero}
use Rattle.basis.proofs.Codes.{Code, same_code, code_ring, code_of}
use Rattle.basis.proofs.SixTerms.{six_terms, order_of_six}
use Rattle.basis.proofs.Shifts.{shifted, shifted_zero}
use Rattle.basis.proofs.Coefficients.{at, coefficient_below}
use Rattle.basis.proofs.Steps.{LineStep, combined}
use Rattle.basis.proofs.Lows.{Lines, Low, value, step_product}
use Rattle.basis.proofs.CriticalPolynomials.{head_code, at_head, after_head}
use Rattle.basis.proofs.Combinations.{family, coded, at_sum_of_steps, steps_of_combination}

module _ (ring : CoefficientRing) (order : TermOrder) (lines : List Line) (heads : (k : ℕ) → k < length lines → Headed ring order (line_of lines k)) where
  open code_ring ring use {sum as ◌+◌, product as ◌*◌}

  infixl 60 ◌+◌
  infixl 70 ◌*◌
  -- the number of a line that is there
  abbrev pub Number : Type 0
  Number = (k : ℕ) × (k < length lines)

  -- the line of such a number, and its head
  abbrev pub line : Number → Line
  line k = line_of lines k.0

  pub headed : (k : Number) → Headed ring order (line_of lines k.0)
  headed k = heads k.0 k.1

  -- the lines as the theory asks for them
  abbrev pub all_lines : Lines (code_ring ring) six_terms (order_of_six order) Number
  all_lines = record {
    at = λ k. at ring (line k).polynomial;
    head_term = λ k. (line k).head.term;
    head_code = λ k. head_code ring order (line k) (headed k);
    at_head = λ k. at_head ring order (line k) (headed k);
    after_head = λ k. after_head ring order (line k) (headed k);
  }

  -- steps of lines that are there; a step of a missing line adds nothing
  abbrev pub kept_step : (p : LineStep (Code ring) Term ℕ) → Dec (p.line < length lines) → List (LineStep (Code ring) Term Number) → List (LineStep (Code ring) Term Number)
  kept_step p (yes h) σ = record { code = p.code; term = p.term; line = (p.line, h) } ∷ σ
  kept_step p (no _) σ = σ

  abbrev pub kept_steps : List (LineStep (Code ring) Term ℕ) → List (LineStep (Code ring) Term Number)
  kept_steps [] = []
  kept_steps (p ∷ σ) = kept_step p (dec_lt p.line (length lines)) (kept_steps σ)

  missing_line : (k : ℕ) → ¬ (k < length lines) → numbered (polynomials lines) k ≡ []
  missing_line k n = get_or-map (λ l. l.polynomial) lines k (line_of [] 0) ∙ ap (λ l. l.polynomial) (get_or_past lines k (line_of [] 0) (omega arith))

  -- a step of the zero polynomial adds nothing
  no_share : (p : LineStep (Code ring) Term ℕ) (x : Term) (rest : Code ring) → p.code * shifted (code_ring ring) six_terms p.term (at ring []) x + rest ≡ rest
  unfolding coefficient_below
  no_share p x rest = ap (λ y. y + rest) (ap (λ y. p.code * y) (shifted_zero (code_ring ring) six_terms p.term x) ∙ times_zero (code_ring ring) p.code) ∙ zero_left (code_ring ring) rest

  value_kept : (σ : List (LineStep (Code ring) Term ℕ)) (x : Term) → combined (code_ring ring) six_terms (family ring (polynomials lines)) σ x ≡ value all_lines (kept_steps σ) x
  value_kept [] x = refl
  value_kept (p ∷ σ) x = which (dec_lt p.line (length lines)) (value_kept σ x)
    where
      which : (d : Dec (p.line < length lines)) → combined (code_ring ring) six_terms (family ring (polynomials lines)) σ x ≡ value all_lines (kept_steps σ) x
          → combined (code_ring ring) six_terms (family ring (polynomials lines)) (p ∷ σ) x ≡ value all_lines (kept_step p d (kept_steps σ)) x
      which (yes h) e = ap₂ ◌+◌ (ap (λ f. p.code * shifted (code_ring ring) six_terms p.term (at ring f) x) (get_or-map (λ l. l.polynomial) lines p.line (line_of [] 0))) e
      which (no n) e = ap (λ f. p.code * shifted (code_ring ring) six_terms p.term (at ring f) x + combined (code_ring ring) six_terms (family ring (polynomials lines)) σ x) (missing_line p.line n)
          ∙ no_share p x (combined (code_ring ring) six_terms (family ring (polynomials lines)) σ x) ∙ e

  at_steps : (σ : List Step) (x : Term) → at ring (sum_of_steps ring (polynomials lines) σ) x ≡ value all_lines (kept_steps (coded ring (polynomials lines) σ)) x
  at_steps σ x = at_sum_of_steps ring (polynomials lines) σ x ∙ value_kept (coded ring (polynomials lines) σ) x

  low_kept : (t : Term) (σ : List Step) → AllByRecursion (StepBefore ring order lines t) σ → AllByRecursion (λ p. order.before (step_product all_lines p) t) (kept_steps (coded ring (polynomials lines) σ))
  low_kept t [] h = tt
  low_kept t (s ∷ σ) h = which (dec_lt s.line (length lines)) (low_kept t σ h.1)
    where
      which : (d : Dec (s.line < length lines)) → AllByRecursion (λ p. order.before (step_product all_lines p) t) (kept_steps (coded ring (polynomials lines) σ))
          → AllByRecursion (λ p. order.before (step_product all_lines p) t) (kept_step (record { code = code_of ring s.code; term = s.term; line = s.line }) d (kept_steps (coded ring (polynomials lines) σ)))
      which (yes _) rest = (h.0.before, rest)
      which (no n) rest = rest

  pub low_of : (t : Term) (f : Polynomial) → LowRepresentation ring order lines t f → Low all_lines t (at ring f)
  low_of t f w = record {
    steps = kept_steps (coded ring (polynomials lines) w.steps);
    low = low_kept t w.steps w.low;
    same = λ x. same_code ring (at ring f x) (at ring (sum_of_steps ring (polynomials lines) w.steps) x) (w.same x) ∙ at_steps w.steps x;
  }

  -- a combination as a sum of steps of the lines
  pub steps_of_lines : (f : Polynomial) → Combination ring (polynomials lines) f → (σ : List (LineStep (Code ring) Term Number)) × ((x : Term) → at ring f x ≡ value all_lines σ x)
  steps_of_lines f c =
      let (σ, e) = steps_of_combination ring (polynomials lines) f c in
      (kept_steps (coded ring (polynomials lines) σ), λ x. same_code ring (at ring f x) (at ring (sum_of_steps ring (polynomials lines) σ) x) (e x) ∙ at_steps σ x)
