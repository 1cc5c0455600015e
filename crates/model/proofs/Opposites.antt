-- Steps with the other sign.
use Rattle.std.proofs.Common.{◌≡◌, ℕ, ◌<◌, List, [], ◌∷◌, get_or, sym, ap, ◌∙◌, ap₂}
use Rattle.ring.specs.CoefficientRing.{CoefficientRing}
use Rattle.order.specs.Term.{Term}
use Rattle.term.specs.declared.monomial.Monomial.{Monomial}
use Rattle.term.specs.declared.monomial.Step.{Step}
use Rattle.formula.specs.Formula.{code, term}
use Rattle.basis.proofs.Rings.{negative_of_sum, negative_of_zero, negative_times}
use Rattle.basis.proofs.Codes.{Code, code_of, code_of_code, code_ring}
use Rattle.basis.proofs.SixTerms.{six_terms}
use Rattle.basis.proofs.Shifts.{shifted}
use Rattle.model.specs.Calls.{opposite, trail_of}
use Rattle.model.proofs.Packings.{code_of_monomial, term_fits, term_of_monomial}
use Rattle.model.proofs.Values.{CodedSteps, co, multiple, worth}

module _ (ring : CoefficientRing) where
  open code_ring ring use {zero as 𝟎, sum as ◌+◌, negative as −◌, product as ◌*◌}

  infixl 60 ◌+◌
  infixl 70 ◌*◌
  infix 80 −◌
  pub opposite_term : (s : Step) → term (opposite ring s).factor ≡ term s.factor
  opposite_term s = term_of_monomial ring (term s.factor) (ring.negative (code s.factor)) (term_fits s.factor) (ring.negative_below (code s.factor))

  pub opposite_code : (s : Step) → code (opposite ring s).factor ≡ ring.negative (code s.factor)
  opposite_code s = code_of_monomial ring (term s.factor) (ring.negative (code s.factor)) (ring.negative_below (code s.factor))

  multiple_opposite : (s : Step) (f : List Monomial) (t : Term) → code s.factor < ring.size → multiple ring (opposite ring s).factor f t ≡ − multiple ring s.factor f t
  multiple_opposite s f t h =
      let c : ℕ = code s.factor in
      let y : Code ring = shifted (code_ring ring) six_terms (term s.factor) (co ring f) t in
      ap₂ (λ d u. code_of ring d * shifted (code_ring ring) six_terms u (co ring f) t) (opposite_code s) (opposite_term s)
      ∙ ap (λ d. d * y) (code_of_code ring (ring.negative c) (ring.negative_below c) ∙ ap (λ d. − d) (sym (code_of_code ring c h)))
      ∙ negative_times (code_ring ring) (code_of ring c) y

  pub worth_trail : (F : List (List Monomial)) (steps : List Step) (t : Term) → CodedSteps ring steps → worth ring F (trail_of ring steps) t ≡ − worth ring F steps t
  worth_trail F [] t h = sym (negative_of_zero (code_ring ring))
  worth_trail F (s ∷ steps) t h =
      ap₂ ◌+◌ (multiple_opposite s (get_or F s.line []) t h.0) (worth_trail F steps t h.1) ∙ sym (negative_of_sum (code_ring ring) (multiple ring s.factor (get_or F s.line []) t) (worth ring F steps t))
