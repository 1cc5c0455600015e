-- Combinations are sums of steps, and a combination of combinations is a combination.
use Rattle.std.proofs.Common.{◌≡◌, ℕ, ◌<◌, List, [], ◌∷◌, ◌++◌, length, sym, refl, ap, ◌∙◌, ap₂, append_assoc, append-nil, arith}
use native.Mathlib.Decide.{dec_lt}
use Rattle.std.proofs.lemmas.List.{get_or_past}
use Rattle.ring.specs.CoefficientRing.{CoefficientRing}
use Rattle.order.specs.Term.{Term, unit}
use Rattle.basis.specs.Polynomial.{Polynomial, coefficient, Same, scaled, multiplied}
use Rattle.basis.specs.Combination.{Multiple, Step, numbered, sum_of_multiples, sum_of_steps, Combination, EachCombination}
use Rattle.basis.specs.Laws.{LinesStandForRelations}
use Rattle.basis.proofs.Rings.{one_times}
use Rattle.basis.proofs.Codes.{Code, same_code, code_ring, code_of, code_of_code}
use Rattle.basis.proofs.SixTerms.{six_terms}
use Rattle.basis.proofs.Shifts.{shifted, shifted_same}
use Rattle.basis.proofs.Coefficients.{at, coefficient_below, at_append, at_scaled, shifted_by_unit}
use Rattle.basis.proofs.Steps.{LineStep, combined, combined_append, multiplied_steps, combined_multiplied, Spanned, spanned_through}

-- a polynomial times a line, as steps
abbrev steps_of_multiple : Polynomial → ℕ → List Step
steps_of_multiple [] k = []
steps_of_multiple (m ∷ f) k = record { code = m.coefficient; term = m.term; line = k } ∷ steps_of_multiple f k

abbrev steps_of_multiples : List Multiple → List Step
steps_of_multiples [] = []
steps_of_multiples (m ∷ ms) = steps_of_multiple m.multiplier m.line ++ steps_of_multiples ms

-- each step as a multiple
abbrev multiples_of_steps : List Step → List Multiple
multiples_of_steps [] = []
multiples_of_steps (s ∷ steps) = record { multiplier = record { coefficient = s.code; term = s.term } ∷ []; line = s.line } ∷ multiples_of_steps steps

module _ (ring : CoefficientRing) (lines : List Polynomial) where
  sum_of_steps_append : (σ τ : List Step) → sum_of_steps ring lines (σ ++ τ) ≡ sum_of_steps ring lines σ ++ sum_of_steps ring lines τ
  sum_of_steps_append [] τ = refl
  sum_of_steps_append (s ∷ σ) τ =
      let f : Polynomial = scaled ring s.code s.term (numbered lines s.line) in
      ap (λ g. f ++ g) (sum_of_steps_append σ τ) ∙ sym (append_assoc f (sum_of_steps ring lines σ) (sum_of_steps ring lines τ))

  sum_of_multiple : (f : Polynomial) (k : ℕ) → sum_of_steps ring lines (steps_of_multiple f k) ≡ multiplied ring f (numbered lines k)
  sum_of_multiple [] k = refl
  sum_of_multiple (m ∷ f) k = ap (λ g. scaled ring m.coefficient m.term (numbered lines k) ++ g) (sum_of_multiple f k)

  sum_by_steps : (ms : List Multiple) → sum_of_steps ring lines (steps_of_multiples ms) ≡ sum_of_multiples ring lines ms
  sum_by_steps [] = refl
  sum_by_steps (m ∷ ms) = sum_of_steps_append (steps_of_multiple m.multiplier m.line) (steps_of_multiples ms) ∙ ap₂ ◌++◌ (sum_of_multiple m.multiplier m.line) (sum_by_steps ms)

  sum_by_multiples : (σ : List Step) → sum_of_multiples ring lines (multiples_of_steps σ) ≡ sum_of_steps ring lines σ
  sum_by_multiples [] = refl
  sum_by_multiples (s ∷ σ) = ap₂ ◌++◌ (append-nil (scaled ring s.code s.term (numbered lines s.line))) (sum_by_multiples σ)

  -- a sum of steps is a combination, and each combination is such a sum
  pub combination_of_steps : (f : Polynomial) (σ : List Step) → Same ring f (sum_of_steps ring lines σ) → Combination ring lines f
  combination_of_steps f σ h = record { multiples = multiples_of_steps σ; same = λ t. h t ∙ ap (λ g. coefficient ring g t) (sym (sum_by_multiples σ)) }

  pub steps_of_combination : (f : Polynomial) → Combination ring lines f → (σ : List Step) × Same ring f (sum_of_steps ring lines σ)
  steps_of_combination f c = (steps_of_multiples c.multiples, λ t. c.same t ∙ ap (λ g. coefficient ring g t) (sym (sum_by_steps c.multiples)))

  -- the lines as coefficient functions
  abbrev pub family : ℕ → Term → Code ring
  family k = at ring (numbered lines k)

  -- steps over codes as steps over elements of the ring of codes
  abbrev pub coded : List Step → List (LineStep (Code ring) Term ℕ)
  coded [] = []
  coded (s ∷ σ) = record { code = code_of ring s.code; term = s.term; line = s.line } ∷ coded σ

  pub at_sum_of_steps : (σ : List Step) (x : Term) → at ring (sum_of_steps ring lines σ) x ≡ combined (code_ring ring) six_terms family (coded σ) x
  unfolding coefficient_below
  at_sum_of_steps [] x = refl
  at_sum_of_steps (s ∷ σ) x =
      at_append ring (scaled ring s.code s.term (numbered lines s.line)) (sum_of_steps ring lines σ) x
      ∙ ap₂ (code_ring ring).sum (at_scaled ring s.code s.term (numbered lines s.line) x) (at_sum_of_steps σ x)

  -- and back
  abbrev decoded : List (LineStep (Code ring) Term ℕ) → List Step
  decoded [] = []
  decoded (p ∷ σ) = record { code = p.code.0; term = p.term; line = p.line } ∷ decoded σ

  combined_decoded : (σ : List (LineStep (Code ring) Term ℕ)) (x : Term) → combined (code_ring ring) six_terms family (coded (decoded σ)) x ≡ combined (code_ring ring) six_terms family σ x
  combined_decoded [] x = refl
  combined_decoded (p ∷ σ) x = ap₂ (λ c y. (code_ring ring).sum ((code_ring ring).product c (shifted (code_ring ring) six_terms p.term (family p.line) x)) y) (code_of_code ring p.code.0 p.code.1) (combined_decoded σ x)

  pub spanned_of_combination : (f : Polynomial) → Combination ring lines f → Spanned (code_ring ring) six_terms family (at ring f)
  spanned_of_combination f c =
      let (σ, h) = steps_of_combination f c in
      record { steps = coded σ; same = λ x. same_code ring (at ring f x) (at ring (sum_of_steps ring lines σ) x) (h x) ∙ at_sum_of_steps σ x }

  pub combination_of_spanned : (f : Polynomial) → Spanned (code_ring ring) six_terms family (at ring f) → Combination ring lines f
  combination_of_spanned f w = combination_of_steps f (decoded w.steps) (λ x. ap (λ c. c.0) (w.same x ∙ sym (at_sum_of_steps (decoded w.steps) x ∙ combined_decoded w.steps x)))

  -- combinations are closed under sums and multiples, and each line is one
  pub combination_same : (f g : Polynomial) → Same ring g f → Combination ring lines f → Combination ring lines g
  combination_same f g h c = record { multiples = c.multiples; same = λ t. h t ∙ c.same t }

  pub combination_of_line : (k : ℕ) → Combination ring lines (numbered lines k)
  combination_of_line k = combination_of_steps (numbered lines k) (record { code = ring.one; term = unit; line = k } ∷ []) (λ t. sym (ap (λ c. c.0) (once t)))
    where
      once : (t : Term) → at ring (sum_of_steps ring lines (record { code = ring.one; term = unit; line = k } ∷ [])) t ≡ at ring (numbered lines k) t
      once t =
          ap (λ g. at ring g t) (append-nil (scaled ring ring.one unit (numbered lines k))) ∙ at_scaled ring ring.one unit (numbered lines k) t
          ∙ ap₂ (code_ring ring).product (code_of_code ring ring.one ring.one_below) (shifted_by_unit ring (at ring (numbered lines k)) t) ∙ one_times (code_ring ring) (at ring (numbered lines k) t)

  pub combination_sum : (f g : Polynomial) → Combination ring lines f → Combination ring lines g → Combination ring lines (f ++ g)
  combination_sum f g c d =
      let w = spanned_of_combination f c in
      let v = spanned_of_combination g d in
      combination_of_spanned (f ++ g) (record {
        steps = w.steps ++ v.steps;
        same = λ x. at_append ring f g x ∙ ap₂ (code_ring ring).sum (w.same x) (v.same x) ∙ sym (combined_append (code_ring ring) six_terms family w.steps v.steps x);
      })

  pub combination_multiple : (c : ℕ) (s : Term) (f : Polynomial) → Combination ring lines f → Combination ring lines (scaled ring c s f)
  combination_multiple c s f d =
      let w = spanned_of_combination f d in
      combination_of_spanned (scaled ring c s f) (record {
        steps = multiplied_steps (code_ring ring) six_terms family (code_of ring c) s w.steps;
        same = λ x. at_scaled ring c s f x
            ∙ ap ((code_ring ring).product (code_of ring c)) (shifted_same (code_ring ring) six_terms s (at ring f) (combined (code_ring ring) six_terms family w.steps) w.same x)
            ∙ sym (combined_multiplied (code_ring ring) six_terms family (code_of ring c) s w.steps x);
      })

module _ (ring : CoefficientRing) where
  -- each line, and each that is missing, is spanned by the relations
  line_spanned : (lines relations : List Polynomial) → EachCombination ring relations lines → (k : ℕ) → Spanned (code_ring ring) six_terms (family ring relations) (family ring lines k)
  line_spanned lines relations each k = which (dec_lt k (length lines))
    where
      which : Dec (k < length lines) → Spanned (code_ring ring) six_terms (family ring relations) (family ring lines k)
      which (yes h) = spanned_of_combination ring relations (numbered lines k) (each k h)
      which (no n) = record { steps = []; same = λ x. same_code ring _ _ (ap (λ f. coefficient ring f x) (get_or_past lines k [] (omega arith))) }

  pub combination_through : (lines relations : List Polynomial) → EachCombination ring relations lines → (f : Polynomial) → Combination ring lines f → Combination ring relations f
  combination_through lines relations each f c =
      let w = spanned_of_combination ring lines f c in
      let v = spanned_through (code_ring ring) six_terms (family ring lines) (family ring relations) (line_spanned lines relations each) w.steps in
      combination_of_spanned ring relations f (record { steps = v.steps; same = λ x. w.same x ∙ v.same x })

  pub lines_stand_for_relations : LinesStandForRelations ring
  lines_stand_for_relations lines relations of_relations of_lines f = (combination_through lines relations of_relations f, combination_through relations lines of_lines f)
