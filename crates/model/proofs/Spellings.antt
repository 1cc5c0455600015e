-- What pedigrees spell has the coefficients of the lines.
use Rattle.std.proofs.Common.{◌≡◌, ℕ, ◌+◌, ◌<◌, List, [], ◌∷◌, ◌++◌, map, length, get_or, sym, refl, ap, ◌∙◌, subst, ap₂, subst₂, append_assoc, append-nil, arith}
use native.Mathlib.Decide.{dec_lt}
use Rattle.std.specs.List.{AllByRecursion}
use Rattle.std.proofs.lemmas.List.{get_or_append_left, get_or_push, length-append}
use Rattle.std.proofs.ByRecursion.{All-push, All-weaker}
use Rattle.ring.specs.CoefficientRing.{CoefficientRing}
use Rattle.order.specs.Term.{Term, unit}
use Rattle.order.specs.TermOrder.{TermOrder}
use Rattle.term.specs.declared.monomial.Monomial.{Monomial}
use Rattle.term.specs.declared.monomial.Step.{Step}
use Rattle.formula.specs.Formula.{Coefficient, Formula, code, term}
use Rattle.basis.specs.Combination.{Step as PlainStep, numbered, sum_of_steps}
use Rattle.basis.proofs.Rings.{one_times, over_sum_right, product_nests, sum_nests, times_zero, zero_left, zero_right}
use Rattle.basis.proofs.Codes.{Code, code_of, code_of_code, code_of_product, code_ring}
use Rattle.basis.proofs.SixTerms.{six_terms}
use Rattle.basis.proofs.Shifts.{shifted, shifted_multiple, shifted_same, shifted_sum, shifted_twice, shifted_zero}
use Rattle.basis.proofs.Coefficients.{at, at_append, at_scaled, coefficient_below, shifted_by_unit}
use Rattle.layout.specs.Line.{Line}
use Rattle.model.specs.Polynomials.{polynomial_of}
use Rattle.model.specs.Workbook.{formulas, relation_of, relations}
use Rattle.model.specs.Spelling.{multiplied_steps, spelled_after, spelled_lines, spelling, through}
use Rattle.model.proofs.Values.{co, co_zero, numbered_polynomial, worth, zero_formula}
use Rattle.model.proofs.Traces.{Good, summed_sum}
use Rattle.model.proofs.Growth.{Grown}
use Rattle.model.proofs.Invariant.{AllGrown}

module _ (ring : CoefficientRing) where
  open code_ring ring use {zero as 𝟎, sum as ◌⊕◌, product as ◌*◌}

  infixl 60 ◌⊕◌
  infixl 70 ◌*◌
  -- the coefficient of a sum of plain steps over relations
  abbrev pub plain_worth : List (List Monomial) → List PlainStep → Term → Code ring
  plain_worth Q [] t = 𝟎
  plain_worth Q (s ∷ steps) t = code_of ring s.code * shifted (code_ring ring) six_terms s.term (co ring (get_or Q s.line [])) t ⊕ plain_worth Q steps t

  pub at_plain_steps : (Q : List (List Monomial)) (steps : List PlainStep) (t : Term) → at ring (sum_of_steps ring (map polynomial_of Q) steps) t ≡ plain_worth Q steps t
  unfolding coefficient_below
  at_plain_steps Q [] t = refl
  at_plain_steps Q (s ∷ steps) t =
      at_append ring _ (sum_of_steps ring (map polynomial_of Q) steps) t
      ∙ ap₂ ◌⊕◌ (at_scaled ring s.code s.term (numbered (map polynomial_of Q) s.line) t
      ∙ ap (λ f. code_of ring s.code * shifted (code_ring ring) six_terms s.term (at ring f) t) (numbered_polynomial ring Q s.line)) (at_plain_steps Q steps t)

  worth_plain_append : (Q : List (List Monomial)) (σ τ : List PlainStep) (t : Term) → plain_worth Q (σ ++ τ) t ≡ plain_worth Q σ t ⊕ plain_worth Q τ t
  worth_plain_append Q [] τ t = sym (zero_left (code_ring ring) (plain_worth Q τ t))
  worth_plain_append Q (s ∷ σ) τ t =
      let y : Code ring = code_of ring s.code * shifted (code_ring ring) six_terms s.term (co ring (get_or Q s.line [])) t in
      ap (λ z. y ⊕ z) (worth_plain_append Q σ τ t) ∙ sym (sum_nests (code_ring ring) y (plain_worth Q σ t) (plain_worth Q τ t))

  worth_multiplied : (Q : List (List Monomial)) (c : ℕ) (u : Term) (σ : List PlainStep) (t : Term) → plain_worth Q (multiplied_steps ring c u σ) t ≡ code_of ring c * shifted (code_ring ring) six_terms u (plain_worth Q σ) t
  worth_multiplied Q c u [] t = sym (ap (λ y. code_of ring c * y) (shifted_zero (code_ring ring) six_terms u t) ∙ times_zero (code_ring ring) (code_of ring c))
  worth_multiplied Q c u (s ∷ σ) t =
      let f : Term → Code ring = shifted (code_ring ring) six_terms s.term (co ring (get_or Q s.line [])) in
      let a : Code ring = code_of ring c in
      let b : Code ring = code_of ring s.code in
      ap₂ (λ d y. d * y ⊕ plain_worth Q (multiplied_steps ring c u σ) t) (code_of_product ring c s.code) (sym (shifted_twice (code_ring ring) six_terms u s.term (co ring (get_or Q s.line [])) t))
      ∙ ap (λ z. a * b * shifted (code_ring ring) six_terms u f t ⊕ z) (worth_multiplied Q c u σ t)
      ∙ sym (ap (λ y. a * y) (shifted_sum (code_ring ring) six_terms u (λ y. b * f y) (plain_worth Q σ) t ∙ ap (λ y. y ⊕ shifted (code_ring ring) six_terms u (plain_worth Q σ) t) (shifted_multiple (code_ring ring) six_terms u b f t))
      ∙ over_sum_right (code_ring ring) a (b * shifted (code_ring ring) six_terms u f t) (shifted (code_ring ring) six_terms u (plain_worth Q σ) t)
      ∙ ap (λ y. y ⊕ a * shifted (code_ring ring) six_terms u (plain_worth Q σ) t) (sym (product_nests (code_ring ring) a b (shifted (code_ring ring) six_terms u f t))))

module _ (ring : CoefficientRing) where
  -- all steps name one of n relations
  abbrev Names : ℕ → List PlainStep → Type 0
  Names n steps = AllByRecursion (λ s. s.line < n) steps

  names_more : (Q more : List (List Monomial)) (σ : List PlainStep) (t : Term) → Names (length Q) σ → plain_worth ring (Q ++ more) σ t ≡ plain_worth ring Q σ t
  names_more Q more [] t h = refl
  names_more Q more (s ∷ σ) t h =
      ap₂ (code_ring ring).sum (ap (λ f. (code_ring ring).product (code_of ring s.code) (shifted (code_ring ring) six_terms s.term (co ring f) t)) (get_or_append_left Q more [] s.line h.0)) (names_more Q more σ t h.1)

  -- the formulas F are what S spells over the relations Q
  pub record Spelt (Q F : List (List Monomial)) (S : List (List PlainStep)) : Type 0 where
    pub as_long : length S ≡ length F
    pub names : (k : ℕ) → k < length F → Names (length Q) (get_or S k [])
    pub same : (k : ℕ) → k < length F → (t : Term) → co ring (get_or F k []) t ≡ plain_worth ring Q (get_or S k []) t

  names_append : (n : ℕ) (σ τ : List PlainStep) → Names n σ → Names n τ → Names n (σ ++ τ)
  names_append n [] τ h k = k
  names_append n (s ∷ σ) τ h k = (h.0, names_append n σ τ h.1 k)

  names_multiplied : (n c : ℕ) (u : Term) (σ : List PlainStep) → Names n σ → Names n (multiplied_steps ring c u σ)
  names_multiplied n c u [] h = tt
  names_multiplied n c u (s ∷ σ) h = (h.0, names_multiplied n c u σ h.1)

  -- steps over lines, spelled out
  worth_through : (Q F : List (List Monomial)) (S : List (List PlainStep)) → Spelt Q F S → (steps : List Step) → AllByRecursion (λ s. s.line < length F) steps → (t : Term) → worth ring F steps t ≡ plain_worth ring Q (through ring S steps) t
  worth_through Q F S s [] h t = refl
  worth_through Q F S s (p ∷ steps) h t =
      let c : ℕ = code p.factor in
      let u : Term = term p.factor in
      ap₂ (code_ring ring).sum
      (ap (λ y. (code_ring ring).product (code_of ring c) y) (shifted_same (code_ring ring) six_terms u (co ring (get_or F p.line [])) (plain_worth ring Q (get_or S p.line [])) (s.same p.line h.0) t)
      ∙ sym (worth_multiplied ring Q c u (get_or S p.line []) t))
      (worth_through Q F S s steps h.1 t)
      ∙ sym (worth_plain_append ring Q (multiplied_steps ring c u (get_or S p.line [])) (through ring S steps) t)

  through_names : (Q F : List (List Monomial)) (S : List (List PlainStep)) → Spelt Q F S → (steps : List Step) → AllByRecursion (λ s. s.line < length F) steps → Names (length Q) (through ring S steps)
  through_names Q F S s [] h = tt
  through_names Q F S s (p ∷ steps) h =
      names_append (length Q) (multiplied_steps ring (code p.factor) (term p.factor) (get_or S p.line [])) (through ring S steps) (names_multiplied (length Q) (code p.factor) (term p.factor) (get_or S p.line []) (s.names p.line h.0))
      (through_names Q F S s steps h.1)

  spelt_more : (Q more F : List (List Monomial)) (S : List (List PlainStep)) → Spelt Q F S → Spelt (Q ++ more) F S
  spelt_more Q more F S s = record {
    as_long = s.as_long;
    names = λ k h. All-weaker (λ p. p.line < length Q) (λ p. p.line < length (Q ++ more)) (λ p l. let e = length-append Q more in omega arith) (get_or S k []) (s.names k h);
    same = λ k h t. s.same k h t ∙ sym (names_more Q more (get_or S k []) t (s.names k h));
  }

  -- one line more and what it spells
  spelt_push : (Q F : List (List Monomial)) (S : List (List PlainStep)) (f : List Monomial) (τ : List PlainStep) → Names (length Q) τ → ((t : Term) → co ring f t ≡ plain_worth ring Q τ t) → Spelt Q F S → Spelt Q (F ++ f ∷ []) (S ++ τ ∷ [])
  spelt_push Q F S f τ n e s = record {
    as_long = (let a = length-append S (τ ∷ []) in let b = length-append F (f ∷ []) in let c = s.as_long in omega arith);
    names = λ k h. subst (λ (z : Pair). Names (length Q) z.1) (sym (which k h).1) (which k h).2.0;
    same = λ k h t. ap (λ (z : Pair). co ring z.0 t) (which k h).1 ∙ (which k h).2.1 t ∙ sym (ap (λ (z : Pair). plain_worth ring Q z.1 t) (which k h).1);
  }
    where
      Pair : Type 0
      Pair = List Monomial × List PlainStep

      Fine : Pair → Type 0
      Fine z = Names (length Q) z.1 × ((t : Term) → co ring z.0 t ≡ plain_worth ring Q z.1 t)

      at_both : ℕ → Pair
      at_both k = (get_or (F ++ f ∷ []) k [], get_or (S ++ τ ∷ []) k [])

      which : (k : ℕ) → k < length (F ++ f ∷ []) → (z : Pair) × (at_both k ≡ z) × Fine z
      which k h = by (dec_lt k (length F))
        where
          by : Dec (k < length F) → (z : Pair) × (at_both k ≡ z) × Fine z
          by (yes l) = ((get_or F k [], get_or S k []), (λ i. (get_or_append_left F (f ∷ []) [] k l i, get_or_append_left S (τ ∷ []) [] k (let c = s.as_long in omega arith) i)), (s.names k l, s.same k l))
          by (no l) =
              let a : length F ≡ k = (let b = length-append F (f ∷ []) in omega arith) in
              let c : length S ≡ k = s.as_long ∙ a in
              ((f, τ), (λ i. (get_or_push F f [] k a i, get_or_push S τ [] k c i)), (n, e))

module _ (ring : CoefficientRing) (order : TermOrder) where
  -- a relation spells itself
  itself : (Q : List (List Monomial)) (f : List Monomial) (n : ℕ) → length Q ≡ n → (t : Term) → co ring f t ≡ plain_worth ring (Q ++ f ∷ []) (record { code = ring.one; term = unit; line = n } ∷ []) t
  itself Q f n e t = sym (
      zero_right (code_ring ring) ((code_ring ring).product (code_of ring ring.one) (shifted (code_ring ring) six_terms unit (co ring (get_or (Q ++ f ∷ []) n [])) t))
      ∙ ap₂ (λ c g. (code_ring ring).product c (shifted (code_ring ring) six_terms unit (co ring g) t)) (code_of_code ring ring.one ring.one_below) (get_or_push Q f [] n e)
      ∙ one_times (code_ring ring) (shifted (code_ring ring) six_terms unit (co ring f) t) ∙ shifted_by_unit ring (co ring f) t)

  -- the value of a line with steps
  line_worth : (F : List (List Monomial)) (f : List Monomial) (s : Step) (steps : List Step) → Good ring order F → Grown ring order F (record { formula = f; steps = s ∷ steps }) → (t : Term) → co ring f t ≡ worth ring F (s ∷ steps) t
  line_worth F f s steps good g t =
      (summed_sum ring order F good [] (s ∷ steps) f (zero_formula ring order) (All-weaker (λ s. Coefficient ring (code s.factor)) (λ s. code s.factor < ring.size) (λ s c. c.1) (s ∷ steps) g.lawful.coefficients) g.lawful.sum).1 t
      ∙ ap (λ c. (code_ring ring).sum c (worth ring F (s ∷ steps) t)) (co_zero ring t) ∙ zero_left (code_ring ring) (worth ring F (s ∷ steps) t)

  spelt_line : (Q F : List (List Monomial)) (S : List (List PlainStep)) (n : ℕ) (f : List Monomial) (steps : List Step) → length Q ≡ n → Good ring order F → Spelt ring Q F S → Grown ring order F (record { formula = f; steps = steps })
      → Spelt ring (Q ++ relation_of steps f) (F ++ f ∷ []) (S ++ spelling ring S n steps ∷ []) × (length (Q ++ relation_of steps f) ≡ n + length (relation_of steps f))
  spelt_line Q F S n f [] e good s g =
      let long = length-append Q (f ∷ []) in
      (spelt_push ring (Q ++ f ∷ []) F S f (record { code = ring.one; term = unit; line = n } ∷ []) ((omega arith), tt) (itself Q f n e) (spelt_more ring Q (f ∷ []) F S s), omega arith)
  spelt_line Q F S n f (p ∷ steps) e good s g = (
    subst (λ R. Spelt ring R (F ++ f ∷ []) (S ++ through ring S (p ∷ steps) ∷ [])) (sym (append-nil Q))
        (spelt_push ring Q F S f (through ring S (p ∷ steps)) (through_names ring Q F S s (p ∷ steps) g.lawful.earlier) (λ t. line_worth F f p steps good g t ∙ worth_through ring Q F S s (p ∷ steps) g.lawful.earlier t) s),
    ap length (append-nil Q) ∙ e ∙ (let z : n ≡ n + 0 = omega arith in z),
  )

  good_push : (F : List (List Monomial)) (line : Line) → Good ring order F → Grown ring order F line → Good ring order (F ++ line.formula ∷ [])
  good_push F line h g = All-push (Formula ring order) F line.formula h g.lawful.formula

  spelt_after : (Q F : List (List Monomial)) (S : List (List PlainStep)) (n : ℕ) (lines : List Line) → length Q ≡ n → Good ring order F → Spelt ring Q F S → AllGrown ring order F lines → Spelt ring (Q ++ relations lines) (F ++ formulas lines) (spelled_after ring S n lines)
  spelt_after Q F S n [] e good s g = subst₂ (λ Q F. Spelt ring Q F S) (sym (append-nil Q)) (sym (append-nil F)) s
  spelt_after Q F S n (line ∷ lines) e good s g =
      let w = spelt_line Q F S n line.formula line.steps e good s g.0 in
      subst₂ (λ Q' F'. Spelt ring Q' F' (spelled_after ring S n (line ∷ lines))) (append_assoc Q (relation_of line.steps line.formula) (relations lines)) (append_assoc F (line.formula ∷ []) (formulas lines))
      (spelt_after (Q ++ relation_of line.steps line.formula) (F ++ line.formula ∷ []) (S ++ spelling ring S n line.steps ∷ []) (n + length (relation_of line.steps line.formula)) lines w.1 (good_push F line good g.0) w.0 g.1)

  -- each line is what its pedigree spells
  pub spelt : (lines : List Line) → AllGrown ring order [] lines → Spelt ring (relations lines) (formulas lines) (spelled_lines ring lines)
  spelt lines g = spelt_after [] [] [] 0 lines refl tt (record { as_long = refl; names = λ k h. absurd (omega arith); same = λ k h t. absurd (omega arith) }) g
