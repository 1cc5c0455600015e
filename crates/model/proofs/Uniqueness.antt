-- Remainders in a workbook: what they leave, and that in a complete one they tell the combinations of the relations.
use Rattle.std.proofs.Common.{◌≡◌, ℕ, zero, suc, ◌*◌, ◌<◌, ◌≤◌, min, Bool, true, false, cond, eqb, ◌⊎◌, ◌↔◌, List, [], ◌∷◌, ◌++◌, map, length, get_or, take, drop, None, Ok, sym, refl, ap, ◌∙◌, subst, ap₂, inl, inr, arith}
use Rattle.std.specs.List.{AllByRecursion}
use Rattle.std.proofs.lemmas.List.{length-map, take_at}
use Rattle.std.proofs.ByRecursion.{All-get_or}
use Rattle.std.proofs.lemmas.Bool.{cond-false, eqb-true, leb-true}
use Rattle.ring.specs.CoefficientRing.{CoefficientRing}
use Rattle.ring.specs.Derived.{difference as code_difference}
use Rattle.ring.specs.Within.{within}
use Rattle.order.specs.Term.{Divides, Term}
use Rattle.order.specs.TermOrder.{TermOrder}
use Rattle.term.specs.declared.monomial.Monomial.{Monomial}
use Rattle.term.specs.declared.monomial.Step.{Step}
use Rattle.formula.specs.Formula.{Formula, checked, code, term}
use Rattle.formula.proofs.Checking.{checked_exactly_formulas}
use Rattle.formula.proofs.Polynomials.{refuted, rest_is_formula}
use Rattle.basis.specs.Polynomial.{Polynomial, Same, coefficient, difference, same_term}
use Rattle.basis.specs.Combination.{Combination, EachCombination, sum_of_steps}
use Rattle.basis.specs.Basis.{StrongBasis}
use Rattle.basis.specs.Laws.{Reduced}
use Rattle.basis.proofs.Rings.{CommutativeRing, negative_of_sum, negative_of_zero, negative_right, negative_twice, ring_laws, sum_nests, zero_left, zero_right}
use Rattle.basis.proofs.Codes.{code_ring, same_code, zero_below}
use Rattle.basis.proofs.SixTerms.{same_term_decides}
use Rattle.basis.proofs.Coefficients.{at, at_append, at_difference}
use Rattle.basis.proofs.Combinations.{combination_of_line, combination_of_steps, combination_same, combination_sum, combination_through}
use Rattle.basis.proofs.Remainders.{remainders_are_unique}
use Rattle.layout.specs.Line.{Line}
use Rattle.model.specs.Polynomials.{head_of, line_of, polynomial_of, step_of}
use Rattle.model.specs.Workbook.{State, complete, formulas, jobs, relation_of, relations}
use Rattle.model.specs.Reduction.{Reduction, at_greatest, excess, fitting, lowering, reduced}
use Rattle.model.specs.Calls.{decided, max_allowance, opposite, remainder, remaining, trail_of, verdict}
use Rattle.model.specs.Spelling.{spelled_lines}
use Rattle.model.specs.Law.{DecisionsHold, ResultPlusTrail, SameExactlyOnCombinations, polynomials_of}
use Rattle.model.specs.declared.answers.Judgement.{Judgement}
use Rattle.model.specs.declared.answers.Remainder.{Remainder}
use Rattle.model.specs.declared.answers.Verdict.{Verdict}
use Rattle.model.specs.declared.answers.Verdict.TheVariants.{In, Out, Open}
use Rattle.model.proofs.Outcomes.{false_true, ok_ok, or_none, then_first}
use Rattle.model.proofs.Values.{CodedSteps, at_steps, co, co_zero, headed, numbered_polynomial, worth, worth_append, zero_formula}
use Rattle.model.proofs.Searches.{no_fit, none_found}
use Rattle.model.proofs.Traces.{Good, Lawful, coded_steps, lawful_at_greatest, summed_sum, trace_all, trace_of, trace_stops, trace_summed}
use Rattle.model.proofs.Opposites.{worth_trail}
use Rattle.model.proofs.JobPolynomials.{Entry, good_of}
use Rattle.model.proofs.Covers.{nth_plain, plain_polynomials, strong_basis}
use Rattle.model.proofs.GrantedRemainders.{remainder_checks, remainder_memories, remaining_exactly}
use Rattle.model.proofs.Growth.{length_formulas}
use Rattle.model.proofs.Invariant.{Sound}
use Rattle.model.proofs.Spellings.{at_plain_steps, spelt}

-- equations between coefficients
module _ {A : Type 0} (R : CommutativeRing A) where
  open R use {zero as 𝟎, sum as ◌+◌, negative as −◌}

  infixl 60 ◌+◌
  infix 80 −◌
  undone : (a s g : A) → g ≡ a + s → a ≡ g + − s
  undone a s g h = sym (sum_nests R a s (− s) ∙ ap (λ z. a + z) (negative_right R s) ∙ zero_right R a) ∙ ap (λ z. z + − s) (sym h)

  exchanged : (x y z w : A) → x + y + (z + w) ≡ x + z + (y + w)
  exchanged x y z w = simp ring_laws

  -- what two formulas differ by, if the same is left of them
  turned : (a b g s t : A) → g ≡ a + s → g ≡ b + t → a + − b ≡ − s + t
  turned a b g s t h k =
      ap₂ (λ x y. x + − y) (undone a s g h) (undone b t g k)
      ∙ ap (λ z. g + − s + z) (negative_of_sum R g (− t) ∙ ap (λ z. − g + z) (negative_twice R t))
      ∙ exchanged g (− s) (− g) t ∙ ap (λ z. z + (− s + t)) (negative_right R g) ∙ zero_left R (− s + t)

  -- what is left of two formulas differs by their difference and the steps
  apart : (a b s t : A) → a + s + − (b + t) ≡ a + − b + (s + − t)
  apart a b s t = ap (λ z. a + s + z) (negative_of_sum R b t) ∙ exchanged a s (− b) (− t)

-- every relation is a line
relation_placed : (lines : List Line) (q : ℕ) → q < length (relations lines) → (k : ℕ) × (k < length (formulas lines)) × (get_or (formulas lines) k [] ≡ get_or (relations lines) q [])
relation_placed [] q h = absurd (omega arith)
relation_placed (line ∷ lines) q h = by line.steps q h (relation_placed lines)
  where
    Placed : List (List Monomial) → ℕ → List (List Monomial) → Type 0
    Placed Q q F = (k : ℕ) × (k < length F) × (get_or F k [] ≡ get_or Q q [])

    by : (steps : List Step) (q : ℕ) → q < length (relation_of steps line.formula ++ relations lines) → ((q : ℕ) → q < length (relations lines) → Placed (relations lines) q (formulas lines))
        → Placed (relation_of steps line.formula ++ relations lines) q (line.formula ∷ formulas lines)
    by [] zero h later = (0, omega arith, refl)
    by [] (suc q) h later = let (k, b, e) = later q (omega arith) in (suc k, omega arith, e)
    by (s ∷ steps) q h later = let (k, b, e) = later q h in (suc k, omega arith, e)

module _ (ring : CoefficientRing) where
  -- each relation is a combination of the lines, since it is one of them
  pub relations_among_lines : (lines : List Line) → EachCombination ring (map polynomial_of (formulas lines)) (map polynomial_of (relations lines))
  relations_among_lines lines q h =
      let (k, b, e) = relation_placed lines q (subst (λ n. q < n) (length-map (relations lines) polynomial_of) h) in
      subst (Combination ring (map polynomial_of (formulas lines))) (numbered_polynomial ring (formulas lines) k ∙ ap polynomial_of e ∙ sym (numbered_polynomial ring (relations lines) q)) (combination_of_line ring (map polynomial_of (formulas lines)) k)

  -- zero is its own residue
  zero_own : (r : ℕ) → r < ring.size → ring.residue 0 r ≡ 0
  zero_own r h = let l = ring.residue_not_above 0 r (zero_below ring) h in omega arith

  -- a code without excess is its own residue
  own : (c r : ℕ) → c < ring.size → r < ring.size → excess ring c r ≡ None → ring.residue c r ≡ c
  own c r h k e = by (eqb (ring.residue c r) c) refl e
    where
      by : (b : Bool) → eqb (ring.residue c r) c ≡ b → cond b None (ring.quotient (code_difference ring c (ring.residue c r)) r) ≡ None → ring.residue c r ≡ c
      by true z e = eqb-true (ring.residue c r) c z
      by false z e = absurd (ring.quotient_none_without_multiple (code_difference ring c (ring.residue c r)) r (ring.sum_below c (ring.negative (ring.residue c r))) k e (ring.residue_differs_by_multiple c r h k))

  module _ (order : TermOrder) (F : List (List Monomial)) (entries : AllByRecursion (Entry ring order) F) where
    abbrev Own : ℕ → ℕ → Type 0
    Own r c = ring.residue c r ≡ c

    head_below : (k : ℕ) → k < length F → (head_of (get_or F k [])).coefficient < ring.size
    head_below k h = by (get_or F k []) (All-get_or (Entry ring order) F k [] h entries)
      where
        by : (f : List Monomial) → Entry ring order f → (head_of f).coefficient < ring.size
        by [] e = false_true e.1
        by (m ∷ f) e = e.0.coefficients.0.1

    -- where nothing can be lowered, each coefficient is its own residue by each line whose head term divides
    at_rest : (f : List Monomial) → at_greatest ring F f ≡ None → Formula ring order f → (t : Term) (k : ℕ) → k < length F → Divides (head_of (get_or F k [])).term t → Own (head_of (get_or F k [])).coefficient (coefficient ring (polynomial_of f) t)
    at_rest [] e u t k h d = zero_own (head_of (get_or F k [])).coefficient (head_below k h)
    at_rest (m ∷ f) e u t k h d = by (order.trichotomy (term m) t) (at_rest f none.1 (rest_is_formula ring order m f u) t k h d)
      where
        none : (lowering ring F (code m) (term m) ≡ None) × (at_greatest ring F f ≡ None)
        none = or_none (lowering ring F (code m) (term m)) (at_greatest ring F f) e

        no_line : fitting ring (excess ring) (code m) (term m) (get_or F k []) ≡ None
        no_line = All-get_or (λ l. fitting ring (excess ring) (code m) (term m) l ≡ None) F k [] h (none_found (fitting ring (excess ring) (code m) (term m)) 0 F none.0)

        own_here : term m ≡ t → Own (head_of (get_or F k [])).coefficient (code m)
        own_here s = on (get_or F k []) refl (All-get_or (Entry ring order) F k [] h entries)
          where
            on : (l : List Monomial) → get_or F k [] ≡ l → Entry ring order l → Own (head_of (get_or F k [])).coefficient (code m)
            on [] z w = false_true w.1
            on (n ∷ l) z w = subst (λ y. Own (head_of y).coefficient (code m)) (sym z) (own (code m) (code n) u.coefficients.0.1 w.0.coefficients.0.1
                (no_fit ring (excess ring) (code m) (term m) n l (ap (fitting ring (excess ring) (code m) (term m)) (sym z) ∙ no_line) (subst (Divides (term n)) (sym s) (subst (λ y. Divides (head_of y).term t) z d))))

        later : order.before t (term m) → coefficient ring (polynomial_of (m ∷ f)) t ≡ coefficient ring (polynomial_of f) t
        later b =
            ap (λ c. ring.sum c (coefficient ring (polynomial_of f) t)) (cond-false (same_term (term m) t) (within ring.size (code m) (code m) 0) 0 (refuted (same_term (term m) t) (same_term_decides (term m) t) (λ s. order.irreflexive t (subst (λ z. order.before t z) s b))))
            ∙ ap (λ c. c.0) (zero_left (code_ring ring) (at ring (polynomial_of f) t))

        by : order.before (term m) t ⊎ ((term m ≡ t) ⊎ order.before t (term m)) → Own (head_of (get_or F k [])).coefficient (coefficient ring (polynomial_of f) t) → Own (head_of (get_or F k [])).coefficient (coefficient ring (polynomial_of (m ∷ f)) t)
        by (inl b) ih = subst (Own (head_of (get_or F k [])).coefficient) (sym ((headed ring order m f u).none_after t b)) (zero_own (head_of (get_or F k [])).coefficient (head_below k h))
        by (inr (inl s)) ih = subst (Own (head_of (get_or F k [])).coefficient) (sym (ap (coefficient ring (polynomial_of (m ∷ f))) (sym s) ∙ (headed ring order m f u).there)) (own_here s)
        by (inr (inr b)) ih = subst (Own (head_of (get_or F k [])).coefficient) (sym (later b)) ih

    pub reduced_at_rest : (f : List Monomial) → at_greatest ring F f ≡ None → Formula ring order f → Reduced ring (map line_of F) (polynomial_of f)
    reduced_at_rest f e u t k h d =
        subst (λ l. ring.residue (coefficient ring (polynomial_of f) t) l.head.coefficient ≡ coefficient ring (polynomial_of f) t) (sym (nth_plain F k))
        (at_rest f e u t k (subst (λ n. k < n) (length-map F line_of) h) (subst (λ l. Divides l.head.term t) (nth_plain F k) d))

module _ (ring : CoefficientRing) (order : TermOrder) (state : State) (s : Sound ring order state) where
  open code_ring ring use {zero as 𝟎, sum as ◌+◌, negative as −◌}

  infixl 60 ◌+◌
  infix 80 −◌
  abbrev F : List (List Monomial)
  F = formulas state.lines

  abbrev Q : List (List Monomial)
  Q = relations state.lines

  good : Good ring order (formulas state.lines)
  good = good_of ring order F s.entries

  -- what a granted remainder leaves
  pub record Left (f : List Monomial) (r : Reduction) : Type 0 where
    pub formula : Formula ring order f
    pub coded : CodedSteps ring r.steps
    pub left : Formula ring order r.formula
    pub sum : (t : Term) → co ring r.formula t ≡ co ring f t + worth ring (formulas state.lines) r.steps t
    pub rest : at_greatest ring (formulas state.lines) r.formula ≡ None

  pub left_of : (f : List Monomial) (allowance : ℕ) (r : Reduction) → remaining ring order state.lines f allowance ≡ Ok r → Left f r
  left_of f allowance r h =
      let (u, c, e) = then_first (checked ring order f) (λ _. reduced ring order F (at_greatest ring F) (min allowance max_allowance) f) r h in
      let formula : Formula ring order f = (checked_exactly_formulas ring order f).0 c in
      let t = (trace_of ring order F (at_greatest ring F) (min allowance max_allowance) f r e).0 in
      let coded : CodedSteps ring r.steps = coded_steps ring F r.steps (trace_all ring order F (at_greatest ring F) (Lawful ring F) (lawful_at_greatest ring F) f r.steps r.formula t) in
      let w = summed_sum ring order F good f r.steps r.formula formula coded (trace_summed ring order F (at_greatest ring F) f r.steps r.formula t) in
      record { formula = formula; coded = coded; left = w.0; sum = w.1; rest = trace_stops ring order F (at_greatest ring F) f r.steps r.formula t }

  -- lines and relations have the same combinations
  lines_of_relations : EachCombination ring (map polynomial_of (relations state.lines)) (map polynomial_of (formulas state.lines))
  lines_of_relations k h =
      let inside : k < length F = subst (λ n. k < n) (length-map F polynomial_of) h in
      combination_same ring (map polynomial_of Q) (sum_of_steps ring (map polynomial_of Q) (get_or (spelled_lines ring state.lines) k [])) (get_or (map polynomial_of F) k [])
      (λ t. ap (λ c. c.0) (ap (λ p. at ring p t) (numbered_polynomial ring F k) ∙ (spelt ring order state.lines s.grown).same k inside t ∙ sym (at_plain_steps ring Q (get_or (spelled_lines ring state.lines) k []) t)))
      (combination_of_steps ring (map polynomial_of Q) (sum_of_steps ring (map polynomial_of Q) (get_or (spelled_lines ring state.lines) k [])) (get_or (spelled_lines ring state.lines) k []) (λ t. refl))

  pub to_relations : (f : Polynomial) → Combination ring (map polynomial_of (formulas state.lines)) f → Combination ring (map polynomial_of (relations state.lines)) f
  to_relations f c = combination_through ring (map polynomial_of F) (map polynomial_of Q) lines_of_relations f c

  pub to_lines : (f : Polynomial) → Combination ring (map polynomial_of (relations state.lines)) f → Combination ring (map polynomial_of (formulas state.lines)) f
  to_lines f c = combination_through ring (map polynomial_of Q) (map polynomial_of F) (relations_among_lines ring state.lines) f c

  -- a polynomial with the coefficients of packed steps is a combination of the lines
  by_steps : (f : Polynomial) (steps : List Step) → ((t : Term) → at ring f t ≡ worth ring (formulas state.lines) steps t) → Combination ring (map polynomial_of (formulas state.lines)) f
  by_steps f steps e = combination_of_steps ring (map polynomial_of F) f (map step_of steps) (λ t. ap (λ c. c.0) (e t ∙ sym (at_steps ring F steps t)))

  strong : complete state ≡ true → StrongBasis ring order (map line_of (formulas state.lines))
  strong c = strong_basis ring order F s.entries (λ j h. (s.settled j (let l = leb-true (jobs state.lines) state.settled c in let e = length_formulas state.lines in below j (subst (λ n. j < n * n) e h) l)).1)
    where
      below : (j : ℕ) → j < jobs state.lines → jobs state.lines ≤ state.settled → j < state.settled
      below j h l = omega arith

  -- with a strong basis, what is left of two formulas is the same if they differ by a combination
  same_left : complete state ≡ true → (g h : List Monomial) → at_greatest ring (formulas state.lines) g ≡ None → at_greatest ring (formulas state.lines) h ≡ None → Formula ring order g → Formula ring order h
      → Combination ring (map polynomial_of (formulas state.lines)) (difference ring (polynomial_of g) (polynomial_of h)) → Same ring (polynomial_of g) (polynomial_of h)
  same_left c g h eg eh ug uh k = remainders_are_unique ring order (map line_of F) (strong c) (polynomial_of g) (polynomial_of h) (reduced_at_rest ring order F s.entries g eg ug) (reduced_at_rest ring order F s.entries h eh uh)
      (subst (λ l. Combination ring l (difference ring (polynomial_of g) (polynomial_of h))) (sym (plain_polynomials F)) k)

  module _ (f g : List Monomial) (p q : Reduction) (l : Left f p) (r : Left g q) where
    -- the same is left: the formulas differ by steps
    forth : Same ring (polynomial_of p.formula) (polynomial_of q.formula) → Combination ring (map polynomial_of (relations state.lines)) (difference ring (polynomial_of f) (polynomial_of g))
    forth e = to_relations (difference ring (polynomial_of f) (polynomial_of g)) (by_steps (difference ring (polynomial_of f) (polynomial_of g)) (trail_of ring p.steps ++ q.steps)
        (λ t. at_difference ring (polynomial_of f) (polynomial_of g) t
        ∙ turned (code_ring ring) (co ring f t) (co ring g t) (co ring p.formula t) (worth ring F p.steps t) (worth ring F q.steps t) (l.sum t) (same_code ring (co ring p.formula t) (co ring q.formula t) (e t) ∙ r.sum t)
        ∙ ap (λ z. z + worth ring F q.steps t) (sym (worth_trail ring F p.steps t l.coded)) ∙ sym (worth_append ring F (trail_of ring p.steps) q.steps t)))

    -- the formulas differ by a combination: so does what is left
    back : complete state ≡ true → Combination ring (map polynomial_of (relations state.lines)) (difference ring (polynomial_of f) (polynomial_of g)) → Same ring (polynomial_of p.formula) (polynomial_of q.formula)
    back c k = same_left c p.formula q.formula l.rest r.rest l.left r.left
        (combination_same ring (map polynomial_of F) (difference ring (polynomial_of f) (polynomial_of g) ++ steps) (difference ring (polynomial_of p.formula) (polynomial_of q.formula))
        (λ t. ap (λ c. c.0) (value t)) (combination_sum ring (map polynomial_of F) (difference ring (polynomial_of f) (polynomial_of g)) steps (to_lines (difference ring (polynomial_of f) (polynomial_of g)) k)
        (combination_of_steps ring (map polynomial_of F) steps (map step_of (p.steps ++ trail_of ring q.steps)) (λ t. refl))))
      where
        steps : Polynomial
        steps = sum_of_steps ring (map polynomial_of F) (map step_of (p.steps ++ trail_of ring q.steps))

        value : (t : Term) → at ring (difference ring (polynomial_of p.formula) (polynomial_of q.formula)) t ≡ at ring (difference ring (polynomial_of f) (polynomial_of g) ++ steps) t
        value t =
            at_difference ring (polynomial_of p.formula) (polynomial_of q.formula) t
            ∙ ap₂ (λ x y. x + − y) (l.sum t) (r.sum t)
            ∙ apart (code_ring ring) (co ring f t) (co ring g t) (worth ring F p.steps t) (worth ring F q.steps t)
            ∙ sym (at_append ring (difference ring (polynomial_of f) (polynomial_of g)) steps t
            ∙ ap₂ ◌+◌ (at_difference ring (polynomial_of f) (polynomial_of g) t) (at_steps ring F (p.steps ++ trail_of ring q.steps) t ∙ worth_append ring F p.steps (trail_of ring q.steps) t
            ∙ ap (λ z. worth ring F p.steps t + z) (worth_trail ring F q.steps t r.coded)))

  -- what a granted remainder left, from its memories
  pub granted_remainder : (f : List Monomial) (allowance : ℕ) (result : List Monomial) (trail : List Step) (r : Remainder) → (remainder ring order state f allowance result trail).answer ≡ Ok r
      → (red : Reduction) × Left f red × (take r.length (remainder ring order state f allowance result trail).result ≡ red.formula) × (take r.steps (remainder ring order state f allowance result trail).trail ≡ trail_of ring red.steps)
  granted_remainder f allowance result trail r h =
      let w = remainder_checks ring order state f allowance result trail r h in
      let red : Reduction = w.left in
      let left = remainder_memories ring order state f allowance result trail r w in (
        red,
        left_of f allowance red ((remaining_exactly ring order state.lines f allowance red).1 w.lowered),
        ap (λ z. take r.length z.result) left ∙ take_at red.formula (drop (length red.formula) result) r.length (ap (λ z. z.length) (sym w.counts)),
        ap (λ z. take r.steps z.trail) left ∙ take_at (trail_of ring red.steps) (drop (length (trail_of ring red.steps)) trail) r.steps (length-map red.steps (opposite ring) ∙ ap (λ z. z.steps) (sym w.counts)),
      )

  -- a formula is what is left of it plus the trail
  pub result_plus_trail : ResultPlusTrail ring order state
  result_plus_trail f a m t r h =
      let (p, l, k, j) = granted_remainder f a m t r h in
      λ x. ap (λ c. c.0) (
      undone (code_ring ring) (co ring f x) (worth ring F p.steps x) (co ring p.formula x) (l.sum x)
      ∙ ap (λ z. co ring p.formula x + z) (sym (worth_trail ring F p.steps x l.coded) ∙ sym (at_steps ring F (trail_of ring p.steps) x))
      ∙ sym (at_append ring (polynomial_of p.formula) (sum_of_steps ring (map polynomial_of F) (map step_of (trail_of ring p.steps))) x)
      ∙ ap (λ g. at ring (polynomial_of g ++ sum_of_steps ring (map polynomial_of F) (map step_of (trail_of ring p.steps))) x) (sym k)
      ∙ ap (λ g. at ring (polynomial_of (take r.length (remainder ring order state f a m t).result) ++ sum_of_steps ring (map polynomial_of F) (map step_of g)) x) (sym j))

  pub same_exactly_on_combinations : SameExactlyOnCombinations ring order state (relations state.lines)
  same_exactly_on_combinations c f g a b m n t u r q hf hg =
      let (p, l, k, _) = granted_remainder f a m t r hf in
      let (o, d, j, _) = granted_remainder g b n u q hg in
      subst (λ (z : List Monomial × List Monomial). Same ring (polynomial_of z.0) (polynomial_of z.1) ↔ Combination ring (polynomials_of Q) (difference ring (polynomial_of f) (polynomial_of g))) (λ i. (sym k i, sym j i))
      (forth f g p o l d, back f g p o l d c)

  abbrev IsIn : Verdict → Type 0
  IsIn In = Unit {0}
  IsIn Out = ⊥
  IsIn Open = ⊥

  abbrev IsOut : Verdict → Type 0
  IsOut In = ⊥
  IsOut Out = Unit {0}
  IsOut Open = ⊥

  -- zero as what is left of itself
  nothing : Left [] (record { formula = []; steps = [] })
  nothing = record { formula = zero_formula ring order; coded = tt; left = zero_formula ring order; sum = λ t. sym (zero_right (code_ring ring) (co ring [] t)); rest = refl }

  -- a formula less zero is itself
  less_nothing : (f : List Monomial) → Same ring (polynomial_of f) (difference ring (polynomial_of f) [])
  less_nothing f t = ap (λ c. c.0) (sym (at_difference ring (polynomial_of f) [] t ∙ ap (λ z. co ring f t + − z) (co_zero ring t) ∙ ap (λ z. co ring f t + z) (negative_of_zero (code_ring ring)) ∙ zero_right (code_ring ring) (co ring f t)))

  pub decisions_hold : DecisionsHold ring order state (relations state.lines)
  decisions_hold = record { in_is_a_combination = inside; out_is_none = outside }
    where
      inside : (f : List Monomial) (allowance : ℕ) (j : Judgement) → decided ring order state f allowance ≡ Ok j → j.verdict ≡ In → Combination ring (polynomials_of (relations state.lines)) (polynomial_of f)
      inside f a j h v =
          let (p, e, k) = then_first (remaining ring order state.lines f a) (λ r. Ok (record { verdict = verdict (complete state) r.formula; steps = length r.steps })) j h in
          by p (left_of f a p e) p.formula refl (ap (λ z. z.verdict) (ok_ok k) ∙ v)
        where
          by : (p : Reduction) → Left f p → (g : List Monomial) → p.formula ≡ g → verdict (complete state) g ≡ In → Combination ring (polynomials_of (relations state.lines)) (polynomial_of f)
          by p l [] z v = combination_same ring (polynomials_of Q) (difference ring (polynomial_of f) []) (polynomial_of f) (less_nothing f)
              (forth f [] p (record { formula = []; steps = [] }) l nothing (λ t. ap (λ g. coefficient ring (polynomial_of g) t) z))
          by p l (m ∷ g) z v = on (complete state) v
            where
              on : (b : Bool) → cond b Out Open ≡ In → Combination ring (polynomials_of (relations state.lines)) (polynomial_of f)
              on true v = absurd (subst IsIn (sym v) tt)
              on false v = absurd (subst IsIn (sym v) tt)

      outside : (f : List Monomial) (allowance : ℕ) (j : Judgement) → decided ring order state f allowance ≡ Ok j → j.verdict ≡ Out → Combination ring (polynomials_of (relations state.lines)) (polynomial_of f) → ⊥
      outside f a j h v c =
          let (p, e, k) = then_first (remaining ring order state.lines f a) (λ r. Ok (record { verdict = verdict (complete state) r.formula; steps = length r.steps })) j h in
          by p (left_of f a p e) p.formula refl (ap (λ z. z.verdict) (ok_ok k) ∙ v)
        where
          by : (p : Reduction) → Left f p → (g : List Monomial) → p.formula ≡ g → verdict (complete state) g ≡ Out → ⊥
          by p l [] z v = absurd (subst IsOut (sym v) tt)
          by p l (m ∷ g) z v = on (complete state) refl v
            where
              on : (b : Bool) → complete state ≡ b → cond b Out Open ≡ Out → ⊥
              on false d v = absurd (subst IsOut (sym v) tt)
              on true d v =
                  let u : Formula ring order (m ∷ g) = subst (Formula ring order) z l.left in
                  let same = back f [] p (record { formula = []; steps = [] }) l nothing d (combination_same ring (polynomials_of Q) (polynomial_of f) (difference ring (polynomial_of f) []) (λ t. sym (less_nothing f t)) c) in
                  (headed ring order m g u).not_zero (sym (headed ring order m g u).there ∙ ap (λ y. coefficient ring (polynomial_of y) (term m)) (sym z) ∙ same (term m))
