-- Reductions as traces of steps: their sums, that more lines keep them, and that a new line takes itself away.
use Rattle.std.proofs.Common.{◌≡◌, ℕ, zero, suc, ◌+◌, ◌-◌, ◌^◌, ◌<◌, ◌≤◌, List, [], ◌∷◌, ◌++◌, length, get_or, Some, None, Ok, Err, Option, Result, sym, refl, ap, ◌∙◌, subst, ap₂, arith}
use Rattle.std.specs.List.{AllByRecursion}
use Rattle.std.proofs.lemmas.List.{get_or_append_left}
use Rattle.refusal.specs.declared.Refusal.{Refusal}
use Rattle.refusal.specs.declared.Refusal.TheVariants.{AllowanceUsed}
use Rattle.ring.specs.CoefficientRing.{CoefficientRing}
use Rattle.order.specs.Term.{Term, quotient}
use Rattle.order.specs.TermOrder.{TermOrder}
use Rattle.term.specs.declared.monomial.Monomial.{Monomial}
use Rattle.term.specs.declared.monomial.Step.{Step}
use Rattle.formula.specs.Formula.{Formula, code, term}
use Rattle.formula.specs.Polynomial.{Packed}
use Rattle.formula.specs.Sum.{added}
use Rattle.formula.proofs.Adding.{addition_law}
use Rattle.basis.proofs.Rings.{sum_nests, zero_right}
use Rattle.basis.proofs.Codes.{code_ring}
use Rattle.model.specs.Reduction.{ReducesTo, Reduction, after_step, at_greatest, at_head, excess, fitting, if_chosen, lowering, lowest, reduced, stepped, summed, then}
use Rattle.model.proofs.Outcomes.{err_ok, none_some, ok_ok, or_either, then_first}
use Rattle.model.proofs.Values.{CodedSteps, added_formula, added_sum, co, multiple, worth, zero_formula}
use Rattle.model.proofs.Packings.{monomial_packed, quotient_fits, term_fits}
use Rattle.model.proofs.Searches.{factor_code, fits_at, found, found_more}

module _ (ring : CoefficientRing) (order : TermOrder) where
  abbrev pub Good : List (List Monomial) → Type 0
  Good F = AllByRecursion (Formula ring order) F

  -- each line is a formula, and so is the zero that stands for a missing one
  pub good_line : (F : List (List Monomial)) → Good F → (k : ℕ) → Formula ring order (get_or F k [])
  good_line [] h k = zero_formula ring order
  good_line (f ∷ F) h zero = h.0
  good_line (f ∷ F) h (suc k) = good_line F h.1 k

module _ (ring : CoefficientRing) (order : TermOrder) (F : List (List Monomial)) (choose : List Monomial → Option Step) where
  abbrev pub Traced : ℕ → List Monomial → Reduction → Type 0
  Traced n f r = ReducesTo ring order F choose f r.steps r.formula × (length r.steps ≤ n)

  -- one more step
  abbrev pub more : ℕ → List Monomial → Step → Result Reduction Refusal
  more n f s = then (stepped ring order F f s) (λ g. then (reduced ring order F choose n g) (λ r. Ok (after_step s r)))

  pub trace_of : (n : ℕ) (f : List Monomial) (r : Reduction) → reduced ring order F choose n f ≡ Ok r → Traced n f r
  trace_of zero f r h = by (choose f) refl h
    where
      by : (o : Option Step) → choose f ≡ o → if_chosen o f (λ s. Err AllowanceUsed) ≡ Ok r → Traced zero f r
      by None e h = subst (Traced zero f) (ok_ok h) ((e, refl), omega arith)
      by (Some s) e h = err_ok h
  trace_of (suc n) f r h = by (choose f) refl h (trace_of n)
    where
      by : (o : Option Step) → choose f ≡ o → if_chosen o f (more n f) ≡ Ok r → ((g : List Monomial) (q : Reduction) → reduced ring order F choose n g ≡ Ok q → Traced n g q) → Traced (suc n) f r
      by None e h later = subst (Traced (suc n) f) (ok_ok h) ((e, refl), omega arith)
      by (Some s) e h later =
          let (g, k, rest) = then_first (stepped ring order F f s) (λ g. then (reduced ring order F choose n g) (λ r. Ok (after_step s r))) r h in
          let (q, l, last) = then_first (reduced ring order F choose n g) (λ r. Ok (after_step s r)) r rest in
          let t = later g q l in
          subst (Traced (suc n) f) (ok_ok last) ((g, e, k, t.0), (let b = t.1 in omega arith))

  pub of_trace : (n : ℕ) (f : List Monomial) (steps : List Step) (g : List Monomial) → ReducesTo ring order F choose f steps g → length steps ≤ n → reduced ring order F choose n f ≡ Ok (record { formula = g; steps = steps })
  of_trace zero f [] g t h = ap (λ o. if_chosen o f (λ s. Err AllowanceUsed)) t.0 ∙ ap (λ z. Ok (record { formula = z; steps = [] })) t.1
  of_trace (suc n) f [] g t h = ap (λ o. if_chosen o f (more n f)) t.0 ∙ ap (λ z. Ok (record { formula = z; steps = [] })) t.1
  of_trace zero f (s ∷ steps) g t h = absurd (omega arith)
  of_trace (suc n) f (s ∷ steps) g t h =
      ap (λ o. if_chosen o f (more n f)) t.1
      ∙ ap (λ r. then r (λ g. then (reduced ring order F choose n g) (λ r. Ok (after_step s r)))) t.2
      ∙ ap (λ r. then r (λ r. Ok (after_step s r))) (of_trace n t.0 steps g t.3 (omega arith))

  -- the steps of a trace add up one by one
  pub trace_summed : (f : List Monomial) (steps : List Step) (g : List Monomial) → ReducesTo ring order F choose f steps g → summed ring order F f steps ≡ Ok g
  trace_summed f [] g t = ap Ok t.1
  trace_summed f (s ∷ steps) g t = ap (λ r. then r (λ g. summed ring order F g steps)) t.2 ∙ trace_summed t.0 steps g t.3

  pub trace_stops : (f : List Monomial) (steps : List Step) (g : List Monomial) → ReducesTo ring order F choose f steps g → choose g ≡ None
  trace_stops f [] g t = ap choose (sym t.1) ∙ t.0
  trace_stops f (s ∷ steps) g t = trace_stops t.0 steps g t.3

  -- a property of every step that is chosen holds of every step of a trace
  pub trace_all : (P : Step → Type 0) → ((f : List Monomial) (s : Step) → choose f ≡ Some s → P s) → (f : List Monomial) (steps : List Step) (g : List Monomial) → ReducesTo ring order F choose f steps g → AllByRecursion P steps
  trace_all P each f [] g t = tt
  trace_all P each f (s ∷ steps) g t = (each f s t.1, trace_all P each t.0 steps g t.3)

module _ (ring : CoefficientRing) (order : TermOrder) (F : List (List Monomial)) where
  open code_ring ring use {zero as 𝟎, sum as ◌+◌}

  infixl 60 ◌+◌
  -- what is left is a formula, with the coefficients of what was there plus the steps
  abbrev pub Summed : List Monomial → List Step → List Monomial → Type 0
  Summed f steps g = Formula ring order g × ((t : Term) → co ring g t ≡ co ring f t + worth ring F steps t)

  pub summed_sum : Good ring order F → (f : List Monomial) (steps : List Step) (g : List Monomial) → Formula ring order f → CodedSteps ring steps → summed ring order F f steps ≡ Ok g → Summed f steps g
  summed_sum good f [] g u c e = subst (Summed f []) (ok_ok e) (u, λ t. sym (zero_right (code_ring ring) (co ring f t)))
  summed_sum good f (s ∷ steps) g u c e =
      let (h, k, rest) = then_first (stepped ring order F f s) (λ h. summed ring order F h steps) g e in
      let line : Formula ring order (get_or F s.line []) = good_line ring order F good s.line in
      let w = summed_sum good h steps g (added_formula ring order f s.factor (get_or F s.line []) h u line c.0 k) c.1 rest in (
        w.0,
        λ t. w.1 t ∙ ap (λ y. y + worth ring F steps t) (added_sum ring order f s.factor (get_or F s.line []) h u line c.0 k t)
            ∙ sum_nests (code_ring ring) (co ring f t) (multiple ring s.factor (get_or F s.line []) t) (worth ring F steps t),
      )

  pub summed_packed : Good ring order F → (f : List Monomial) (steps : List Step) (g : List Monomial) → Formula ring order f → Packed f → CodedSteps ring steps → summed ring order F f steps ≡ Ok g → Packed g
  summed_packed good f [] g u p c e = subst Packed (ok_ok e) p
  summed_packed good f (s ∷ steps) g u p c e =
      let (h, k, rest) = then_first (stepped ring order F f s) (λ h. summed ring order F h steps) g e in
      let w = addition_law ring order f s.factor (get_or F s.line []) h u (good_line ring order F good s.line) c.0 k in
      summed_packed good h steps g w.formula (w.packed p) c.1 rest

  pub summed_append : (f g h : List Monomial) (σ τ : List Step) → summed ring order F f σ ≡ Ok g → summed ring order F g τ ≡ Ok h → summed ring order F f (σ ++ τ) ≡ Ok h
  summed_append f g h [] τ p q = ap (λ z. summed ring order F z τ) (ok_ok p) ∙ q
  summed_append f g h (s ∷ σ) τ p q =
      let (k, e, rest) = then_first (stepped ring order F f s) (λ k. summed ring order F k σ) g p in
      ap (λ r. then r (λ k. summed ring order F k (σ ++ τ))) e ∙ summed_append k g h σ τ rest q

module _ (ring : CoefficientRing) (F : List (List Monomial)) where
  -- what is asked of steps that are chosen: a code, a line that is there, a factor of 64 bits
  pub record Lawful (s : Step) : Type 0 where
    pub coded : code s.factor < ring.size
    pub inside : s.line < length F
    pub packed : s.factor.bits < 2 ^ 64

  lawful_found : (over : ℕ → ℕ → Option ℕ) (c : ℕ) (m : Monomial) (s : Step) → lowest (fitting ring over c (term m)) 0 F ≡ Some s → Lawful s
  lawful_found over c m s h =
      let t : Term = term m in
      let w = found (fitting ring over c t) 0 F s h in
      let v = fits_at ring over c t (get_or F (s.line - 0) []) s.factor w.passed in
      record {
        coded = subst (λ z. z < ring.size) (sym (factor_code ring over c t (get_or F (s.line - 0) []) s.factor v)) (ring.negative_below v.q);
        inside = (let i = w.inside in omega arith);
        packed = subst (λ z. z.bits < 2 ^ 64) (sym v.factor_is) (monomial_packed ring (quotient t (term v.head)) (ring.negative v.q) (quotient_fits (term v.head) t (term_fits m)) (ring.negative_below v.q));
      }

  pub lawful_at_head : (f : List Monomial) (s : Step) → at_head ring F f ≡ Some s → Lawful s
  lawful_at_head [] s h = none_some h
  lawful_at_head (m ∷ f) s h = lawful_found ring.quotient (code m) m s h

  pub lawful_at_greatest : (f : List Monomial) (s : Step) → at_greatest ring F f ≡ Some s → Lawful s
  lawful_at_greatest [] s h = none_some h
  lawful_at_greatest (m ∷ f) s h = or_either (lowering ring F (code m) (term m)) (at_greatest ring F f) s h (lawful_found (excess ring) (code m) m s) (lawful_at_greatest f s)

  pub coded_steps : (steps : List Step) → AllByRecursion Lawful steps → CodedSteps ring steps
  coded_steps [] h = tt
  coded_steps (s ∷ steps) h = (h.0.coded, coded_steps steps h.1)

  pub packed_steps : (steps : List Step) → AllByRecursion Lawful steps → AllByRecursion (λ s. s.factor.bits < 2 ^ 64) steps
  packed_steps [] h = tt
  packed_steps (s ∷ steps) h = (h.0.packed, packed_steps steps h.1)

  pub inside_steps : (steps : List Step) → AllByRecursion Lawful steps → AllByRecursion (λ s. s.line < length F) steps
  inside_steps [] h = tt
  inside_steps (s ∷ steps) h = (h.0.inside, inside_steps steps h.1)

module _ (ring : CoefficientRing) (order : TermOrder) (F more : List (List Monomial)) where
  pub same_line : (k : ℕ) → k < length F → get_or (F ++ more) k [] ≡ get_or F k []
  same_line k h = get_or_append_left F more [] k h

  pub at_head_more : (f : List Monomial) (s : Step) → at_head ring F f ≡ Some s → at_head ring (F ++ more) f ≡ Some s
  at_head_more [] s h = none_some h
  at_head_more (m ∷ f) s h = found_more (fitting ring ring.quotient (code m) (term m)) 0 F more s h

  pub stepped_more : (f : List Monomial) (s : Step) → s.line < length F → stepped ring order (F ++ more) f s ≡ stepped ring order F f s
  stepped_more f s i = ap (added ring order f s.factor) (same_line s.line i)

  pub summed_more : (f : List Monomial) (steps : List Step) → AllByRecursion (λ s. s.line < length F) steps → summed ring order (F ++ more) f steps ≡ summed ring order F f steps
  summed_more f [] h = refl
  summed_more f (s ∷ steps) h = ap₂ then (stepped_more f s h.0) (λ i g. summed_more g steps h.1 i)

  pub worth_more : (steps : List Step) (t : Term) → AllByRecursion (λ s. s.line < length F) steps → worth ring (F ++ more) steps t ≡ worth ring F steps t
  worth_more [] t h = refl
  worth_more (s ∷ steps) t h = ap₂ (code_ring ring).sum (ap (λ l. multiple ring s.factor l t) (same_line s.line h.0)) (worth_more steps t h.1)

  -- what comes to zero still does among more lines
  pub trace_more : (f : List Monomial) (steps : List Step) → ReducesTo ring order F (at_head ring F) f steps [] → ReducesTo ring order (F ++ more) (at_head ring (F ++ more)) f steps []
  trace_more f [] t = (ap (at_head ring (F ++ more)) t.1, t.1)
  trace_more f (s ∷ steps) t = (t.0, at_head_more f s t.1, stepped_more f s (lawful_at_head ring F f s t.1).inside ∙ t.2, trace_more t.0 steps t.3)
