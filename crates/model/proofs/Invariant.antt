-- What holds of the workbook after every list of calls.
use Rattle.std.proofs.Common.{◌≡◌, ℕ, zero, suc, ◌+◌, ◌*◌, ◌<◌, Bool, true, false, cond, leb, List, [], ◌∷◌, ◌++◌, length, Ok, Err, Result, sym, refl, ap, ◌∙◌, subst, inl, inr, append_assoc, append-nil, arith}
use native.Mathlib.Decide.{dec_lt}
use Rattle.std.specs.List.{AllByRecursion}
use Rattle.std.proofs.lemmas.List.{length-append, length_push}
use Rattle.std.proofs.ByRecursion.{All-append}
use Rattle.std.proofs.lemmas.Bool.{and_parts, leb-false, leb-true}
use Rattle.refusal.specs.declared.Refusal.{Refusal}
use Rattle.ring.specs.CoefficientRing.{CoefficientRing}
use Rattle.order.specs.TermOrder.{TermOrder}
use Rattle.term.specs.declared.monomial.Monomial.{Monomial}
use Rattle.term.specs.declared.monomial.Step.{Step}
use Rattle.layout.specs.Line.{Line}
use Rattle.model.specs.Workbook.{State, WithinLimits, all_monomials, all_steps, complete, formulas, jobs, relation_of, relations, table_size}
use Rattle.model.specs.Jobs.{job}
use Rattle.model.specs.Settling.{settled_by}
use Rattle.model.specs.Calls.{advanced, if_settled, next_settled, related, stopped}
use Rattle.model.specs.Runs.{Call, Run, at_start, called, relating, run, run_from}
use Rattle.model.specs.Rules.{JobKept}
use Rattle.model.specs.declared.answers.Stop.TheVariants.{Complete, Reached}
use Rattle.model.specs.Grants.{Roomy, as_relation}
use Rattle.model.proofs.Outcomes.{ok_ok, then_first}
use Rattle.model.proofs.JobPolynomials.{Entry}
use Rattle.model.proofs.Numbering.{Inside, inside_more, job_inside}
use Rattle.model.proofs.Grants.{relate_checks}
use Rattle.model.proofs.Growth.{Grown, Outcome, formulas_push, kept_more, length_formulas}
use Rattle.model.proofs.Settlings.{settled_outcome}

pub relations_append : (lines more : List Line) → relations (lines ++ more) ≡ relations lines ++ relations more
relations_append [] more = refl
relations_append (line ∷ lines) more = ap (λ z. relation_of line.steps line.formula ++ z) (relations_append lines more) ∙ sym (append_assoc (relation_of line.steps line.formula) (relations lines) (relations more))

-- a line with steps is no relation
pub no_relation : (steps : List Step) (f : List Monomial) → (steps ≡ [] → ⊥) → relation_of steps f ≡ []
no_relation [] f n = absurd (n refl)
no_relation (s ∷ steps) f n = refl

-- one line more has room in the tables
monomials_push : (lines : List Line) (line : Line) → all_monomials (lines ++ line ∷ []) ≡ all_monomials lines + length line.formula
monomials_push [] line = omega arith
monomials_push (k ∷ lines) line = let e = monomials_push lines line in omega arith

steps_push : (lines : List Line) (line : Line) → all_steps (lines ++ line ∷ []) ≡ all_steps lines + length line.steps
steps_push [] line = omega arith
steps_push (k ∷ lines) line = let e = steps_push lines line in omega arith

pub jobs_more : (lines : List Line) (line : Line) → jobs lines < jobs (lines ++ line ∷ [])
jobs_more lines line = subst (λ n. jobs lines < n * n) (sym (length_push lines line)) (wider (length lines))
  where
    wider : (n : ℕ) → n * n < (n + 1) * (n + 1)
    wider n = omega arith

within_line : (lines : List Line) (n : ℕ) (line : Line) → Roomy lines line → WithinLimits (record { lines = lines; settled = n }) → WithinLimits (record { lines = lines ++ line ∷ []; settled = n })
within_line lines n line r w =
    let p = and_parts (leb (all_monomials lines + length line.formula) table_size) (leb (all_steps lines + length line.steps) table_size) r.1 in
    record {
      lines = (let e = length_push lines line in let l = r.0 in omega arith);
      monomials = (let e = monomials_push lines line in let l = leb-true (all_monomials lines + length line.formula) table_size p.0 in omega arith);
      steps = (let e = steps_push lines line in let l = leb-true (all_steps lines + length line.steps) table_size p.1 in omega arith);
      settled_jobs = (let m = jobs_more lines line in let l = w.settled_jobs in omega arith);
    }

module _ (ring : CoefficientRing) (order : TermOrder) where
  -- each line is grown over those before it, F standing before them all
  abbrev pub AllGrown : List (List Monomial) → List Line → Type 0
  AllGrown F [] = Unit {0}
  AllGrown F (line ∷ lines) = Grown ring order F line × AllGrown (F ++ line.formula ∷ []) lines

  grown_push : (F : List (List Monomial)) (lines : List Line) (line : Line) → AllGrown F lines → Grown ring order (F ++ formulas lines) line → AllGrown F (lines ++ line ∷ [])
  grown_push F [] line g h = (subst (λ G. Grown ring order G line) (append-nil F) h, tt)
  grown_push F (k ∷ lines) line g h = (g.0, grown_push (F ++ k.formula ∷ []) lines line g.1 (subst (λ G. Grown ring order G line) (sym (append_assoc F (k.formula ∷ []) (formulas lines))) h))

  -- a job among formulas that is there and settled
  abbrev Settled : List (List Monomial) → ℕ → Type 0
  Settled F j = Inside (length F) (job j) × JobKept ring order F (job j)

  pub record Sound (state : State) : Type 0 where
    pub within : WithinLimits state
    pub entries : AllByRecursion (Entry ring order) (formulas state.lines)
    pub grown : AllGrown [] state.lines
    pub settled : (j : ℕ) → j < state.settled → Inside (length (formulas state.lines)) (job j) × JobKept ring order (formulas state.lines) (job j)

  settled_more : (F more : List (List Monomial)) (j : ℕ) → Settled F j → Settled (F ++ more) j
  settled_more F more j h = (inside_more (length F) (length (F ++ more)) (let e = length-append F more in omega arith) (job j) h.0, kept_more ring order F more (job j) h.0 h.1)

  -- one line more
  sound_line : (lines : List Line) (n : ℕ) (line : Line) → Roomy lines line → Grown ring order (formulas lines) line → Sound (record { lines = lines; settled = n }) → Sound (record { lines = lines ++ line ∷ []; settled = n })
  sound_line lines n line r g s =
      let F = formulas lines in
      record {
        within = within_line lines n line r s.within;
        entries = subst (AllByRecursion (Entry ring order)) (sym (formulas_push lines line)) (All-append (Entry ring order) F (line.formula ∷ []) s.entries ((g.lawful.formula, g.lawful.not_zero), tt));
        grown = grown_push [] lines line s.grown g;
        settled = λ j h. subst (λ G. Settled G j) (sym (formulas_push lines line)) (settled_more F (line.formula ∷ []) j (s.settled j h));
      }

  -- one job more
  sound_job : (lines : List Line) (n : ℕ) → n < jobs lines → Settled (formulas lines) n → Sound (record { lines = lines; settled = n }) → Sound (record { lines = lines; settled = suc n })
  sound_job lines n b k s = record { within = record { lines = s.within.lines; monomials = s.within.monomials; steps = s.within.steps; settled_jobs = b }; entries = s.entries; grown = s.grown; settled = λ j h. by j h (dec_lt j n) }
    where
      by : (j : ℕ) → j < suc n → Dec (j < n) → Settled (formulas lines) j
      by j h (yes l) = s.settled j l
      by j h (no l) = let e : n ≡ j = omega arith in subst (Settled (formulas lines)) e k

  -- a sound state with the same relations
  abbrev Keeps : State → State → Type 0
  Keeps before after = Sound after × (relations after.lines ≡ relations before.lines)

  sound_outcome : (lines after : List Line) (n : ℕ) → n < jobs lines → Inside (length (formulas lines)) (job n) → Sound (record { lines = lines; settled = n }) → Outcome ring order lines after (λ G. JobKept ring order G (job n))
      → Keeps (record { lines = lines; settled = n }) (record { lines = after; settled = suc n })
  sound_outcome lines after n b i s (inl (e, k)) = subst (λ z. Keeps (record { lines = lines; settled = n }) (record { lines = z; settled = suc n })) (sym e) (sound_job lines n b (i, k) s, refl)
  sound_outcome lines after n b i s (inr w) =
      let line : Line = w.line in
      let F = formulas lines in
      let at : Settled (formulas (lines ++ line ∷ [])) n = subst (λ G. Settled G n) (sym (formulas_push lines line)) (inside_more (length F) (length (F ++ line.formula ∷ [])) (let e = length-append F (line.formula ∷ []) in omega arith) (job n) i, w.holds) in
      subst (λ z. Keeps (record { lines = lines; settled = n }) (record { lines = z; settled = suc n })) (sym w.is) (
        sound_job (lines ++ line ∷ []) n (let m = jobs_more lines line in omega arith) at (sound_line lines n line w.room w.grown s),
        relations_append lines (line ∷ []) ∙ ap (λ z. relations lines ++ (z ++ [])) (no_relation line.steps line.formula w.derived) ∙ append-nil (relations lines),
      )

  next_sound : (state after : State) → complete state ≡ false → Sound state → next_settled ring order state ≡ Ok after → Keeps state after
  next_sound state after c s e =
      let (lines, k, last) = then_first (settled_by ring order state.lines (job state.settled)) (λ lines. Ok (record { lines = lines; settled = suc state.settled })) after e in
      subst (Keeps state) (ok_ok last) (sound_outcome state.lines lines state.settled below inside s (settled_outcome ring order state.lines lines s.entries (job state.settled) inside k))
    where
      below : state.settled < jobs state.lines
      below = leb-false (jobs state.lines) state.settled c

      inside : Inside (length (formulas state.lines)) (job state.settled)
      inside = job_inside (length (formulas state.lines)) state.settled (subst (λ n. state.settled < n * n) (sym (length_formulas state.lines)) below)

  pub advanced_sound : (k : ℕ) (state : State) → Sound state → Keeps state (advanced ring order k state).state
  advanced_sound zero state s = by (complete state)
    where
      by : (b : Bool) → Keeps state (cond b (stopped state Complete) (stopped state Reached)).state
      by true = (s, refl)
      by false = (s, refl)
  advanced_sound (suc k) state s = by (complete state) refl (advanced_sound k)
    where
      by : (b : Bool) → complete state ≡ b → ((after : State) → Sound after → Keeps after (advanced ring order k after).state) → Keeps state (cond b (stopped state Complete) (if_settled state (next_settled ring order state) (λ after. advanced ring order k after))).state
      by true c later = (s, refl)
      by false c later = on (next_settled ring order state) refl
        where
          on : (r : Result State Refusal) → next_settled ring order state ≡ r → Keeps state (if_settled state r (λ after. advanced ring order k after)).state
          on (Err refusal) e = (s, refl)
          on (Ok after) e = let w = next_sound state after c s e in let v = later after w.0 in (v.0, v.1 ∙ w.1)

  -- a relation is grown
  relation_grown : (F : List (List Monomial)) (f : List Monomial) → Entry ring order f → Grown ring order F (record { formula = f; steps = [] })
  relation_grown F f e = record { lawful = record { formula = e.0; not_zero = e.1; short = omega arith; earlier = tt; coefficients = tt; sum = tt }; packed = λ p. p refl; packed_steps = tt }

  pub related_sound : (state after : State) (f : List Monomial) → Sound state → related ring order state f ≡ Ok after → Sound after × (relations after.lines ≡ relations state.lines ++ f ∷ [])
  related_sound state after f s h =
      let w = relate_checks ring order state f after h in
      subst (λ z. Sound z × (relations z.lines ≡ relations state.lines ++ f ∷ [])) (sym w.1) (
        sound_line state.lines state.settled (as_relation f) w.0.2 (relation_grown (formulas state.lines) f (w.0.0, w.0.1)) s,
        relations_append state.lines (as_relation f ∷ []),
      )

  -- the invariant of runs
  pub record Kept (r : Run) : Type 0 where
    pub sound : Sound r.state
    pub relations_are : relations r.state.lines ≡ r.relations

  kept_call : (r : Run) (call : Call) → Kept r → Kept (called ring order r call)
  kept_call r (Call.Relate f) k = by (related ring order r.state f) refl
    where
      by : (o : Result State Refusal) → related ring order r.state f ≡ o → Kept (relating r f o)
      by (Err refusal) e = record { sound = k.sound; relations_are = k.relations_are }
      by (Ok state) e = let w = related_sound r.state state f k.sound e in record { sound = w.0; relations_are = w.1 ∙ ap (λ z. z ++ f ∷ []) k.relations_are }
  kept_call r (Call.Advance n) k = let w = advanced_sound n r.state k.sound in record { sound = w.0; relations_are = w.1 ∙ k.relations_are }
  kept_call r Call.Report k = record { sound = k.sound; relations_are = k.relations_are }
  kept_call r (Call.Remainder f a m t) k = record { sound = k.sound; relations_are = k.relations_are }
  kept_call r (Call.Decide f a) k = record { sound = k.sound; relations_are = k.relations_are }
  kept_call r (Call.Write m) k = record { sound = k.sound; relations_are = k.relations_are }

  kept_from : (r : Run) (calls : List Call) → Kept r → Kept (run_from ring order r calls)
  kept_from r [] k = k
  kept_from r (call ∷ calls) k = kept_from (called ring order r call) calls (kept_call r call k)

  pub kept : (calls : List Call) → Kept (run ring order calls)
  kept calls = kept_from at_start calls (record { sound = record { within = record { lines = omega arith; monomials = omega arith; steps = omega arith; settled_jobs = omega arith }; entries = tt; grown = tt; settled = λ j h. absurd (omega arith) }; relations_are = refl })
