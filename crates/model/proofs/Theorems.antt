-- The theorems about the calls, put together.
use Rattle.std.proofs.Common.{◌≡◌, ℕ, zero, suc, ◌<◌, List, [], ◌∷◌, ◌++◌, length, get_or, take, Ok, sym, refl, ap, ◌∙◌, subst, arith}
use Rattle.std.specs.List.{AllByRecursion}
use Rattle.std.proofs.lemmas.List.{append_assoc, append-nil}
use Rattle.std.proofs.lemmas.Bool.{lt-leb}
use Rattle.ring.specs.CoefficientRing.{CoefficientRing}
use Rattle.order.specs.TermOrder.{TermOrder}
use Rattle.term.specs.declared.monomial.Monomial.{Monomial}
use Rattle.formula.specs.Polynomial.{Packed}
use Rattle.layout.specs.Line.{Line}
use Rattle.model.specs.Workbook.{State, complete, formulas, jobs, relations}
use Rattle.model.specs.Runs.{Call, run}
use Rattle.model.specs.Rules.{LineLawful, numbered}
use Rattle.model.specs.Grants.{GrantedExactly, RunLimits, with_relation}
use Rattle.model.specs.Spelling.{spelled_lines}
use Rattle.model.specs.Law.{DecisionsHold, Law, LinesSpellRelations, RunLaw, SameExactlyOnCombinations}
use Rattle.model.proofs.Grants.{relate_checks, relate_granted, unwritten_memory, write_checks, write_granted, written_exactly}
use Rattle.model.proofs.GrantedRemainders.{decided_exactly, remainder_exactly, remainder_memories, remainder_refused}
use Rattle.model.proofs.Growth.{length_formulas}
use Rattle.model.proofs.Invariant.{AllGrown, Kept, Sound, jobs_more, kept}
use Rattle.model.proofs.Spellings.{at_plain_steps, spelt}
use Rattle.model.proofs.Uniqueness.{decisions_hold, result_plus_trail, same_exactly_on_combinations}
use Rattle.model.proofs.Sheets.{only_strong_sheets_pass, written_sheets_decode, written_sheets_pass}

module _ (ring : CoefficientRing) (order : TermOrder) where
  spell_relations : (state : State) → Sound ring order state → LinesSpellRelations ring order state (relations state.lines)
  spell_relations state s = record {
    relations_in_order = refl;
    lines_as_spelled = λ k h t. ap (λ c. c.0) ((spelt ring order state.lines s.grown).same k (subst (λ n. k < n) (sym (length_formulas state.lines)) h) t
        ∙ sym (at_plain_steps ring (relations state.lines) (get_or (spelled_lines ring state.lines) k []) t));
  }

  -- the law after a list of calls
  run_law : (calls : List Call) → RunLaw ring order calls
  run_law calls =
      let k : Kept ring order (run ring order calls) = kept ring order calls in
      let state : State = (run ring order calls).state in
      let are : relations state.lines ≡ (run ring order calls).relations = k.relations_are in
      record {
        same_exactly_on_combinations = subst (SameExactlyOnCombinations ring order state) are (same_exactly_on_combinations ring order state k.sound);
        lines_spell_relations = subst (LinesSpellRelations ring order state) are (spell_relations state k.sound);
        written_sheets_pass = λ p. written_sheets_pass ring order state k.sound (subst (AllByRecursion Packed) (sym are) p);
        written_sheets_decode = λ p. written_sheets_decode ring order state k.sound (subst (AllByRecursion Packed) (sym are) p);
        result_plus_trail = result_plus_trail ring order state k.sound;
        decisions_hold = subst (DecisionsHold ring order state) are (decisions_hold ring order state k.sound);
      }

  pub law : Law ring order
  law = record {
    every_run = run_law;
    only_strong_sheets_pass = only_strong_sheets_pass ring order;
    no_other_state = λ state granted n calls e q.
        n (
          subst (λ s. SameExactlyOnCombinations ring order s granted) e (subst (SameExactlyOnCombinations ring order (run ring order calls).state) q (run_law calls).same_exactly_on_combinations),
          subst (λ s. LinesSpellRelations ring order s granted) e (subst (LinesSpellRelations ring order (run ring order calls).state) q (run_law calls).lines_spell_relations),
        );
  }

  pub granted_exactly : GrantedExactly ring order
  granted_exactly = record {
    relate = λ state f after. (relate_checks ring order state f after, λ h. relate_granted ring order state f h.0 ∙ ap Ok (sym h.1));
    remainder_granted = remainder_exactly ring order;
    remainder_leaves = remainder_memories ring order;
    remainder_refused = remainder_refused ring order;
    decide = decided_exactly ring order;
    write_granted = written_exactly ring order;
    write_leaves = λ state memory n h. write_granted ring order state memory (write_checks ring order state memory n h);
    write_refused = unwritten_memory ring order;
  }

  -- each line of grown lines, by its number
  lawful_at : (F : List (List Monomial)) (lines : List Line) → AllGrown ring order F lines → (k : ℕ) → k < length lines → LineLawful ring order (F ++ formulas (take k lines)) (numbered lines k)
  lawful_at F [] g k h = absurd (omega arith)
  lawful_at F (line ∷ lines) g zero h = subst (λ G. LineLawful ring order G line) (sym (append-nil F)) g.0.lawful
  lawful_at F (line ∷ lines) g (suc k) h = subst (λ G. LineLawful ring order G (numbered lines k)) (append_assoc F (line.formula ∷ []) (formulas (take k lines))) (lawful_at (F ++ line.formula ∷ []) lines g.1 k (omega arith))

  pub run_limits : (calls : List Call) → RunLimits ring order calls
  run_limits calls =
      let s : Sound ring order (run ring order calls).state = (kept ring order calls).sound in
      record {
        within = s.within;
        lawful_lines = lawful_at [] (run ring order calls).state.lines s.grown;
        relate_leaves_incomplete = λ c f after h.
            let e : after ≡ with_relation (run ring order calls).state f = (relate_checks ring order (run ring order calls).state f after h).1 in
            ap complete e ∙ lt-leb (jobs (with_relation (run ring order calls).state f).lines) (run ring order calls).state.settled
            (let m = jobs_more (run ring order calls).state.lines (record { formula = f; steps = [] }) in let l = s.within.settled_jobs in omega arith);
      }
