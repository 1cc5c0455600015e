-- What pedigrees spell: each line as steps over the relations, its own steps multiplied out down to relation lines.
use Rattle.std.specs.Prelude.{ℕ, ◌+◌, List, [], ◌∷◌, ◌++◌, length, slice_index_or}
use Rattle.ring.specs.CoefficientRing.{CoefficientRing}
use Rattle.order.specs.Term.{Term, product, unit}
use Rattle.term.specs.declared.monomial.Step.{Step}
use Rattle.formula.specs.Formula.{code, term}
use Rattle.basis.specs.Combination.{Step as PlainStep}
use Rattle.layout.specs.Line.{Line}
use Rattle.model.specs.Workbook.{relation_of}

module _ (ring : CoefficientRing) where
  -- a code times a term times a sum of steps
  abbrev pub multiplied_steps : ℕ → Term → List PlainStep → List PlainStep
  multiplied_steps c t [] = []
  multiplied_steps c t (s ∷ steps) = record { code = ring.product c s.code; term = product t s.term; line = s.line } ∷ multiplied_steps c t steps

  -- steps over lines, with each line put as the steps that it spells
  abbrev pub through : (spelled : List (List PlainStep)) → List Step → List PlainStep
  through spelled [] = []
  through spelled (s ∷ steps) = multiplied_steps (code s.factor) (term s.factor) (slice_index_or spelled s.line []) ++ through spelled steps

  -- what a line spells after lines that spell so much and n relations: a relation is itself, another line the sum of its steps
  abbrev pub spelling : (spelled : List (List PlainStep)) → (n : ℕ) → (steps : List Step) → List PlainStep
  spelling spelled n [] = record { code = ring.one; term = unit; line = n } ∷ []
  spelling spelled n (s ∷ steps) = through spelled (s ∷ steps)

  -- what lines spell, one after another
  abbrev pub spelled_after : (spelled : List (List PlainStep)) → (n : ℕ) → List Line → List (List PlainStep)
  spelled_after spelled n [] = spelled
  spelled_after spelled n (line ∷ lines) = spelled_after (spelled ++ spelling spelled n line.steps ∷ []) (n + length (relation_of line.steps line.formula)) lines

  -- what each of the lines spells over their relations, which are counted in order
  abbrev pub spelled_lines : List Line → List (List PlainStep)
  spelled_lines lines = spelled_after [] 0 lines
