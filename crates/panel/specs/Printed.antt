-- What the program prints of a line of the script.
use Rattle.std.specs.Prelude.{ℕ, List, [], ◌∷◌, ◌++◌, Some, None, Ok, Err, Option, Result, codes, decimal}
use Rattle.script.specs.Faults.{text_of_fault}
use Rattle.answer.specs.declared.Answer.{Answer}
use Rattle.answer.specs.declared.FormulaAnswer.{FormulaAnswer}
use Rattle.answer.specs.Texts.{text_of_answer, text_of_formula_answer, text_of_refusal}
use Rattle.panel.specs.declared.failure.Failure.{Failure}
use Rattle.panel.specs.declared.failure.Failure.TheVariants.{Fault, Refused}

-- a line of text with its newline
abbrev pub line_with : List ℕ → List ℕ
line_with text = text ++ 10 ∷ []

-- what is printed of the line of a number: an answer, a refusal or what is wrong with it, and else nothing
abbrev pub printed : ℕ → Result (Option Answer) Failure → List ℕ
printed line (Ok (Some answer)) = line_with (text_of_answer answer)
printed line (Ok None) = []
printed line (Err (Refused refusal)) = line_with (text_of_refusal refusal)
printed line (Err (Fault fault)) = line_with (codes "error: line " ++ (decimal line ++ (codes ": " ++ text_of_fault fault)))

-- what is printed of a formula
abbrev pub printed_formula : FormulaAnswer → List ℕ
printed_formula answer = line_with (text_of_formula_answer answer)
