-- What the program prints of an answer.
use Rattle.std.specs.Prelude.{ℕ, List, ◌++◌, Some, None, Ok, Err, codes, decimal, Result}
use Rattle.std.specs.declared.cmp.Ordering.TheVariants.{Less, Equal, Greater}
use Rattle.refusal.specs.declared.Refusal.{Refusal}
use Rattle.refusal.specs.Number.{number}
use Rattle.term.specs.declared.monomial.Monomial.{Monomial}
use Rattle.formula.specs.Held.{held}
use Rattle.formula.specs.Text.{formula_text}
use Rattle.answer.specs.declared.Answer.{Answer}
use Rattle.answer.specs.declared.FormulaAnswer.{FormulaAnswer}
use Rattle.answer.specs.declared.Answer.TheVariants as answer

-- the line of a refusal, without its newline
abbrev pub text_of_refusal : Refusal → List ℕ
text_of_refusal refusal = codes "refused " ++ decimal (number refusal)

-- the line of a formula or of its refusal, where a ring's one has this code
abbrev pub text_of_formula : (one : ℕ) → Result (List Monomial) Refusal → List ℕ
text_of_formula one (Ok f) = codes "formula " ++ formula_text one f
text_of_formula one (Err refusal) = text_of_refusal refusal

-- an answer's line
abbrev pub text_of_answer : Answer → List ℕ
text_of_answer (answer.Ring size) = codes "ring " ++ decimal size
text_of_answer (answer.Order kind) = codes "order " ++ decimal kind
text_of_answer (answer.Code code) = decimal code
text_of_answer (answer.Quotient (Some q)) = decimal q
text_of_answer (answer.Quotient None) = codes "none"
text_of_answer (answer.Gcd b) = decimal b.g ++ (codes " " ++ (decimal b.u ++ (codes " " ++ decimal b.v)))
text_of_answer (answer.Comparison Less) = codes "less"
text_of_answer (answer.Comparison Equal) = codes "equal"
text_of_answer (answer.Comparison Greater) = codes "greater"

-- the line of a formula that is answered
abbrev pub text_of_formula_answer : FormulaAnswer → List ℕ
text_of_formula_answer answer = text_of_formula answer.one (Ok (held answer.formula))

-- the line of a formula that is answered or of a refusal
abbrev pub text_of_formula_result : Result FormulaAnswer Refusal → List ℕ
text_of_formula_result (Ok answer) = text_of_formula_answer answer
text_of_formula_result (Err refusal) = text_of_refusal refusal
