-- Small workbooks over six codes in the order lex, and the formulas and the memory of their calls.
use Rattle.std.specs.Prelude.{ℕ, zero, suc, ◌+◌, ◌*◌, List, [], ◌∷◌, replicate}
use Rattle.order.specs.Term.{Term}
use Rattle.term.specs.Orders.{lex}
use Rattle.term.specs.declared.monomial.Monomial.{Monomial}
use Rattle.term.specs.declared.monomial.Step.{Step}
use Rattle.basis.specs.Combination.{Step as PlainStep}
use Rattle.basis_tests.specs.SixCodes.{six}
use Rattle.layout.specs.Worked.{packed, times_line}
use Rattle.model.specs.Workbook.{State}
use Rattle.model.specs.Runs.{Call, Run, run}

-- p·a + q
abbrev pub linear : ℕ → ℕ → List Monomial
linear p q = packed (0x0100_0000_0000_0000 + p) ∷ packed q ∷ []

-- 2a² + 3a + 1
abbrev pub relation : List Monomial
relation = packed 0x0200_0000_0000_0002 ∷ packed 0x0100_0000_0000_0003 ∷ packed 0x0000_0000_0000_0001 ∷ []

-- a code times a term times that relation
abbrev pub of_relation : ℕ → Term → PlainStep
of_relation c t = record { code = c; term = t; line = 0 }

-- the workbook with that one relation, before any job and after all of them
abbrev pub related_run : Run
related_run = run six lex (Call.Relate relation ∷ [])

abbrev pub completed_run : Run
completed_run = run six lex (Call.Relate relation ∷ Call.Advance 20 ∷ Call.Report ∷ [])

abbrev pub completed : State
completed = completed_run.state

-- a + 5b²⁰⁰, in a workbook of its own
abbrev pub tall_relation : List Monomial
tall_relation = packed 0x0100_0000_0000_0001 ∷ packed 0x00c8_0000_0000_0005 ∷ []

abbrev pub tall : State
tall = (run six lex (Call.Relate tall_relation ∷ [])).state

-- a², and a·b²⁰⁰
abbrev pub square : List Monomial
square = packed 0x0200_0000_0000_0001 ∷ []

abbrev pub tall_product : List Monomial
tall_product = packed 0x01c8_0000_0000_0001 ∷ []

-- memory for n monomials, n steps or n bytes, with what it held before
abbrev pub old_monomials : ℕ → List Monomial
old_monomials n = replicate n (packed 7)

abbrev pub old_steps : ℕ → List Step
old_steps n = replicate n (times_line 7 7)

abbrev pub old_bytes : ℕ → List ℕ
old_bytes n = replicate n 7

-- aⁿ + 5, and a + 5b
abbrev pub power_relation : ℕ → List Monomial
power_relation n = packed (n * 0x0100_0000_0000_0000 + 1) ∷ packed 5 ∷ []

abbrev pub swap_relation : List Monomial
swap_relation = packed 0x0100_0000_0000_0001 ∷ packed 0x0001_0000_0000_0005 ∷ []

-- a workbook with these two relations, and as many jobs settled as can be
abbrev pub power_run : ℕ → Run
power_run n = run six lex (Call.Relate (power_relation n) ∷ Call.Relate swap_relation ∷ Call.Advance 20 ∷ [])

-- a workbook in which each register is the next one, and the last is 1: a + 5b, b + 5c, c + 5d, d + 5e, e + 5f, f + 5
abbrev pub chain : State
chain = (run six lex (
    Call.Relate swap_relation
    ∷ Call.Relate (packed 0x0001_0000_0000_0001 ∷ packed 0x0000_0100_0000_0005 ∷ [])
    ∷ Call.Relate (packed 0x0000_0100_0000_0001 ∷ packed 0x0000_0001_0000_0005 ∷ [])
    ∷ Call.Relate (packed 0x0000_0001_0000_0001 ∷ packed 0x0000_0000_0100_0005 ∷ [])
    ∷ Call.Relate (packed 0x0000_0000_0100_0001 ∷ packed 0x0000_0000_0001_0005 ∷ [])
    ∷ Call.Relate (packed 0x0000_0000_0001_0001 ∷ packed 0x0000_0000_0000_0005 ∷ [])
    ∷ []
    )).state

-- aⁿ⁻¹ + … + a + 1, which has n monomials
abbrev pub powers : ℕ → List Monomial
powers zero = []
powers (suc n) = packed (n * 0x0100_0000_0000_0000 + 1) ∷ powers n

-- 3a⁶³ + b, in a workbook of its own
abbrev pub wide : State
wide = (run six lex (Call.Relate (packed 0x3f00_0000_0000_0003 ∷ packed 0x0001_0000_0000_0001 ∷ []) ∷ [])).state
