-- The number of each refusal.
use Rattle.std.specs.Prelude.{ℕ}
use Rattle.refusal.specs.declared.Refusal.{Refusal}
use Rattle.refusal.specs.declared.Refusal.TheVariants.{RingSize, TooManyMonomials, CoefficientOutOfRange, TermsNotFalling, EmptyFormula, LinesFull, TablesFull, ExponentTooLarge, SumTooLong, AllowanceUsed, MemoryTooShort, NotComplete, OtherKinds, NotASheet, StepOutOfRange, NotTheSum, NotSettled}

abbrev pub number : Refusal → ℕ
number RingSize = 1
number TooManyMonomials = 2
number CoefficientOutOfRange = 3
number TermsNotFalling = 4
number EmptyFormula = 5
number LinesFull = 6
number TablesFull = 7
number ExponentTooLarge = 8
number SumTooLong = 9
number AllowanceUsed = 10
number MemoryTooShort = 11
number NotComplete = 12
number OtherKinds = 13
number NotASheet = 14
number StepOutOfRange = 15
number NotTheSum = 16
number NotSettled = 17
