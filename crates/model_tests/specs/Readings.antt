-- What the calls of small workbooks answer, worked out by hand.
use Rattle.std.specs.Prelude.{◌≡◌, true, false, [], ◌∷◌, ◌++◌, length, take, drop, replicate, Ok, Err}
use Rattle.refusal.specs.declared.Refusal.TheVariants.{AllowanceUsed, CoefficientOutOfRange, EmptyFormula, ExponentTooLarge, LinesFull, MemoryTooShort, NotASheet, NotComplete, NotSettled, NotTheSum, OtherKinds, StepOutOfRange, SumTooLong, TablesFull, TermsNotFalling, TooManyMonomials}
use Rattle.order.specs.Term.{unit}
use Rattle.term.specs.Orders.{lex, reverse}
use Rattle.basis_tests.specs.SixCodes.{power, six}
use Rattle.layout.specs.Worked.{packed, three_lines, three_lines_sheet, times_line}
use Rattle.model.specs.Workbook.{all_steps, formulas}
use Rattle.model.specs.Jobs.{Job, job}
use Rattle.model.specs.Reduction.{stepped}
use Rattle.model.specs.Settling.{job_reduced, job_reductions}
use Rattle.model.specs.Calls.{advanced, decided, related, remainder, sheet, written}
use Rattle.model.specs.Runs.{Answer, Call, run}
use Rattle.model.specs.Spelling.{spelled_lines}
use Rattle.model.specs.Audit.{audited}
use Rattle.model.specs.declared.answers.Stop.TheVariants.{Complete, Reached, Refused}
use Rattle.model.specs.declared.answers.Verdict.TheVariants.{In, Out, Open}
use Rattle.model_tests.specs.Worked.{chain, completed, completed_run, linear, of_relation, old_bytes, old_monomials, old_steps, power_run, powers, related_run, relation, square, tall, tall_product, wide}

-- relate 2a² + 3a + 1 and advance: 3 times it is line 1, 3a + 3, and 2 times it plus a times line 1 is line 2, a² + 3a + 2
pub record WorkedRun : Type 0 where
  pub lines : completed.lines ≡ three_lines
  pub relations : completed_run.relations ≡ relation ∷ []
  -- down to the relation, line 1 is 3 times it and line 2 is 2 + 3a times it
  pub spelled : spelled_lines six completed.lines ≡ (of_relation 1 unit ∷ []) ∷ (of_relation 3 unit ∷ []) ∷ (of_relation 2 unit ∷ of_relation 3 (power 1) ∷ []) ∷ []
  -- the relation is line 0; nine jobs are settled, and that is all; the report says so
  pub answers : completed_run.answers ≡ Answer.Line (Ok 0) ∷ Answer.Progress (record { settled = 9; stop = Complete }) ∷ Answer.Standing (record { lines = 3; settled = 9; complete = true }) ∷ []
  -- line 1 comes of the A-job of line 0 and line 2 of the G-job of lines 0 and 1
  pub first_job : job 0 ≡ Job.A 0
  pub third_job : job 2 ≡ Job.G 0 1
  pub last_job : job 8 ≡ Job.S 1 2
  pub on_the_way : drop 1 (run six lex (Call.Relate relation ∷ Call.Advance 1 ∷ Call.Report ∷ Call.Advance 1 ∷ Call.Report ∷ Call.Advance 1 ∷ Call.Report ∷ [])).answers
      ≡ Answer.Progress (record { settled = 1; stop = Reached }) ∷ Answer.Standing (record { lines = 2; settled = 1; complete = false })
      ∷ Answer.Progress (record { settled = 1; stop = Reached }) ∷ Answer.Standing (record { lines = 2; settled = 2; complete = false })
      ∷ Answer.Progress (record { settled = 1; stop = Reached }) ∷ Answer.Standing (record { lines = 3; settled = 3; complete = false })
      ∷ []
  pub one_job_at_a_time : (run six lex (Call.Relate relation ∷ replicate 9 (Call.Advance 1))).state ≡ completed
  pub nothing_more : advanced six lex 1 completed ≡ record { state = completed; answer = record { settled = 0; stop = Complete } }

-- in that workbook, 4a + 5 less line 1 is a + 2; a + 1 is no combination of the relation, and 3a + 3 is one
pub record WorkedRemainders : Type 0 where
  -- 1 times line 1 was subtracted
  pub one_step : remainder six lex completed (linear 4 5) 1 (old_monomials 64) (old_steps 16) ≡ record {
    answer = Ok (record { length = 2; steps = 1 });
    result = linear 1 2 ++ old_monomials 62;
    trail = times_line 1 1 ∷ old_steps 15;
  }
  pub without_allowance : remainder six lex completed (linear 4 5) 0 (old_monomials 64) (old_steps 16) ≡ record { answer = Err AllowanceUsed; result = old_monomials 64; trail = old_steps 16 }
  pub just_enough_memory : remainder six lex completed (linear 4 5) 1 (old_monomials 2) (old_steps 1) ≡ record { answer = Ok (record { length = 2; steps = 1 }); result = linear 1 2; trail = times_line 1 1 ∷ [] }
  pub short_result : remainder six lex completed (linear 4 5) 1 (old_monomials 1) (old_steps 1) ≡ record { answer = Err MemoryTooShort; result = old_monomials 1; trail = old_steps 1 }
  pub short_trail : remainder six lex completed (linear 4 5) 1 (old_monomials 2) [] ≡ record { answer = Err MemoryTooShort; result = old_monomials 2; trail = [] }
  pub out : decided six lex completed (linear 1 1) 0 ≡ Ok (record { verdict = Out; steps = 0 })
  pub is_in : decided six lex completed (linear 3 3) 1 ≡ Ok (record { verdict = In; steps = 1 })
  pub relation_is_in : decided six lex completed relation 1 ≡ Ok (record { verdict = In; steps = 1 })
  -- before the first job nothing is known of 3a + 3
  pub still_open : decided six lex related_run.state (linear 3 3) 1 ≡ Ok (record { verdict = Open; steps = 0 })

-- the sheet of that workbook, where it is written, and what the audit says to it and to bytes near it
pub record WorkedAudit : Type 0 where
  pub bytes : length (sheet six lex completed.lines) ≡ 98
  pub begins : take 3 (sheet six lex completed.lines) ≡ 0x11 ∷ 3 ∷ 3 ∷ []
  pub written_to_98 : written six lex completed (old_bytes 98) ≡ record { answer = Ok 98; memory = three_lines_sheet }
  pub written_to_100 : written six lex completed (old_bytes 100) ≡ record { answer = Ok 98; memory = three_lines_sheet ++ old_bytes 2 }
  pub written_to_97 : written six lex completed (old_bytes 97) ≡ record { answer = Err MemoryTooShort; memory = old_bytes 97 }
  pub before_the_jobs : written six lex related_run.state (old_bytes 98) ≡ record { answer = Err NotComplete; memory = old_bytes 98 }
  pub passes : audited six lex three_lines_sheet ≡ Ok tt
  pub no_lines : audited six lex (0x11 ∷ 0 ∷ []) ≡ Ok tt
  pub other_order : audited six reverse three_lines_sheet ≡ Err OtherKinds
  pub one_byte : audited six lex (0x11 ∷ []) ≡ Err NotASheet
  pub cut_short : audited six lex (take 97 three_lines_sheet) ≡ Err NotASheet
  pub left_over : audited six lex (three_lines_sheet ++ 0 ∷ []) ≡ Err NotASheet
  -- the last byte is the line of the last step: line 2 is not before itself, and a times line 0 is another sum
  pub of_itself : audited six lex (take 97 three_lines_sheet ++ 2 ∷ []) ≡ Err StepOutOfRange
  pub of_line_0 : audited six lex (take 97 three_lines_sheet ++ 0 ∷ []) ≡ Err NotTheSum
  -- the first line alone has 25 bytes, and its A-polynomial 3a + 3 stays; the first two have 52, and no head divides a²
  pub first_alone : audited six lex (0x11 ∷ 1 ∷ take 25 (drop 2 three_lines_sheet)) ≡ Err NotSettled
  pub first_two : audited six lex (0x11 ∷ 2 ∷ take 52 (drop 2 three_lines_sheet)) ≡ Err NotSettled

-- over a + 5b²⁰⁰ alone: a² less a times that line is a·b²⁰⁰, and to go on would make b⁴⁰⁰
pub record WorkedRefusals : Type 0 where
  pub first_step : stepped six lex (formulas tall.lines) square (times_line 0x0100_0000_0000_0005 0) ≡ Ok tall_product
  pub second_step : stepped six lex (formulas tall.lines) tall_product (times_line 0x00c8_0000_0000_0005 0) ≡ Err ExponentTooLarge
  pub remainder_refused : remainder six lex tall square 1024 (old_monomials 64) (old_steps 16) ≡ record { answer = Err ExponentTooLarge; result = old_monomials 64; trail = old_steps 16 }
  pub two_steps_allowed : (remainder six lex tall square 2 (old_monomials 64) (old_steps 16)).answer ≡ Err ExponentTooLarge
  pub one_step_allowed : remainder six lex tall square 1 (old_monomials 64) (old_steps 16) ≡ record { answer = Err AllowanceUsed; result = old_monomials 64; trail = old_steps 16 }
  pub decision_refused : decided six lex tall square 1024 ≡ Err ExponentTooLarge
  pub decision_with_one_step : decided six lex tall square 1 ≡ Err AllowanceUsed
  -- no relation: nothing, terms that rise, the coefficient 6 of six codes
  pub empty : related six lex completed [] ≡ Err EmptyFormula
  pub rising : related six lex completed (packed 1 ∷ packed 0x0100_0000_0000_0001 ∷ []) ≡ Err TermsNotFalling
  pub no_code : related six lex completed (linear 6 1) ≡ Err CoefficientOutOfRange

-- what just fits the limits, and what just does not
pub record WorkedLimits : Type 0 where
  -- the S-polynomial of a⁶³ + 5 and a + 5b takes 62 reductions, and b⁶³ + 5 is entered with 64 steps; in the audit line 2 takes it away by one more
  pub most_reductions : (power_run 63).answers ≡ Answer.Line (Ok 0) ∷ Answer.Line (Ok 1) ∷ Answer.Progress (record { settled = 9; stop = Complete }) ∷ []
  pub entered_last : drop 2 (formulas (power_run 63).state.lines) ≡ (packed 0x003f_0000_0000_0001 ∷ packed 5 ∷ []) ∷ []
  pub with_64_steps : all_steps (power_run 63).state.lines ≡ 64
  pub audit_takes_one_more : audited six lex (sheet six lex (power_run 63).state.lines) ≡ Ok tt
  pub audit_needs_it : job_reduced six lex (formulas (power_run 63).state.lines) job_reductions (Job.S 0 1) ≡ Err AllowanceUsed
  -- that of a⁶⁴ + 5 and a + 5b would take 63
  pub too_many_reductions : (power_run 64).answers ≡ Answer.Line (Ok 0) ∷ Answer.Line (Ok 1) ∷ Answer.Progress (record { settled = 3; stop = Refused AllowanceUsed }) ∷ []
  -- a¹⁷⁰·f⁴ comes to 1 in 6·170 + 4 steps, and an allowance above 1,024 is not more than 1,024
  pub most_steps : decided six lex chain (packed 0xaa00_0000_0004_0001 ∷ []) 5000 ≡ Ok (record { verdict = Open; steps = 1024 })
  pub too_many_steps : decided six lex chain (packed 0xaa00_0000_0005_0001 ∷ []) 5000 ≡ Err AllowanceUsed
  -- 4a⁶³ and 63 smaller powers, less 3a⁶³ + b, would have 65 monomials
  pub sum_too_long : decided six lex wide (packed 0x3f00_0000_0000_0004 ∷ powers 63) 1 ≡ Err SumTooLong
  pub most_monomials : (run six lex (Call.Relate (powers 64) ∷ [])).answers ≡ Answer.Line (Ok 0) ∷ []
  pub too_many_monomials : (run six lex (Call.Relate (powers 65) ∷ [])).answers ≡ Answer.Line (Err TooManyMonomials) ∷ []
  -- line 63 is the last, and 32 lines of 64 monomials fill the table
  pub lines_full : drop 63 (run six lex (replicate 65 (Call.Relate square))).answers ≡ Answer.Line (Ok 63) ∷ Answer.Line (Err LinesFull) ∷ []
  pub tables_full : drop 31 (run six lex (replicate 32 (Call.Relate (powers 64)) ++ Call.Relate square ∷ [])).answers ≡ Answer.Line (Ok 31) ∷ Answer.Line (Err TablesFull) ∷ []
