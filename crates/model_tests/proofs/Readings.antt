-- The readings, by computing.
use Rattle.std.proofs.Common.{refl}
use Rattle.term.specs.Orders.{lex, reverse}
use Rattle.modular.specs.Least.{greatest, least}
use Rattle.modular.specs.Divisor.{common_divisor}
use Rattle.model.specs.Jobs.{job}
use Rattle.model_tests.specs.Readings.{WorkedAudit, WorkedLimits, WorkedRefusals, WorkedRemainders, WorkedRun}

pub worked_run : WorkedRun
unfolding common_divisor greatest least lex job
worked_run = record { lines = refl; relations = refl; spelled = refl; answers = refl; first_job = refl; third_job = refl; last_job = refl; on_the_way = refl; one_job_at_a_time = refl; nothing_more = refl }

pub worked_remainders : WorkedRemainders
unfolding common_divisor greatest least lex job
worked_remainders = record { one_step = refl; without_allowance = refl; just_enough_memory = refl; short_result = refl; short_trail = refl; out = refl; is_in = refl; relation_is_in = refl; still_open = refl }

pub worked_audit : WorkedAudit
unfolding common_divisor greatest least lex reverse job
worked_audit = record {
  bytes = refl;
  begins = refl;
  written_to_98 = refl;
  written_to_100 = refl;
  written_to_97 = refl;
  before_the_jobs = refl;
  passes = refl;
  no_lines = refl;
  other_order = refl;
  one_byte = refl;
  cut_short = refl;
  left_over = refl;
  of_itself = refl;
  of_line_0 = refl;
  first_alone = refl;
  first_two = refl;
}

pub worked_refusals : WorkedRefusals
unfolding common_divisor greatest least lex job
worked_refusals = record {
  first_step = refl;
  second_step = refl;
  remainder_refused = refl;
  two_steps_allowed = refl;
  one_step_allowed = refl;
  decision_refused = refl;
  decision_with_one_step = refl;
  empty = refl;
  rising = refl;
  no_code = refl;
}

pub worked_limits : WorkedLimits
unfolding common_divisor greatest least lex job
worked_limits = record {
  most_reductions = refl;
  entered_last = refl;
  with_64_steps = refl;
  audit_takes_one_more = refl;
  audit_needs_it = refl;
  too_many_reductions = refl;
  most_steps = refl;
  too_many_steps = refl;
  sum_too_long = refl;
  most_monomials = refl;
  too_many_monomials = refl;
  lines_full = refl;
  tables_full = refl;
}
