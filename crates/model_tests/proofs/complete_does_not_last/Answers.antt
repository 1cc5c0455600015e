-- A line more has more jobs.
use Rattle.model_tests.proofs.Errors.{complete_does_not_last}
use Rattle.model_tests.proofs.complete_does_not_last.Goals as goal

pub returns : goal.returns
returns c = complete_does_not_last
