-- The run, by computing.
use Rattle.model_tests.proofs.Readings.{worked_run}
use Rattle.model_tests.proofs.worked_run.Goals as goal

pub returns : goal.returns
returns c = worked_run
