-- The refusals, by computing.
use Rattle.model_tests.proofs.Readings.{worked_refusals}
use Rattle.model_tests.proofs.worked_refusals.Goals as goal

pub returns : goal.returns
returns c = worked_refusals
