-- What fits the limits, by computing.
use Rattle.model_tests.proofs.Readings.{worked_limits}
use Rattle.model_tests.proofs.worked_limits.Goals as goal

pub returns : goal.returns
returns c = worked_limits
