-- Two formulas that stay.
use Rattle.model_tests.proofs.Errors.{dividing_is_not_enough}
use Rattle.model_tests.proofs.dividing_is_not_enough.Goals as goal

pub returns : goal.returns
returns c = dividing_is_not_enough
