-- The remainders and decisions, by computing.
use Rattle.model_tests.proofs.Readings.{worked_remainders}
use Rattle.model_tests.proofs.worked_remainders.Goals as goal

pub returns : goal.returns
returns c = worked_remainders
