-- The sheet and the audits, by computing.
use Rattle.model_tests.proofs.Readings.{worked_audit}
use Rattle.model_tests.proofs.worked_audit.Goals as goal

pub returns : goal.returns
returns c = worked_audit
