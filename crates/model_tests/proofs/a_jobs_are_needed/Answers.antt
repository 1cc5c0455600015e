-- Three times the relation is lost.
use Rattle.model_tests.proofs.Errors.{a_jobs_are_needed}
use Rattle.model_tests.proofs.a_jobs_are_needed.Goals as goal

pub returns : goal.returns
returns c = a_jobs_are_needed
