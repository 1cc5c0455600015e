-- What is refused, put together.
use Rattle.ring.specs.CoefficientRing.{CoefficientRing}
use Rattle.order.specs.TermOrder.{TermOrder}
use Rattle.model.specs.Reduction.{reduced}
use Rattle.model.specs.Refusals.{RefusedInOrder}
use Rattle.model.proofs.Refusals.{refused_as, relate_refusals, remainder_refusals, step_refusals, write_refusals}
use Rattle.model.proofs.JobOutcomes.{job_outcomes, next_job_outcomes}
use Rattle.model.proofs.AuditRefusals.{audit_refusals}

pub refused_in_order : (ring : CoefficientRing) (order : TermOrder) → RefusedInOrder ring order
refused_in_order ring order = record {
  relates = relate_refusals ring order;
  steps = step_refusals ring order;
  reductions = λ F choose n f. refused_as ring order F choose n f (reduced ring order F choose n f) (λ refusal e. e);
  remainders = remainder_refusals ring order;
  each_job = job_outcomes ring order;
  next_job = next_job_outcomes ring order;
  writes = write_refusals ring order;
  audits = audit_refusals ring order;
}
