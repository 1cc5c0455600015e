-- The limits of runs, at this ring and this order, which the check does not find with the lemma named on the function.
use Rattle.model.proofs.Theorems.{run_limits}
use Rattle.model.proofs.laws.runs_keep_limits.Goals as goal

pub returns : goal.returns
returns g c = record { limits = run_limits (g.R.Ring.meaning c.args.polynomials.now.ring) (g.O.Order.meaning c.args.polynomials.now.order) }
