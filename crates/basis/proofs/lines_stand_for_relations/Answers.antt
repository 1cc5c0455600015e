-- The combinations of lines and relations at this ring, which the check does not find with the lemma named on the function.
use Rattle.basis.proofs.Combinations.{lines_stand_for_relations}
use Rattle.basis.proofs.lines_stand_for_relations.Goals as goal

pub returns : goal.returns
returns g c = lines_stand_for_relations (g.R.Ring.meaning c.args.ring.now)
