-- A space at the front is passed over, and anything else ends the loop.
use Rattle.std.proofs.Common.{◌∙◌, rules}
use Rattle.script.proofs.Scans.{after_spaces_more, after_spaces_here, after_spaces_none}
use Rattle.script.proofs.words.after_spaces.Goals as goal

pub loop-rest-preserved : goal.loop-rest-preserved
loop-rest-preserved c =
    after_spaces_more c.loop-rest.rest.now (search rules) (search rules) ∙ c.loop-rest.invariant

pub returns-in_default : goal.returns-in_default
returns-in_default c = search (rules, after_spaces_none)

pub returns-in_default-2 : goal.returns-in_default-2
returns-in_default-2 c = search (rules, after_spaces_here)
