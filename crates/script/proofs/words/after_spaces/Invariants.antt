-- What is left has the same bytes after its spaces.
use Rattle.std.proofs.Common.{◌≡◌, length}
use Rattle.script.specs.Words.{after_spaces}
use Rattle.script.proofs.words.after_spaces.Given as goal

abbrev pub invariant-loop-rest : goal.invariant-loop-rest
invariant-loop-rest l = after_spaces l.rest ≡ after_spaces l.bytes

abbrev pub decreases-loop-rest : goal.decreases-loop-rest
decreases-loop-rest l = length l.rest
