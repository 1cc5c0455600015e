-- The bytes of a line.
use Rattle.layout.proofs.Lengths.{line_length}
use Rattle.layout.proofs.line_sizes.Goals as goal

pub returns : goal.returns
returns c = line_length
