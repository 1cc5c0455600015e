-- As many bytes are added as there is room for.
use Rattle.std.proofs.Common.{rules}
use Rattle.script.proofs.Lines.{held_more}
use Rattle.script.proofs.line.Line.add.Goals as goal

pub returns : goal.returns
returns c = search (rules, held_more)
