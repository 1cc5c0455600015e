-- What is held is of the bytes that were taken off the input, which have no newline.
use Rattle.script.proofs.Lines.{SoFar}
use Rattle.script.proofs.line.Line.read.Given as goal

abbrev pub invariant-loop : goal.invariant-loop
invariant-loop g l = SoFar (g.R.Read.remaining l.initial.input) (g.R.Read.remaining l.input) l.self.bytes.items
