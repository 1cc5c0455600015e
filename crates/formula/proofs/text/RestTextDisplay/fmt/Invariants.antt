-- What is written and the text of what is left make up the whole.
use Rattle.std.proofs.Common.{drop}
use Rattle.formula.specs.Text.{rest_text}
use Rattle.formula.proofs.Texts.{Writing}
use Rattle.formula.proofs.text.RestTextDisplay.fmt.Given as goal

abbrev pub invariant-loop-m : goal.invariant-loop-m
invariant-loop-m g l = Writing g.W.Write.write_str_gives l.initial.f l.f (rest_text l.one (drop l.m-index l.m-items)) (rest_text l.one l.m-items)
