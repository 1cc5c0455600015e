-- What is held and what is left of the list make up the whole.
use Rattle.std.proofs.Common.{◌≡◌, ◌++◌, drop}
use Rattle.formula.specs.Held.{held}
use Rattle.formula.specs.Sum.{nonzero}
use Rattle.formula.proofs.working.WorkingFormula.put_all.Given as goal

abbrev pub invariant-loop-m : goal.invariant-loop-m
invariant-loop-m l = held l.self ++ nonzero (drop l.m-index l.list) ≡ held l.initial.self ++ nonzero l.list
