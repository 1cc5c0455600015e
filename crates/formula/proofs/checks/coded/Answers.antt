-- The test of each monomial gives the answer.
use Rattle.std.proofs.Common.{sym, ◌∙◌, rules, tests}
use Rattle.std.proofs.lemmas.Iterator.{YieldsList-from_slice}
use Rattle.std.proofs.lemmas.Iterator.Search.{all_from_yields_List}
use Rattle.formula.specs.Formula.{code, is_coefficient}
use Rattle.formula.proofs.Checking.{coded_is_all}
use Rattle.formula.proofs.checks.coded.Goals as goal

pub returns : goal.returns
returns g c =
    let ring = g.R.Ring.meaning c.args.ring.now in
    all_from_yields_List (λ m. is_coefficient ring (code m)) _ _ c.all.result c.all.ensures.ran (YieldsList-from_slice c.args.formula.now cc) (λ x b q k. search (rules, tests)) ∙ sym (coded_is_all ring c.args.formula.now)
