-- The test of each number gives the answer.
use Rattle.std.proofs.Common.{arith, sym, ◌∙◌, get_or, length, rules, tests}
use Rattle.std.proofs.lemmas.Iterator.{YieldsList-from_range}
use Rattle.std.proofs.lemmas.Iterator.Search.{all_from_yields_List}
use Rattle.order.specs.Term.{product}
use Rattle.term.specs.Packed.{fits}
use Rattle.formula.specs.Formula.{blank, term}
use Rattle.formula.proofs.Merging.{products_fit_is_all}
use Rattle.formula.proofs.sum.Multiple.fits.Goals as goal

pub returns : goal.returns
returns g c =
    let s = c.args.self.now.factor in
    let line = g.M.Row.monomials c.args.self.now.line.now in
    all_from_yields_List (λ k. fits (product (term s) (term (get_or line k blank)))) _ _ c.all.result c.all.ensures.ran (YieldsList-from_range 0 (length line) (length line) (cc) (omega arith)) (λ x b q k. search (rules, tests)) ∙ sym (products_fit_is_all s line)
