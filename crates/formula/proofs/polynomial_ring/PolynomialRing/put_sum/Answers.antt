-- At the end of the line what is left of the formula is put.
use Rattle.std.proofs.Common.{◌++◌, sym, ap, ◌∙◌, arith}
use Rattle.formula.specs.Held.{held}
use Rattle.formula.specs.Sum.{merged, multiplied, nonzero}
use Rattle.formula.proofs.Puts.{appended_same}
use Rattle.formula.proofs.Merging.{products_all}
use Rattle.formula.proofs.polynomial_ring.PolynomialRing.put_sum.Goals as goal

pub returns : goal.returns
returns g c =
    let ring = g.R.Ring.meaning c.args.self.now.ring in
    let order = g.O.Order.meaning c.args.self.now.order in
    let s = c.args.multiple.now.factor in
    let line = g.M.Row.monomials c.args.multiple.now.line.now in
    let before = held c.loop-k.sum in
    let step = products_all ring order s line c.loop-k.rest.now c.loop-k.k (omega arith) in
    appended_same c.put_all.result before (nonzero c.loop-k.rest.now) (held c.args.sum.now) (merged ring order c.args.formula.now (multiplied ring s line)) (held c.put_all.new.self) (ap (λ l. before ++ l) (sym step) ∙ c.loop-k.invariant.whole) c.put_all.ensures
