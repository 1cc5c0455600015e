-- What is held and the sum of what is left of both lists make up the whole, and what is left of the line fits.
use Rattle.std.proofs.Common.{◌≡◌, true, ◌++◌, drop}
use Rattle.formula.specs.Held.{held}
use Rattle.formula.specs.Sum.{merged, multiplied, products_fit}
use Rattle.formula.proofs.polynomial_ring.PolynomialRing.put_sum.Given as goal

abbrev pub invariant-loop-k : goal.invariant-loop-k
invariant-loop-k g l =
    let ring = g.R.Ring.meaning l.self.ring in
    let order = g.O.Order.meaning l.self.order in
    let s = l.multiple.factor in
    let line = g.M.Row.monomials l.multiple.line.now in
    record {
      whole : held l.sum ++ merged ring order l.rest (multiplied ring s (drop l.k line)) ≡ held l.initial.sum ++ merged ring order l.formula (multiplied ring s line);
      fitting : products_fit s (drop l.k line) ≡ true;
    }
