-- The monomials in front go in, and then the product.
use Rattle.std.proofs.Common.{refl, arith}
use Rattle.std.proofs.lemmas.List.Sums.{prefix_len-le-length}
use Rattle.std.proofs.lemmas.Result.{err_from_is_err_and}
use Rattle.formula.specs.Formula.{is_after}
use Rattle.formula.specs.Held.{held}
use Rattle.formula.specs.Sum.{joined, kept, merged, unjoined}
use Rattle.formula.proofs.Puts.{put_more, no_room}
use Rattle.formula.proofs.Merging.{product_in}
use Rattle.formula.proofs.polynomial_ring.PolynomialRing.put_product.Goals as goal

pub split_at-requires : goal.split_at-requires
split_at-requires g c = omega (arith, c.leading.ensures, prefix_len-le-length (is_after (g.O.Order.meaning c.args.self.now.order) c.args.product) c.args.list.now)

pub returns-in_err-put_all : goal.returns-in_err-put_all
returns-in_err-put_all g c =
    let p = err_from_is_err_and c.from_residual.result c.from_residual.ensures.1 in
    let h = c.in_err-put_all.ensures in
    let ring = g.R.Ring.meaning c.args.self.now.ring in
    let order = g.O.Order.meaning c.args.self.now.order in
    let n = c.args.product in
    let others = c.split_at.result.1.now in
    let step = product_in ring order c.args.list.now c.split_at.result.0.now others (unjoined order others n) c.leading.result n (joined ring order others n) c.leading.ensures c.split_at.ensures.front c.split_at.ensures.back refl refl in
    rw (p.1, p.2) (h.0, λ products. no_room _ _ _ _ _ (step products) h.1 refl)

pub returns-in_err-put : goal.returns-in_err-put
returns-in_err-put g c =
    let p = err_from_is_err_and c.from_residual-in_err-put.result c.from_residual-in_err-put.ensures.1 in
    let h = c.in_err-put.ensures in
    let ring = g.R.Ring.meaning c.args.self.now.ring in
    let order = g.O.Order.meaning c.args.self.now.order in
    let left = c.join.result.1.now in
    let step = product_in ring order c.args.list.now c.split_at.result.0.now c.split_at.result.1.now left c.leading.result c.args.product c.join.result.0 c.leading.ensures c.split_at.ensures.front c.split_at.ensures.back c.join.ensures.joined c.join.ensures.rest in
    rw (p.1, p.2) (h.0, λ products. no_room (held c.put_all.new.self) (kept c.join.result.0) (merged ring order left products) _ _ refl h.1 (put_more _ _ _ _ _ _ (step products) c.in_ok-put_all.ensures refl))

pub returns : goal.returns
returns g c =
    let ring = g.R.Ring.meaning c.args.self.now.ring in
    let order = g.O.Order.meaning c.args.self.now.order in
    let left = c.join.result.1.now in
    let step = product_in ring order c.args.list.now c.split_at.result.0.now c.split_at.result.1.now left c.leading.result c.args.product c.join.result.0 c.leading.ensures c.split_at.ensures.front c.split_at.ensures.back c.join.ensures.joined c.join.ensures.rest in
    λ products. put_more (held c.put_all.new.self) (held c.put.new.self) (kept c.join.result.0) (merged ring order left products) _ _ refl c.in_ok-put.ensures (put_more _ _ _ _ _ _ (step products) c.in_ok-put_all.ensures refl)
