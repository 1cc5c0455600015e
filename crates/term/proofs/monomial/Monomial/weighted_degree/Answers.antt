-- The sum over the pairs of a weight and an exponent.
use Rattle.std.proofs.Common.{rules, tests}
use Rattle.std.proofs.lemmas.Iterator.{YieldsList-from_map}
use Rattle.std.proofs.lemmas.Iterator.Consumers.{sum_by_from_yields_List, fits_by_from_yields_list}
use Rattle.std.specs.List.{zip}
use Rattle.order.specs.Term.{exponents}
use Rattle.term.specs.Packed.{term_of}
use Rattle.term.proofs.Packing.{packing_laws}
use Rattle.term.proofs.Listed.{pairs, worth, weighted_listed, weighted_small}
use Rattle.term.proofs.monomial.Monomial.weighted_degree.Goals as goal

pub sum-requires-clause-fits : goal.sum-requires-clause-fits
sum-requires-clause-fits c =
    let w = term_of c.args.weights.bits in
    let t = term_of c.args.self.bits in
    fits_by_from_yields_list worth (zip (exponents w) (exponents t)) c.map.result _
    (YieldsList-from_map _ worth (pairs w t (search rules) (search rules)) c.map.ensures.closure (λ x r q k. search (rules, tests)))
    (weighted_small w t (packing_laws.term_fits c.args.weights.bits) (packing_laws.term_fits c.args.self.bits))

pub returns : goal.returns
returns c =
    let w = term_of c.args.weights.bits in
    let t = term_of c.args.self.bits in
    weighted_listed w t (sum_by_from_yields_List worth (zip (exponents w) (exponents t)) c.map.result _ c.sum.ensures.ran (YieldsList-from_map _ worth (pairs w t (search rules) (search rules)) c.map.ensures.closure (λ x r q k. search (rules, tests))))
