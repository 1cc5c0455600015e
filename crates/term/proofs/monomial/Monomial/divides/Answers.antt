-- No exponent is larger.
use Rattle.std.proofs.Common.{leb, rules, tests}
use Rattle.std.proofs.lemmas.Iterator.Search.{all_from_yields_List}
use Rattle.term.specs.Packed.{term_of}
use Rattle.term.proofs.Listed.{pairs, divides_listed}
use Rattle.term.proofs.monomial.Monomial.divides.Goals as goal

pub returns : goal.returns
returns c =
    let s = term_of c.args.self.bits in
    let t = term_of c.args.other.bits in
    divides_listed s t (all_from_yields_List (λ p. leb p.0 p.1) c.all.new.self _ _ c.all.ensures.ran (pairs s t (search rules) (search rules)) (λ x b q k. search (rules, tests)))
