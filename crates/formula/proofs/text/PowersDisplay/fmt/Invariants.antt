-- What is written and the text of the powers that are left make up the whole.
use Rattle.std.specs.Array.Iter.{array_into_iter_items}
use Rattle.std.specs.Iterator.Adapters.{zip_first, zip_second}
use Rattle.std.specs.Range.{range_inclusive_start}
use Rattle.order.specs.Term.{exponents}
use Rattle.formula.specs.Formula.{term}
use Rattle.formula.specs.Text.{powers_text}
use Rattle.formula.proofs.Powers.{Matched}
use Rattle.formula.proofs.Texts.{Writing}
use Rattle.formula.proofs.text.PowersDisplay.fmt.Given as goal

abbrev pub invariant-loop-letter : goal.invariant-loop-letter
invariant-loop-letter g l =
    let letters = zip_first l.letter-iterator in
    let left = array_into_iter_items (zip_second l.letter-iterator) in
    record {
      matched : Matched letters left;
      written : Writing g.W.Write.write_str_gives l.initial.f l.f (powers_text l.after (range_inclusive_start letters) left) (powers_text l.self.after 97 (exponents (term l.self.monomial)));
    }
