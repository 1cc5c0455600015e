-- A turn writes the power of one letter.
use Rattle.std.proofs.Common.{◌≡◌, ◌||◌, ltb, length, is_ok, Ok, ap, ap₂, ◌∙◌, inl, inr, ⊎_elim}
use Rattle.std.specs.Array.Iter.{array_into_iter_items}
use Rattle.std.specs.Iterator.Adapters.{zip_first, zip_second}
use Rattle.std.specs.Range.{range_inclusive_end, range_inclusive_exhausted, range_inclusive_start}
use Rattle.order.specs.Term.{exponents}
use Rattle.formula.specs.Formula.{term}
use Rattle.formula.specs.Text.{power_text, powers_text}
use Rattle.formula.proofs.Powers.{matched_first, matched_more, powers_all, powers_more}
use Rattle.formula.proofs.Texts.{writing_all, writing_first, writing_more}
use Rattle.formula.proofs.text.PowersDisplay.fmt.Goals as goal

pub loop-letter-init : goal.loop-letter-init
loop-letter-init g c =
    let it = c.into_iter-letter-iterator.result in
    let from : zip_first it ≡ c.new.result = ap zip_first c.into_iter-letter-iterator.ensures.into_iter_gives ∙ c.zip-letter-items.ensures.first in
    let items : array_into_iter_items (zip_second it) ≡ exponents (term c.args.self.now.monomial) = ap (λ z. array_into_iter_items (zip_second z)) c.into_iter-letter-iterator.ensures.into_iter_gives ∙ c.zip-letter-items.ensures.second.0 ∙ c.exponents.ensures in
    let first : range_inclusive_start (zip_first it) ≡ 97 = ap range_inclusive_start from ∙ c.new.ensures.start in
    record {
      matched = matched_first (zip_first it) (array_into_iter_items (zip_second it)) first (ap range_inclusive_end from ∙ c.new.ensures.end) (ap range_inclusive_exhausted from ∙ c.new.ensures.exhausted) (ap length items);
      written = writing_first g.W.Write.write_str_gives c.args.f.now _ _ (ap₂ (powers_text c.args.self.now.after) first items);
    }

pub loop-letter-preserved : goal.loop-letter-preserved
loop-letter-preserved g c =
    let s = zip_first c.loop-letter.letter-iterator in
    let t = zip_first c.next.new.self in
    let n = c.in-Some.exponent in
    let left = array_into_iter_items (zip_second c.loop-letter.letter-iterator) in
    let rest = array_into_iter_items (zip_second c.next.new.self) in
    let step = c.in-Some.ensures.steps in
    record {
      matched = matched_more s t c.in-Some.letter n left rest c.loop-letter.invariant.matched step.1 step.0;
      written = writing_more g.W.Write.write_str_gives c.args.f.now c.loop-letter.f c.write.new.self c.write.result (power_text c.loop-letter.after c.in-Some.letter n) (powers_text (c.loop-letter.after || ltb 0 n) (range_inclusive_start t) rest) (powers_text c.loop-letter.after (range_inclusive_start s) left) (powers_text c.args.self.now.after 97 (exponents (term c.args.self.now.monomial)))
          (powers_more s t c.in-Some.letter n left rest c.loop-letter.invariant.matched step.1 step.0 c.loop-letter.after) c.write.ensures.writes (ap is_ok c.in_ok-write.was) c.loop-letter.invariant.written;
    }

pub returns-clause-writes : goal.returns-clause-writes
returns-clause-writes g c =
    let s = zip_first c.loop-letter.letter-iterator in
    let left = array_into_iter_items (zip_second c.loop-letter.letter-iterator) in
    writing_all g.W.Write.write_str_gives c.args.f.now c.loop-letter.f (Ok tt) (powers_text c.loop-letter.after (range_inclusive_start s) left) (powers_text c.args.self.now.after 97 (exponents (term c.args.self.now.monomial)))
    (powers_all c.loop-letter.after s left c.loop-letter.invariant.matched (⊎_elim (λ a. inl a.1.1.0) (λ b. inr b.1.0) c.in-None.ensures.steps)) c.loop-letter.invariant.written
