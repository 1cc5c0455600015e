-- Each word is listed, and the first that is no monomial decides.
use Rattle.std.proofs.Common.{[], ◌∷◌, ◌++◌, length, sym, ap, ◌∙◌, arith}
use Rattle.std.specs.Option.{option_map}
use Rattle.std.proofs.lemmas.List.{length-take}
use Rattle.std.proofs.lemmas.Result.{err_from_is_err_and}
use Rattle.script.specs.Formulas.{after_part, monomials_in}
use Rattle.script.specs.Listed.{listed}
use Rattle.script.proofs.Listings.{after_part_all, after_part_more, listed_with, part_shorter, word_more, word_wrong, words_all}
use Rattle.script.proofs.words.Words.monomials.Goals as goal

pub returns-in_err-packed : goal.returns-in_err-packed
returns-in_err-packed c =
    let l = c.loop-word in
    let left = l.self.rest.now in
    let word = c.in-Some.word in
    let p = err_from_is_err_and c.from_residual.result c.from_residual.ensures.1 in
    let wrong = word_wrong (listed l.list) left word.now c.in_err-packed.field-0.0 (sym c.ahead.ensures ∙ ap (option_map (λ x. x.now)) c.in-Some.is) c.in_err-packed.ensures in
    rw (p.1, p.2) (record { monomials = wrong ∙ l.invariant.1; rest = tt })

pub loop-word-smaller : goal.loop-word-smaller
loop-word-smaller c =
    let left = c.loop-word.self.rest.now in
    let short = part_shorter left c.in-Some.word.now (sym c.ahead.ensures ∙ ap (option_map (λ x. x.now)) c.in-Some.is) in
    let rest = ap length c.next.ensures.rest in
    omega arith

pub loop-word-preserved : goal.loop-word-preserved
loop-word-preserved c =
    let l = c.loop-word in
    let left = l.self.rest.now in
    let more = word_more (listed l.list) left c.in-Some.word.now c.in_ok-packed.field-0 (sym c.ahead.ensures ∙ ap (option_map (λ x. x.now)) c.in-Some.is) c.in_ok-packed.ensures in
    let kept = ap length c.push.ensures ∙ length-take 65 (listed l.list ++ c.in_ok-packed.field-0 ∷ []) in (
      omega arith,
      (λ i. listed_with (c.push.ensures i) (monomials_in (c.next.ensures.rest i))) ∙ more ∙ l.invariant.1,
      ap after_part c.next.ensures.rest ∙ after_part_more left c.in-Some.word.now (sym c.ahead.ensures ∙ ap (option_map (λ x. x.now)) c.in-Some.is) ∙ l.invariant.2,
    )

pub returns : goal.returns
returns c =
    let l = c.loop-word in
    let few = l.invariant.0 in
    let none = sym c.ahead.ensures ∙ ap (option_map (λ x. x.now)) c.in_default.is in
    record {
      monomials = words_all (listed l.list) l.self.rest.now few none ∙ l.invariant.1;
      rest = after_part_all l.self.rest.now none ∙ l.invariant.2;
    }
