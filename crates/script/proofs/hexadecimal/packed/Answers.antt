-- Each digit is read on, and the first other byte or the end decides.
use Rattle.std.proofs.Common.{◌<◌, ◌≤◌, sym, subst, ◌∙◌, rules, arith}
use Rattle.std.specs.Char.{digit_value}
use Rattle.script.proofs.Hexadecimals.{digit_more, digit_none, digits_all, digits_below, digits_fit, packed_in_16}
use Rattle.script.proofs.hexadecimal.packed.Goals as goal

pub returns-in_default : goal.returns-in_default
returns-in_default c =
    let l = c.loop-byte in
    let word = c.args.word.now in
    let no : 16 ≤ digit_value c.from.result = omega (arith, c.in_default.ensures.value) in
    let none = subst (λ b. 16 ≤ digit_value b) c.from.ensures no in
    sym (packed_in_16 word (omega arith) ∙ sym l.invariant.1 ∙ digit_none l.bits l.byte-index word (omega arith) none)

pub overflow_mul-bits : goal.overflow_mul-bits
overflow_mul-bits c =
    let l = c.loop-byte in
    let fit = digits_fit l.bits 0 l.byte-index l.invariant.0 (omega arith) (omega arith) in
    rw c.from-in-loop-byte.ensures (omega arith)

pub overflow_add-bits : goal.overflow_add-bits
overflow_add-bits c =
    let l = c.loop-byte in
    let digit = c.in-Some.ensures.value in
    let fit = digits_fit l.bits c.in-Some.digit l.byte-index l.invariant.0 (omega arith) (rw digit.1 digit.0) in
    rw (c.from-in-loop-byte.ensures, c.from-in-loop-byte-2.ensures) (omega arith)

pub loop-byte-preserved : goal.loop-byte-preserved
loop-byte-preserved c =
    let l = c.loop-byte in
    let word = c.args.word.now in
    let digit = c.in-Some.ensures.value in
    let below = subst (λ b. digit_value b < 16) c.from.ensures digit.0 in
    rw (c.from-in-loop-byte.ensures, c.from-in-loop-byte-2.ensures, digit.1, c.from.ensures) (
      digits_below l.bits _ l.byte-index l.invariant.0 below,
      digit_more l.bits l.byte-index word (omega arith) below ∙ l.invariant.1,
    )

pub returns : goal.returns
returns c = search (rules, digits_all, packed_in_16)
