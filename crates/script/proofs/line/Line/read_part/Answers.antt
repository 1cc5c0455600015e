-- What was shown is added and taken off the input, up to a newline and with it.
use Rattle.std.proofs.Common.{◌≡◌, ◌+◌, ◌<◌, ◌≤◌, [], ◌∷◌, ◌++◌, length, take, refl, sym, subst, rules, arith}
use Rattle.std.specs.Io.BufRead.{FillKeeps}
use Rattle.std.specs.Io.KnownBytes.{Consumes}
use Rattle.std.proofs.BufReadLemmas.{Consumes_shown}
use Rattle.script.specs.Lines.{Lacks, newline}
use Rattle.script.proofs.Lines.{held_same, keeps_all, lacks_taken, shows_none, through_newline}
use Rattle.script.proofs.line.Line.read_part.Goals as goal

pub returns-in-Err : goal.returns-in-Err
returns-in-Err g c =
    let line = c.args.self.now in
    let few : length line.bytes.items ≤ 1000001 = search rules in
    ([], refl, keeps_all _ _ c.fill_buf.follows.holds-at-none.0, held_same line.bytes.items few)

pub returns-then-is_empty : goal.returns-then-is_empty
returns-then-is_empty g c = (
  shows_none _ c.in-Ok.held.now c.in-Ok.ensures.end (search rules),
  keeps_all _ _ c.fill_buf.follows.holds-at-none.0,
  refl,
)

pub returns-then-length-held : goal.returns-then-length-held
returns-then-length-held g c =
    let shown = c.in-Ok.held.now in
    let before = c.length_before-length in
    let rested = c.fill_buf.follows.lender-at-none in
    let filled = subst (FillKeeps _ (g.R.Read.remaining rested) (g.R.BufRead.consumable_len rested)) c.in-Ok.is c.fill_buf.follows.holds-at-none in
    let moved = Consumes_shown _ _ _ _ shown before.result before.ensures.bound c.in-Ok.ensures.front c.in-Ok.ensures.end filled.0 filled.1 c.consume.ensures.bytes in
    (take before.result shown, subst (λ n. Lacks (take n shown)) (sym before.ensures.value) (lacks_taken shown), moved.0, c.in_ok-add.ensures)

pub returns : goal.returns
returns g c =
    let shown = c.in-Ok.held.now in
    let before = c.length_before-length in
    let rested = c.fill_buf.follows.lender-at-none in
    let filled = subst (FillKeeps _ (g.R.Read.remaining rested) (g.R.BufRead.consumable_len rested)) c.in-Ok.is c.fill_buf.follows.holds-at-none in
    let more : before.result < length shown = omega (arith, c.if-length-held.false, before.ensures.bound) in
    let within : before.result + 1 ≤ length shown = omega arith in
    let moved = Consumes_shown _ _ _ _ shown (before.result + 1) within c.in-Ok.ensures.front c.in-Ok.ensures.end filled.0 filled.1 c.consume-2.ensures.bytes in
    let through = subst (λ n. n < length shown → take (n + 1) shown ≡ take n shown ++ newline ∷ []) (sym before.ensures.value) (through_newline shown) more in
    (take before.result shown, subst (λ n. Lacks (take n shown)) (sym before.ensures.value) (lacks_taken shown), subst (Consumes _ _) through moved.0, c.in_ok-add.ensures)
