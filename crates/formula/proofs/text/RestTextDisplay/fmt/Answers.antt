-- The loop goes along the list.
use Rattle.std.proofs.Common.{◌+◌, ◌∷◌, get_or, drop, is_ok, ap}
use Rattle.formula.specs.Formula.{blank}
use Rattle.formula.specs.Text.{monomial_text, rest_text}
use Rattle.formula.proofs.Texts.{rest_text_more, writing_more}
use Rattle.formula.proofs.text.RestTextDisplay.fmt.Goals as goal

pub loop-m-preserved : goal.loop-m-preserved
loop-m-preserved g c =
    let one = c.args.self.now.one in
    let list = c.args.self.now.monomials.now in
    let i = c.loop-m.m-index in
    writing_more g.W.Write.write_str_gives c.args.f.now c.loop-m.f c.write.new.self c.write.result (43 ∷ monomial_text one (get_or list i blank)) (rest_text one (drop (i + 1) list)) (rest_text one (drop i list)) (rest_text one list)
    (rest_text_more one list i c.loop-m-test.true) c.write.ensures.writes (ap is_ok c.in_ok-write.was) c.loop-m.invariant
