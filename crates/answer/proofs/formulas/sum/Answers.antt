-- Each check refuses in its turn, and then the sum decides.
use Rattle.std.proofs.Common.{[], Ok, Err}
use Rattle.std.proofs.lemmas.Result.{err_from_is_err_and}
use Rattle.formula.specs.Held.{held}
use Rattle.answer.proofs.Checks.{line_refused, coefficient_refused, sum_decides}
use Rattle.answer.proofs.formulas.sum.Goals as goal

pub returns-in_err-line : goal.returns-in_err-line
returns-in_err-line g c =
    let a = c.args in
    let p = err_from_is_err_and c.from_residual-in_err-line.result c.from_residual-in_err-line.ensures.1 in
    rw (p.1, p.2) (line_refused (g.R.Ring.meaning a.polynomials.now.ring) (g.O.Order.meaning a.polynomials.now.order) a.formula.now a.factor a.line.now (held c.in_ok-sum.sum) [] c.in_err-line.field-0.0 c.in_ok-sum.ensures c.in_err-line.ensures)

pub returns-in_err-check : goal.returns-in_err-check
returns-in_err-check g c =
    let a = c.args in
    let p = err_from_is_err_and c.from_residual-in_err-check.result c.from_residual-in_err-check.ensures.1 in
    let f = held c.in_ok-sum.sum in
    let l = held c.in_ok-line.line in
    rw (p.1, p.2) (coefficient_refused (g.R.Ring.meaning a.polynomials.now.ring) (g.O.Order.meaning a.polynomials.now.order) a.formula.now a.factor a.line.now f l c.in_err-check.field-0.0 c.in_ok-sum.ensures c.in_ok-line.ensures c.in_err-check.ensures.value)

pub returns-in_err-add_step : goal.returns-in_err-add_step
returns-in_err-add_step g c =
    let a = c.args in
    let p = err_from_is_err_and c.from_residual-in_err-add_step.result c.from_residual-in_err-add_step.ensures.1 in
    let f = held c.in_ok-sum.sum in
    let l = held c.in_ok-line.line in
    rw (p.1, p.2) (sum_decides (g.R.Ring.meaning a.polynomials.now.ring) (g.O.Order.meaning a.polynomials.now.order) a.formula.now a.factor a.line.now f l (Err c.in_err-add_step.field-0.0) c.in_ok-check.field-0 c.in_ok-sum.ensures c.in_ok-line.ensures c.in_ok-check.ensures.value c.in_err-add_step.ensures.value)

pub returns : goal.returns
returns g c =
    let a = c.args in
    let f = held c.in_ok-sum.sum in
    let l = held c.in_ok-line.line in
    sum_decides (g.R.Ring.meaning a.polynomials.now.ring) (g.O.Order.meaning a.polynomials.now.order) a.formula.now a.factor a.line.now f l (Ok (held c.add_step.new.work)) c.in_ok-check.field-0 c.in_ok-sum.ensures c.in_ok-line.ensures c.in_ok-check.ensures.value c.in_ok-add_step.ensures.value
