use Rattle.std.proofs.Common.{sym, ◌∙◌, arith}
use Rattle.std.proofs.lemmas.Result.{err_from_is_err_and}
use Rattle.lots.proofs.Steps.{exchange-step, exchange-refused, exchange-none, end_end}
use Rattle.lots.proofs.orders.draw_exchanges.Goals as goal

pub returns-in_err-number-clause-row : goal.returns-in_err-number-clause-row
returns-in_err-number-clause-row c =
    let p = err_from_is_err_and c.from_residual.result c.from_residual.ensures.1 in
    let e = exchange-refused c.loop-i.i c.loop-i.row _ c.loop-i-test.true _ c.in_err-number.ensures.number in
    rw (p.1, p.2) (e ∙ c.loop-i.invariant.0)

pub loop-i-preserved : goal.loop-i-preserved
loop-i-preserved c =
    let n = c.in_ok-number.ensures in
    (exchange-step c.loop-i.i c.loop-i.row _ c.loop-i-test.true _ _ _ n.number (c.swap.ensures.by_index.3 0) ∙ c.loop-i.invariant.0, end_end _ _ _ c.loop-i.invariant.1 n.left)

pub returns-clause-row : goal.returns-clause-row
returns-clause-row c = sym (exchange-none _ _ _ (omega arith)) ∙ c.loop-i.invariant.0
