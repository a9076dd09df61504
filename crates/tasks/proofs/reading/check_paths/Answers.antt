use Rattle.std.proofs.Common.{sym, ◌∙◌}
use Rattle.std.proofs.lemmas.Result.{err_from_is_err_and}
use Rattle.tasks.proofs.Steps.{each_more, each-fault, each-end}
use Rattle.tasks.proofs.reading.check_paths.Goals as goal

pub loop-preserved : goal.loop-preserved
loop-preserved c =
    let e = each_more _ _ _ _ _ _ _ c.loop-test.true c.in_ok-rest.ensures.path in
    rw c.in_ok-rest.ensures.rest (sym e ∙ c.loop.invariant)

pub returns-in_err-rest : goal.returns-in_err-rest
returns-in_err-rest c =
    let p = err_from_is_err_and c.from_residual.result c.from_residual.ensures.1 in
    let e = each-fault _ _ _ _ _ _ _ c.loop-test.true c.in_err-rest.ensures.path in
    rw (p.1, p.2) (sym e ∙ c.loop.invariant)

pub returns : goal.returns
returns c = let e = each-end _ _ _ _ _ _ c.loop-test.false in c.end.ensures ∙ (sym e ∙ c.loop.invariant)
