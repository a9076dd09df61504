use Rattle.std.proofs.lemmas.Result.{err_from_is_err_and}
use Rattle.tasks.specs.Model.{task_of, plan_of}
use Rattle.pairing.proofs.Tested.{first-refused, second-refused}
use Rattle.pairing.proofs.plans.Plans.new.Goals as goal

pub returns-in_err-test_plan-clause-pair : goal.returns-in_err-test_plan-clause-pair
returns-in_err-test_plan-clause-pair c =
    let p = err_from_is_err_and c.from_residual.result c.from_residual.ensures.1 in
    let h = c.in_err-test_plan.ensures in
    let r = first-refused (task_of c.args.task) (plan_of c.args.first) (plan_of c.args.second) _ h.answer h.pair in
    rw (p.1, p.2) r.1

pub returns-in_err-test_plan-2-clause-pair : goal.returns-in_err-test_plan-2-clause-pair
returns-in_err-test_plan-2-clause-pair c =
    let p = err_from_is_err_and c.from_residual-in_err-test_plan-2.result c.from_residual-in_err-test_plan-2.ensures.1 in
    let h = c.in_err-test_plan-2.ensures in
    let r = second-refused (task_of c.args.task) (plan_of c.args.first) (plan_of c.args.second) _ _ c.in_ok-test_plan.ensures.answer h.answer h.pair in
    rw (p.1, p.2) r.1
