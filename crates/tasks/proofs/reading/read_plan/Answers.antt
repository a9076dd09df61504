use Rattle.std.proofs.Common.{sym, ap, ◌∙◌, inl, arith}
use Rattle.std.proofs.lemmas.List.{take_rest}
use Rattle.tasks.specs.Model.{task_of}
use Rattle.tasks.specs.Reading.{got}
use Rattle.tasks.proofs.PlanLaws.{plan_law, plan-sound}
use Rattle.tasks.proofs.Fronts.{plan_front}
use Rattle.tasks.proofs.Words.{bytes_below}
use Rattle.tasks.proofs.reading.read_plan.Goals as goal

pub returns-in_err-paths-clause-front : goal.returns-in_err-paths-clause-front
returns-in_err-paths-clause-front c = plan_front (task_of c.args.task.now) c.args.task.now.few_trains

pub invariant_of-result : goal.invariant_of-result
invariant_of-result c =
    let m = c.in_ok-paths.ensures in
    let e = ap got (rw take_rest at m.items) ∙ c.in_ok-check_plan.ensures in
    let l = (plan-sound (task_of c.args.task.now) (omega arith) c.args.bytes.now _ (sym e)).0 in
    let n = c.in_ok-paths.paths.ok.0 in
    record { some_train = omega arith; few_trains = omega arith }

pub returns : goal.returns
returns c =
    let bs = c.args.bytes.now in
    let law = plan_law (task_of c.args.task.now) (omega arith) in
    let e = ap got (rw take_rest at c.in_ok-paths.ensures.items) ∙ c.in_ok-check_plan.ensures in
    record { answer = inl e; written = sym (law.only bs _ (bytes_below bs c.type_inv.bytes) (sym e)).1; law = law; front = plan_front (task_of c.args.task.now) c.args.task.now.few_trains }
