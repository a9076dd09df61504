use Rattle.std.proofs.Common.{◌≡◌, length, arith, rules}
use Rattle.paths.specs.Order.{order_of}
use Rattle.tasks.specs.Model.{plan_of}
use Rattle.judging.proofs.Filled.{boxes-behind}
use Rattle.judging.proofs.given.Given.put_boxes.Goals as goal

pub returns : goal.returns
returns c =
    let given = c.args.self.now in
    let many : length (plan_of given.plan.now) ≡ given.closed.task.now.trains = search rules in
    boxes-behind given.closed.number (plan_of given.plan.now) (order_of given.lot.order) given.lot.chances.now _ _ c.write_boxes.result (omega (arith, given.all_chances)) (omega (arith, c.requires)) c.write_boxes.ensures
