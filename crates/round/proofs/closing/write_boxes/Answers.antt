use Rattle.std.proofs.Common.{◌∙◌}
use Rattle.paths.specs.Order.{order_of}
use Rattle.tasks.specs.Model.{plan_of}
use Rattle.round.proofs.Rounds.{boxes-refused}
use Rattle.round.proofs.closing.write_boxes.Goals as goal

pub returns-then-lot-size : goal.returns-then-lot-size
returns-then-lot-size c =
    boxes-refused _ (plan_of c.args.plan.now) (order_of c.args.lot.now.order) c.args.lot.now.chances.now _ _ (c.len-count.ensures ∙ c.args.plan.now.paths.ok.0) c.then-lot-size.either
