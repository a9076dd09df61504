use Rattle.std.proofs.Common.{◌≡◌, length, ◌∙◌, arith, rules}
use Rattle.std.proofs.lemmas.List.{take_at}
use Rattle.paths.specs.Order.{order_of}
use Rattle.tasks.specs.Model.{plan_of}
use Rattle.planning.proofs.Filled.{boxes_fill}
use Rattle.planning.proofs.ready.Ready.put_lot.Goals as goal

pub returns-clause-boxes : goal.returns-clause-boxes
returns-clause-boxes c =
    let ready = c.args.self.now in
    let lot = c.args.lot.now in
    let l = c.deref_mut.ensures.len in
    let many : length (plan_of ready.plan) ≡ ready.task.trains = search rules in
    let e = boxes_fill ready.round (plan_of ready.plan) (order_of lot.order) lot.chances.now _ _ c.write_boxes.result (omega (arith, c.requires)) (omega (arith, ready.word_room)) c.write_boxes.ensures in
    take_at _ _ _ (c.write_boxes.auto.out ∙ l) ∙ e
