use Rattle.std.proofs.Common.{arith, length-take}
use Rattle.lots.proofs.Steps.{order_made}
use Rattle.lots.proofs.orders.draw_order.Goals as goal

pub unwrap-requires : goal.unwrap-requires
unwrap-requires c =
    order_made _ _ _ _ _ c.new.result (simp length-take (omega arith)) (simp length-take (omega arith)) c.count_up.ensures c.in_ok-left.ensures.row c.new.ensures
