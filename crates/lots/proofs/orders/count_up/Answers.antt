use Rattle.std.proofs.Common.{refl, arith}
use Rattle.paths.specs.Cheat.{up_to}
use Rattle.lots.proofs.Steps.{up_more}
use Rattle.lots.proofs.orders.count_up.Goals as goal

pub loop-i-init : goal.loop-i-init
unfolding up_to
loop-i-init c = refl

pub loop-i-preserved : goal.loop-i-preserved
loop-i-preserved c = up_more c.loop-i.row c.loop-i.i (omega arith) c.loop-i.invariant
