-- The numbers so far are those of the first trains.
use Rattle.std.proofs.Common.{◌≡◌, length, take}
use Rattle.paths.specs.Order.{order_of}
use Rattle.tasks.specs.Model.{plan_of}
use Rattle.round.specs.Round.{held}
use Rattle.round.proofs.closing.numbers.Given as goal

abbrev pub invariant-loop-train : goal.invariant-loop-train
invariant-loop-train l = (take l.train l.numbers ≡ held (take l.train (plan_of l.plan)) (order_of l.order)) × (length l.numbers ≡ 1024)
