-- The front is counted up.
use Rattle.std.proofs.Common.{◌≡◌, take}
use Rattle.paths.specs.Cheat.{up_to}
use Rattle.lots.proofs.orders.count_up.Given as goal

abbrev pub invariant-loop-i : goal.invariant-loop-i
invariant-loop-i l = take l.i l.row ≡ up_to l.i
