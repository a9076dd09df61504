-- The exchanges that are left, drawn from the bytes that are left, give the whole.
use Rattle.std.proofs.Common.{◌≡◌, length}
use Rattle.lots.specs.Lots.{exchanged_in}
use Rattle.lots.specs.Views.{EndOf}
use Rattle.lots.proofs.orders.draw_exchanges.Given as goal

abbrev pub invariant-loop-i : goal.invariant-loop-i
invariant-loop-i l = (exchanged_in l.i l.row l.rest ≡ exchanged_in (length l.initial.row) l.initial.row l.bytes) × EndOf l.bytes l.rest
