-- What was passed, from the end, is a row, and `met` tells of each number whether it was met there.
use Rattle.std.proofs.Common.{◌-◌, length}
use Rattle.paths.proofs.Once.{Passed}
use Rattle.paths.proofs.orders.is_row.Given as goal

abbrev pub invariant-loop-byte : goal.invariant-loop-byte
invariant-loop-byte l = Passed l.met (length l.bytes) (length l.bytes - length l.yielded) l.bytes
