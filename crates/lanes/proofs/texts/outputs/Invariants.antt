-- The first j digests are those of the first j lanes.
use Rattle.std.proofs.Common.{◌≡◌, ℕ, ◌<◌, [], length, get_or}
use Rattle.sha256.specs.Lane.{state_at}
use Rattle.sha256.specs.Sha256.{output}
use Rattle.lanes.specs.Lane.{lane}
use Rattle.lanes.proofs.texts.outputs.Given as goal

abbrev pub invariant-loop-j : goal.invariant-loop-j
invariant-loop-j l = ((k : ℕ) → k < l.j → get_or l.digest-items k [] ≡ output (state_at lane l.s k)) × (length l.digest-items ≡ 8)
