-- The state is that after as many blocks.
use Rattle.std.proofs.Common.{◌≡◌, ◌≤◌, length}
use Rattle.sha256.specs.Sha256.{hashed}
use Rattle.sha256.proofs.message.blocks.Given as goal

abbrev pub invariant-loop-block : goal.invariant-loop-block
invariant-loop-block l = (l.block-index ≤ length l.whole) × (l.s ≡ hashed l.fn.start l.part l.block-index)
