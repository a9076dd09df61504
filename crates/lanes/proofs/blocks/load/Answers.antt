-- After the loop, t is 16.
use Rattle.std.proofs.Common.{◌≡◌, arith}
use Rattle.sha256.specs.Sha256.{schedule}
use Rattle.lanes.proofs.States.{column_front}
use Rattle.lanes.proofs.blocks.load.Goals as goal

pub returns-clause-words : goal.returns-clause-words
unfolding schedule
returns-clause-words c = λ j l.
    let e : c.loop-t.t ≡ 16 = omega arith in
    rw (column_front c.loop-t.x-items _ 16 j (omega arith)) (rw e at (c.loop-t.invariant.0 j l))
