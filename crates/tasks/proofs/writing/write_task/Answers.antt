use Rattle.std.proofs.Common.{vec_len}
use Rattle.tasks.specs.Writing.{head_bytes}
use Rattle.tasks.proofs.Writes.{write-more}
use Rattle.tasks.proofs.writing.write_task.Goals as goal

pub loop-pair-preserved : goal.loop-pair-preserved
loop-pair-preserved c =
    let t = c.args.task.now in
    let hs = head_bytes t.trains t.paths (vec_len t.pairs) in
    write-more hs _ _ c.deref-pair-items.ensures.value _ _ c.loop-pair-test.true _ _ _ c.loop-pair.invariant c.in_ok-extend_from_slice.ensures.items c.pair_bytes.ensures
