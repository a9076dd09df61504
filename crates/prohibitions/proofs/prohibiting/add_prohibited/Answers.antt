use Rattle.std.proofs.Common.{sym, append-nil}
use Rattle.prohibitions.proofs.Adding.{for-more}
use Rattle.prohibitions.proofs.prohibiting.add_prohibited.Goals as goal

pub loop-prohibition-init : goal.loop-prohibition-init
loop-prohibition-init c = sym (append-nil _)

pub loop-prohibition-preserved : goal.loop-prohibition-preserved
loop-prohibition-preserved c =
    for-more c.args.task.now.trains c.args.prohibitions.now _ _ _ _ _ _ c.loop-prohibition-test.true c.loop-prohibition.invariant c.in_ok-push.ensures.items c.prohibited.ensures
