use Rattle.std.proofs.Common.{ap, ◌∙◌}
use Rattle.prohibitions.specs.Putting.{in_order}
use Rattle.prohibitions.proofs.Placing.{order-put}
use Rattle.prohibitions.proofs.Adding.{put-more, put-end}
use Rattle.prohibitions.proofs.prohibiting.put_all.Goals as goal

pub loop-pair-preserved : goal.loop-pair-preserved
loop-pair-preserved c =
    let e = c.in_ok-put.ensures in
    (put-more c.args.more.now _ _ _ c.loop-pair.invariant.0 _ c.loop-pair-test.true _ e, ap in_order e ∙ order-put _ _ c.loop-pair.invariant.1)

pub returns : goal.returns
returns c = put-end c.args.more.now _ _ _ c.loop-pair.invariant.0 c.loop-pair-test.false
