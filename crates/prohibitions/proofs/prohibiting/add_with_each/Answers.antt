use Rattle.std.proofs.Common.{sym, refl, append-nil}
use Rattle.prohibitions.specs.Prohibiting.{with_each}
use Rattle.prohibitions.proofs.Adding.{each_more}
use Rattle.prohibitions.proofs.prohibiting.add_with_each.Goals as goal

pub loop-i-init : goal.loop-i-init
unfolding with_each
loop-i-init c = sym (append-nil _)

pub loop-i-preserved : goal.loop-i-preserved
loop-i-preserved c = each_more c.args.from c.args.j c.loop-i.i _ _ _ _ c.loop-i.invariant c.in_ok-push.ensures.items refl
