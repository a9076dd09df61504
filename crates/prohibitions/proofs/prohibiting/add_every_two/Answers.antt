use Rattle.std.proofs.Common.{sym, append-nil}
use Rattle.prohibitions.specs.Prohibiting.{every_two}
use Rattle.prohibitions.proofs.Adding.{two-more}
use Rattle.prohibitions.proofs.prohibiting.add_every_two.Goals as goal

pub loop-j-init : goal.loop-j-init
unfolding every_two
loop-j-init c = sym (append-nil _)

pub loop-j-preserved : goal.loop-j-preserved
loop-j-preserved c = two-more c.args.from c.loop-j.j _ _ _ c.loop-j.invariant c.in_ok-add_with_each.ensures
