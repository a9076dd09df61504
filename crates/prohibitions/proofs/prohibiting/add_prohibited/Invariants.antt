-- The pairs for the prohibitions so far were added.
use Rattle.std.proofs.Common.{◌≡◌, ◌++◌, map, take, vec_items}
use Rattle.tasks.specs.Pair.{pair_of}
use Rattle.prohibitions.specs.Prohibiting.{pair_for}
use Rattle.prohibitions.proofs.prohibiting.add_prohibited.Given as goal

abbrev pub invariant-loop-prohibition : goal.invariant-loop-prohibition
invariant-loop-prohibition l = map pair_of (vec_items l.more) ≡ map pair_of (vec_items l.initial.more) ++ map (pair_for l.task.trains) (take l.prohibition-index l.prohibitions)
