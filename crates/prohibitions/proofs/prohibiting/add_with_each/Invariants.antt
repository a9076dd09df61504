-- What was added so far.
use Rattle.std.proofs.Common.{◌≡◌, ◌++◌, map, vec_items}
use Rattle.tasks.specs.Pair.{pair_of}
use Rattle.prohibitions.specs.Prohibiting.{with_each}
use Rattle.prohibitions.proofs.prohibiting.add_with_each.Given as goal

abbrev pub invariant-loop-i : goal.invariant-loop-i
invariant-loop-i l = map pair_of (vec_items l.more) ≡ map pair_of (vec_items l.initial.more) ++ with_each l.from l.j l.i
