-- What was added so far.
use Rattle.std.proofs.Common.{◌≡◌, ◌++◌, map, vec_items}
use Rattle.tasks.specs.Pair.{pair_of}
use Rattle.prohibitions.specs.Prohibiting.{every_two}
use Rattle.prohibitions.proofs.prohibiting.add_every_two.Given as goal

abbrev pub invariant-loop-j : goal.invariant-loop-j
invariant-loop-j l = map pair_of (vec_items l.more) ≡ map pair_of (vec_items l.initial.more) ++ every_two l.from l.j
