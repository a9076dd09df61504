-- The pairs that are left are put after those that were put, which are in order.
use Rattle.std.proofs.Common.{◌≡◌, true, map, drop, vec_items}
use Rattle.tasks.specs.Pair.{pair_of}
use Rattle.prohibitions.specs.Prohibiting.{put_all}
use Rattle.prohibitions.specs.Putting.{in_order}
use Rattle.prohibitions.proofs.prohibiting.put_all.Given as goal

abbrev pub invariant-loop-pair : goal.invariant-loop-pair
invariant-loop-pair l =
    (put_all (drop l.pair-index (map pair_of l.more)) (map pair_of (vec_items l.pairs)) ≡ put_all (map pair_of l.more) (map pair_of (vec_items l.initial.pairs)))
    × (in_order (map pair_of (vec_items l.pairs)) ≡ true)
