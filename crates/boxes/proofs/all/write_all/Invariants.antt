-- The boxes of the groups so far are put, and the rest is as it was.
use Rattle.std.proofs.Common.{◌≡◌}
use Rattle.std.specs.Iterator.Adapters.{enumerate_count, enumerate_source}
use Rattle.std.specs.Slice.Iter.{chunks_rest, chunks_size}
use Rattle.boxes.proofs.Groups.{Closed}
use Rattle.boxes.proofs.all.write_all.Given as goal

abbrev pub invariant-loop-i : goal.invariant-loop-i
invariant-loop-i l =
    (goal.iterator-loop-i).can_next l.i-iterator × (goal.iterator-loop-i).is_finite l.i-iterator
    × (chunks_size (enumerate_source l.i-iterator) ≡ 8)
    × Closed l.round l.numbers l.chances l.initial.out (enumerate_count l.i-iterator) (chunks_rest (enumerate_source l.i-iterator)) l.out
