-- In each lane the words before t are those of the lane's block.
use Rattle.std.proofs.Common.{◌≡◌, ℕ, ◌<◌, [], map, length, get_or, take}
use Rattle.std.specs.List.{range_with_len}
use Rattle.sha256.specs.Lane.{column}
use Rattle.sha256.specs.Sha256.{padded, word}
use Rattle.lanes.specs.Lane.{lane}
use Rattle.lanes.proofs.blocks.load.Given as goal

abbrev pub invariant-loop-t : goal.invariant-loop-t
invariant-loop-t l =
    ((j : ℕ) → j < 8 → take l.t (column lane l.x-items j) ≡ map (word (padded (get_or l.texts j []))) (range_with_len 0 l.t))
    × (length l.x-items ≡ 16)
