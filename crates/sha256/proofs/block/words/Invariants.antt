-- The words before t are those of the block.
use Rattle.std.proofs.Common.{◌≡◌, map, length, take}
use Rattle.std.specs.List.{range_with_len}
use Rattle.sha256.specs.Sha256.{word}
use Rattle.sha256.proofs.block.words.Given as goal

abbrev pub invariant-loop-t : goal.invariant-loop-t
invariant-loop-t l = (take l.t l.w ≡ map (word l.fn.block) (range_with_len 0 l.t)) × (length l.w ≡ 64)
