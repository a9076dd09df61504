-- The first j texts are there.
use Rattle.std.proofs.Common.{◌≡◌, ℕ, ◌+◌, ◌*◌, ◌<◌, [], length, get_or, take, drop}
use Rattle.boxes.specs.Box.{box_text}
use Rattle.boxes.proofs.group.Group.texts.Given as goal

abbrev pub invariant-loop-j : goal.invariant-loop-j
invariant-loop-j l =
    let g = l.self in
    ((k : ℕ) → k < l.j → get_or l.all k [] ≡ box_text g.round (g.first + k) (get_or g.numbers.now k 0) (take 32 (drop (32 * k) g.chances.now))) × (length l.all ≡ 8)
