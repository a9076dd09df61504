-- In each lane the words before n + 16 are those of the schedule, and n goes by fours.
use Rattle.std.proofs.Common.{◌≡◌, ℕ, ◌+◌, ◌%◌, ◌<◌, ◌≤◌, List, take}
use Rattle.sha256.specs.Lane.{column}
use Rattle.sha256.specs.Sha256.{schedule}
use Rattle.sha256.proofs.compress.put_all.Given as goal

abbrev pub invariant-loop-n : goal.invariant-loop-n
invariant-loop-n g l =
    let lane = g.W.Words.lane in
    ((j : ℕ) (b : List ℕ) → j < g.W.Words.lanes → take 16 (column lane l.initial.w j) ≡ schedule b 0
    → take (l.n + 16) (column lane l.w j) ≡ schedule b l.n) × (l.n % 4 ≡ 0) × (l.n ≤ 48)
