-- Each lane has the state after t rounds, and t goes by eights.
use Rattle.std.proofs.Common.{◌≡◌, ℕ, ◌%◌, ◌<◌, ◌≤◌}
use Rattle.sha256.specs.Lane.{column, state_at}
use Rattle.sha256.specs.Sha256.{steps}
use Rattle.sha256.proofs.compress.compress_words.Given as goal

abbrev pub invariant-loop-t : goal.invariant-loop-t
invariant-loop-t g l =
    let lane = g.W.Words.lane in
    ((j : ℕ) → j < g.W.Words.lanes → state_at lane l.r j ≡ steps (state_at lane l.s j) (column lane l.w j) l.t)
    × (l.t % 8 ≡ 0) × (l.t ≤ 64)
