-- How many rounds are enough: of the m ^ r ways to ask r times for one of m pairs, a planner with no plan that fits passes in at most (m - 1) ^ r.
-- Assumes nothing.
use Rattle.std.specs.Prelude.{ℕ, ◌-◌, ◌*◌, ◌^◌, ◌<◌, ◌≤◌}

-- In m rounds it passes in at most half of all ways to ask.
abbrev pub Halves : Type 0
Halves = (m : ℕ) → 0 < m → 2 * (m - 1) ^ m ≤ m ^ m

-- In 40 m rounds it passes in at most one of 2 ^ 40 of all ways to ask.
abbrev pub Enough : Type 0
Enough = (m : ℕ) → 0 < m → 2 ^ 40 * (m - 1) ^ (40 * m) ≤ m ^ (40 * m)
