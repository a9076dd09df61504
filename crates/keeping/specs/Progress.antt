-- When the progress is written. Assumes nothing.
use Rattle.std.specs.Prelude.{ℕ, Bool, true, not, ◌||◌, Option, None, Some, nat_le, ◌==◌}

-- in another tenth of a second than the last time, and after the last round
abbrev pub due : Option ℕ → ℕ → ℕ → ℕ → Bool
due None all rounds tenths = true
due (Some last) all rounds tenths = not (last == tenths) || nat_le all rounds
