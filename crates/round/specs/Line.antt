-- The line between a side and the other, which may say anything. Assumes nothing.
use Rattle.std.specs.Prelude.{◌≡◌, ℕ, true, List}
use Rattle.paths.specs.Plan.{all_below}
use Rattle.round.specs.Over.{Over}

-- what is on the line, as one side sees it
pub data Event : Type 0 where
  sent : List ℕ → Event
  heard : List ℕ → Event

-- what the other side says next, by all that was on the line, the last first; no bytes are the end of the input. A side with coins of its own is covered by fixing
-- them
abbrev pub Other : Type 0
Other = List Event → List ℕ

abbrev pub SaysBytes : Other → Type 0
SaysBytes other = (line : List Event) → all_below 256 (other line) ≡ true

-- all that was on the line, the last first, and how it ended
pub record Ran : Type 0 where
  pub line : List Event
  pub over : Over
