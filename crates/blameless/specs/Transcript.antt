-- The transcript of a planner's run: the words of its closed rounds, both directions, as they were on the line. Assumes nothing.
use Rattle.std.specs.Prelude.{ℕ, ◌+◌, Bool, true, false, cond, ◌||◌, List, [], ◌∷◌, map, reverse, drop}
use Rattle.paths.specs.Count.{same_row}
use Rattle.words.specs.Said.{end}
use Rattle.words.specs.Writing.{said_bytes}
use Rattle.round.specs.Line.{Event, sent, heard, Ran}

abbrev pub event_word : Event → List ℕ
event_word (sent w) = w
event_word (heard w) = w

-- was an End of round n heard
abbrev pub is_end : ℕ → Event → Bool
is_end n (sent w) = false
is_end n (heard w) = same_row w (said_bytes (end n true)) || same_row w (said_bytes (end n false))

-- The closed rounds of what was on the line from round n on, in the order of time: four words are a round, and it is closed if the fourth is an End of it.
-- What comes from the first round on that isn't closed is left out
unfoldable pub closed_from : ℕ → List Event → List Event
closed_from n [] = []
closed_from n (b ∷ []) = []
closed_from n (b ∷ a ∷ []) = []
closed_from n (b ∷ a ∷ o ∷ []) = []
closed_from n (b ∷ a ∷ o ∷ e ∷ line) = cond (is_end n e) (b ∷ a ∷ o ∷ e ∷ closed_from (n + 1) line) []

-- without the Task, which is first
abbrev pub transcript : Ran → List (List ℕ)
transcript x = map event_word (closed_from 0 (drop 1 (reverse x.line)))
