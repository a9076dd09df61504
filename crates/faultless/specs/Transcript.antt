-- The transcript of an asker's run: the words of its closed rounds, both directions, as they were on the line. Assumes nothing.
use Rattle.std.specs.Prelude.{ℕ, ◌+◌, cond, List, [], ◌∷◌, reverse, drop}
use Rattle.paths.specs.Plan.{Task}
use Rattle.words.specs.Reading.{read_word}
use Rattle.round.specs.Line.{Event, sent, heard, Ran}
use Rattle.asking.specs.Asking.{is_opened_of}

abbrev pub event_word : Event → List ℕ
event_word (sent w) = w
event_word (heard w) = w

-- an answer that is no Opened of its round is left out
abbrev pub if_opened : Task → ℕ → List ℕ → List (List ℕ) → List (List ℕ)
if_opened t n w ws = cond (is_opened_of n (read_word t w)) (w ∷ ws) ws

-- The words of the closed rounds of what was on the line from round n on, in the order of time: four words are a round. What comes after them is left out
unfoldable pub words_from : Task → ℕ → List Event → List (List ℕ)
words_from t n [] = []
words_from t n (b ∷ []) = []
words_from t n (b ∷ a ∷ []) = []
words_from t n (b ∷ a ∷ w ∷ []) = []
words_from t n (b ∷ a ∷ w ∷ e ∷ line) = event_word b ∷ event_word a ∷ if_opened t n (event_word w) (event_word e ∷ words_from t (n + 1) line)

-- without the Task, which is first
abbrev pub transcript : Task → Ran → List (List ℕ)
transcript t x = words_from t 0 (drop 1 (reverse x.line))
