-- Completeness against any asker: what is properly asked for is opened so that the asker accepts it. Assumes nothing.
use Rattle.std.specs.Prelude.{◌≡◌, ℕ, ◌^◌, ◌<◌, ◌≤◌, true, T, List, [], ◌∷◌, reverse, length}
use Rattle.paths.specs.Plan.{Task, Plan, all_below, fits}
use Rattle.tasks.specs.Reading.{got}
use Rattle.tasks.specs.Task.{sound}
use Rattle.book.specs.Chain.{Sized}
use Rattle.words.specs.Said.{Said, boxes, ask}
use Rattle.words.specs.Reading.{read_word}
use Rattle.round.specs.Round.{test_opened}
use Rattle.round.specs.Line.{Event, sent, heard, Other}
use Rattle.planning.specs.Run.{showing}

module _ (H : List ℕ → List ℕ) (t : Task) where
  -- what is sent next is read as a word that the asker accepts who asked for pair i in round n, where the Boxes had these digests
  abbrev pub Accepted : ℕ → ℕ → List ℕ → List Event → Type 0
  Accepted n i ds (sent w ∷ line) = (x : Said) × (read_word t w ≡ got x) × (test_opened H t n i ds x ≡ got tt)
  Accepted n i ds (heard w ∷ line) = ⊥
  Accepted n i ds [] = ⊥

  -- where Boxes were sent, and then an Ask of their round was heard for a pair that is there
  abbrev pub AnsweredHere : Event → List Event → Type 0
  AnsweredHere (sent b) (heard a ∷ line) =
      (n i : ℕ) (ds : List ℕ) → read_word t b ≡ got (boxes n ds) → read_word t a ≡ got (ask n i) → i < length t.pairs → Accepted n i ds line
  AnsweredHere (sent b) (sent a ∷ line) = Unit {0}
  AnsweredHere (sent b) [] = Unit {0}
  AnsweredHere (heard b) line = Unit {0}

  -- and so everywhere on the line, in the order of time
  unfoldable pub Answered : List Event → Type 0
  Answered [] = Unit {0}
  Answered (e ∷ line) = AnsweredHere e line × Answered line

-- Whatever the other side says, and whatever is drawn, a planner whose plan fits answers so.
abbrev pub Completes : Type 0
Completes =
    (H : List ℕ → List ℕ) → Sized H → (t : Task) → sound t ≡ true → (p : Plan) → fits t p ≡ true → (r : ℕ) → r ≤ 2 ^ 32 →
    (other : Other) (drawn : List ℕ) → T (all_below 256 drawn) → Answered H t (reverse (showing H other t p r drawn).line)
