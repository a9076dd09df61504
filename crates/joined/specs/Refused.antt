-- A word that is refused ends all: whatever comes after it, nothing more is sent. H is any function in the place of SHA-256. Assumes nothing.
use Rattle.std.specs.Prelude.{◌≡◌, ℕ, false, List, [], ◌∷◌}
use Rattle.paths.specs.Plan.{Task}
use Rattle.tasks.specs.Reading.{got, refused, and_then}
use Rattle.tasks.specs.Writing.{task_bytes}
use Rattle.words.specs.Said.{end}
use Rattle.words.specs.Awaited.{on_boxes}
use Rattle.words.specs.Reading.{read_word}
use Rattle.words.specs.Writing.{said_bytes}
use Rattle.planning.specs.Planning as planning
use Rattle.asking.specs.Asking as asking
use Rattle.joined.specs.Side.{Side, says, hears, ends}
use Rattle.joined.specs.Sides.{awaits_ask, awaits_end, plans, awaits_boxes, awaits_answer, asks, asker}

-- what a side sends where these words come one after the other, and no more than these
unfoldable pub sends : Side → List (List ℕ) → List (List ℕ)
sends (says w s) words = w ∷ sends s words
sends (hears next) [] = []
sends (hears next) (w ∷ words) = sends (next w) words
sends (ends o) words = []

-- With any later words, however many rounds there were still to be: the planner sends nothing after a word that it refuses, and after an End of an asker who isn't
-- content; the asker sends nothing after a Task or Boxes that it refuses, and after a refused answer the End that says so and no more.
pub record RefusedEnds (H : List ℕ → List ℕ) : Type 0 where
  pub no_ask : (s : planning.Closed) (left : ℕ) (drawn word : List ℕ) (f : ℕ) (later : List (List ℕ)) →
      planning.ask_in s.ready.task s.ready.round word ≡ refused f → sends (awaits_ask H (plans H left drawn) s) (word ∷ later) ≡ []
  pub no_end : (s : planning.Opened) (left : ℕ) (drawn word : List ℕ) (f : ℕ) (later : List (List ℕ)) →
      planning.end_in s.closed.ready.task s.closed.ready.round word ≡ refused f → sends (awaits_end H (plans H left drawn) s) (word ∷ later) ≡ []
  pub not_content : (s : planning.Opened) (left : ℕ) (drawn word : List ℕ) (later : List (List ℕ)) →
      planning.end_in s.closed.ready.task s.closed.ready.round word ≡ got false → sends (awaits_end H (plans H left drawn) s) (word ∷ later) ≡ []
  pub no_task : (t : Task) (r : ℕ) (drawn word : List ℕ) (f : ℕ) (later : List (List ℕ)) →
      and_then (read_word t word) (asking.on_task (task_bytes t)) ≡ refused f → sends (asker H t r drawn) (word ∷ later) ≡ []
  pub no_boxes : (s : asking.Drawn) (left : ℕ) (drawn word : List ℕ) (f : ℕ) (later : List (List ℕ)) →
      and_then (read_word s.ready.task word) (on_boxes s.ready.round) ≡ refused f → sends (awaits_boxes H (asks H left drawn) s) (word ∷ later) ≡ []
  pub no_answer : (s : asking.Asked) (left : ℕ) (drawn word : List ℕ) (f : ℕ) (later : List (List ℕ)) →
      (asking.test H s word).test ≡ refused f → sends (awaits_answer H (asks H left drawn) s) (word ∷ later) ≡ said_bytes (end s.drawn.ready.round false) ∷ []
