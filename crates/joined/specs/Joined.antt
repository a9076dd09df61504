-- The planner and the asker joined by a faithful line: both are content with all rounds, or the drawn bytes of a side are too few. H is any function in the place
-- of SHA-256. Assumes nothing.
use Rattle.std.specs.Prelude.{◌≡◌, ℕ, ◌+◌, ◌^◌, ◌<◌, ◌≤◌, true, T, List, [], ◌∷◌, ◌++◌, reverse}
use Rattle.paths.specs.Plan.{Task, Plan, all_below, fits}
use Rattle.tasks.specs.Reading.{got, refused}
use Rattle.tasks.specs.Task.{sound}
use Rattle.tasks.specs.Writing.{task_bytes}
use Rattle.book.specs.Chain.{Sized, after}
use Rattle.lots.specs.Lots.{Had, Lot, lot_in, question_in, in_turn}
use Rattle.words.specs.Said.{ask, end}
use Rattle.words.specs.Writing.{said_bytes}
use Rattle.round.specs.Line.{Event, sent, heard, Ran}
use Rattle.round.specs.Over.{Over, content, fault}
use Rattle.planning.specs.Run.{showing}
use Rattle.planning.specs.Conduct.{boxes_word, opened_word, text, ends_by}
use Rattle.asking.specs.Run.{asking}
use Rattle.joined.specs.Side.{as_other, exchanged}
use Rattle.joined.specs.Sides.{planner, asker}

-- a showing of plan p for task t in r rounds
module _ (H : List ℕ → List ℕ) (t : Task) (p : Plan) (r : ℕ) where
  -- round n with this lot where pair i is asked for, as the planner sees it
  abbrev pub round_on : ℕ → Lot → ℕ → List Event
  round_on n l i = sent (boxes_word H t p r n l) ∷ heard (said_bytes (ask n i)) ∷ sent (opened_word H t p r n l i) ∷ heard (said_bytes (end n true)) ∷ []

  -- What is on the planner's line from round n on, in the order of time, and how it ends for the planner, and the same for the asker, with these drawn bytes of the
  -- planner and of the asker left and these rounds closed in both books. A side whose drawn bytes are too few stops by 11 and says nothing; the other one then
  -- hears the end of the input, which is fault 1. The planner looks before its Boxes, the asker before it hears them
  pub data Goes : ℕ → List ℕ → List ℕ → List (List ℕ) → List Event → Over → List Event → Over → Type 0 where
    all_rounds : (drawn its-drawn : List ℕ) (ws : List (List ℕ)) → Goes r drawn its-drawn ws [] (ends_by H t p r (content r) ws) [] (ends_by H t p r (content r) ws)
    planner_lacks : (n : ℕ) (drawn its-drawn : List ℕ) (ws : List (List ℕ)) (q : Had ℕ) → n < r → lot_in t drawn ≡ refused 11 → question_in t its-drawn ≡ got q →
        Goes n drawn its-drawn ws [] (ends_by H t p r (fault 11 n) ws) (heard [] ∷ []) (ends_by H t p r (fault 1 n) ws)
    asker_lacks : (n : ℕ) (drawn its-drawn : List ℕ) (ws : List (List ℕ)) (h : Had Lot) → n < r → lot_in t drawn ≡ got h → question_in t its-drawn ≡ refused 11 →
        Goes n drawn its-drawn ws (sent (boxes_word H t p r n h.what) ∷ heard [] ∷ []) (ends_by H t p r (fault 1 n) ws) [] (ends_by H t p r (fault 11 n) ws)
    both_lack : (n : ℕ) (drawn its-drawn : List ℕ) (ws : List (List ℕ)) → n < r → lot_in t drawn ≡ refused 11 → question_in t its-drawn ≡ refused 11 →
        Goes n drawn its-drawn ws [] (ends_by H t p r (fault 11 n) ws) [] (ends_by H t p r (fault 11 n) ws)
    content_round : (n : ℕ) (drawn its-drawn : List ℕ) (ws : List (List ℕ)) (h : Had Lot) (q : Had ℕ) (line its_line : List Event) (over its-over : Over) → n < r →
        lot_in t drawn ≡ got h → question_in t its-drawn ≡ got q →
        Goes (n + 1) h.left q.left (text H t p r n h.what q.what true ∷ ws) line over its_line its-over →
        Goes n drawn its-drawn ws (round_on n h.what q.what ++ line) over (exchanged (round_on n h.what q.what) ++ its_line) its-over

  -- the planner's run, and the asker's: on both lines is the Task, and then what goes on from round 0; both books are of the same rounds, by their texts, the last
  -- first; and where the drawn bytes of both sides are enough for r rounds, both end alike, content with all of them, and one line is the other one exchanged
  pub record Together (drawn its-drawn : List ℕ) (planned asked : Ran) : Type 0 where
    pub line : List Event
    pub its_line : List Event
    pub line_is : reverse planned.line ≡ sent (task_bytes t) ∷ line
    pub its_line_is : reverse asked.line ≡ heard (task_bytes t) ∷ its_line
    pub goes : Goes 0 drawn its-drawn [] line planned.over its_line asked.over
    pub rounds : List (List ℕ)
    pub book : planned.over.digest ≡ after H (task_bytes t) rounds
    pub its_book : asked.over.digest ≡ after H (task_bytes t) rounds
    pub enough : (lots : Had (List Lot)) (questions : Had (List ℕ)) → in_turn (lot_in t) r drawn ≡ got lots → in_turn (question_in t) r its-drawn ≡ got questions →
        (planned.over.outcome ≡ content r) × (asked.over ≡ planned.over) × (asked.line ≡ exchanged planned.line)

-- Whatever is drawn: each run is that of one side against the other one, which is a function of the line.
abbrev pub Joins : Type 0
Joins =
    (H : List ℕ → List ℕ) → Sized H → (t : Task) → sound t ≡ true → (p : Plan) → fits t p ≡ true → (r : ℕ) → r ≤ 2 ^ 32 →
    (drawn its-drawn : List ℕ) → T (all_below 256 drawn) →
    Together H t p r drawn its-drawn (showing H (as_other (asker H t r its-drawn)) t p r drawn) (asking H (as_other (planner H t p r drawn)) t r its-drawn)
