-- The planner's conduct in the protocol's words: what can be on the line, in the order of time, and how it ends then. H is any function in the place of
-- SHA-256. Assumes nothing.
use Rattle.std.specs.Prelude.{◌≡◌, ℕ, ◌+◌, ◌<◌, ◌≤◌, Bool, true, false, List, [], ◌∷◌, reverse, length}
use Rattle.paths.specs.Plan.{Task, Plan}
use Rattle.tasks.specs.Reading.{got, refused}
use Rattle.tasks.specs.Writing.{task_bytes}
use Rattle.book.specs.Lengths.{round_text}
use Rattle.book.specs.Chain.{after}
use Rattle.lots.specs.Lots.{Had, Lot, lot_in}
use Rattle.words.specs.Said.{Said, ask, end}
use Rattle.words.specs.Reading.{read_word}
use Rattle.words.specs.Writing.{said_bytes}
use Rattle.round.specs.Over.{Over, Outcome, content, not_content, fault}
use Rattle.round.specs.Round.{boxes_for, opened_for}
use Rattle.round.specs.Line.{Event, sent, heard, Other, SaysBytes}
use Rattle.planning.specs.Run.{showing}

abbrev pub AnAsk : ℕ → Said → Type 0
AnAsk n x = (i : ℕ) × (x ≡ ask n i)

abbrev pub AnEnd : ℕ → Said → Type 0
AnEnd n x = (c : Bool) × (x ≡ end n c)

-- why bytes are refused, by the fault's number: they are no word, or one that is not awaited
pub data Refused (t : Task) (awaited : Said → Type 0) (w : List ℕ) : ℕ → Type 0 where
  no_word : (f : ℕ) → read_word t w ≡ refused f → Refused t awaited w f
  not_awaited : (x : Said) → read_word t w ≡ got x → (awaited x → ⊥) → Refused t awaited w 6

-- a showing of plan p for task t in r rounds
module _ (H : List ℕ → List ℕ) (t : Task) (p : Plan) (r : ℕ) where
  -- the words of round n with this lot: pair i is asked for and opened, and the End says c
  abbrev pub boxes_word : ℕ → Lot → List ℕ
  boxes_word n l = said_bytes (boxes_for H n p l)

  abbrev pub opened_word : ℕ → Lot → ℕ → List ℕ
  opened_word n l i = said_bytes (opened_for t n p l i)

  abbrev pub text : ℕ → Lot → ℕ → Bool → List ℕ
  text n l i c = round_text (boxes_word n l) (said_bytes (ask n i)) (opened_word n l i) (said_bytes (end n c))

  -- Boxes, Ask and Opened of the round, and what follows them
  abbrev pub opens : ℕ → Lot → ℕ → List Event → List Event
  opens n l i rest = sent (boxes_word n l) ∷ heard (said_bytes (ask n i)) ∷ sent (opened_word n l i) ∷ rest

  -- with the book of the closed rounds, by their texts, the last first
  abbrev pub ends_by : Outcome → List (List ℕ) → Over
  ends_by o ws = record { outcome = o; digest = after H (task_bytes t) ws }

  -- the round is one of the r, and the drawn bytes give this lot
  abbrev pub Drew : ℕ → List ℕ → Had Lot → Type 0
  Drew n drawn h = (n < r) × (lot_in t drawn ≡ got h)

  -- What can be on the line from round n on, with these drawn bytes left and these rounds closed; and how it ends then. Nothing follows a refusal, or an End
  -- that says 0
  pub data From : ℕ → List ℕ → List (List ℕ) → List Event → Over → Type 0 where
    -- all rounds are over, and the asker is content
    all_rounds : (drawn : List ℕ) (ws : List (List ℕ)) → From r drawn ws [] (ends_by (content r) ws)
    -- the drawn bytes don't suffice for the round
    drawn_out : (n : ℕ) (drawn : List ℕ) (ws : List (List ℕ)) → n < r → lot_in t drawn ≡ refused 11 → From n drawn ws [] (ends_by (fault 11 n) ws)
    -- what came is no Ask of this round
    no_ask : (n : ℕ) (drawn : List ℕ) (ws : List (List ℕ)) (h : Had Lot) (w : List ℕ) (f : ℕ) → Drew n drawn h → Refused t (AnAsk n) w f →
        From n drawn ws (sent (boxes_word n h.what) ∷ heard w ∷ []) (ends_by (fault f n) ws)
    -- a pair is asked for that isn't there
    no_pair : (n : ℕ) (drawn : List ℕ) (ws : List (List ℕ)) (h : Had Lot) (i : ℕ) → Drew n drawn h → length t.pairs ≤ i →
        From n drawn ws (sent (boxes_word n h.what) ∷ heard (said_bytes (ask n i)) ∷ []) (ends_by (fault 7 n) ws)
    -- the pair is opened, but what came then is no End of this round
    no_end : (n : ℕ) (drawn : List ℕ) (ws : List (List ℕ)) (h : Had Lot) (i : ℕ) (w : List ℕ) (f : ℕ) → Drew n drawn h → i < length t.pairs →
        Refused t (AnEnd n) w f → From n drawn ws (opens n h.what i (heard w ∷ [])) (ends_by (fault f n) ws)
    -- the asker isn't content
    end0 : (n : ℕ) (drawn : List ℕ) (ws : List (List ℕ)) (h : Had Lot) (i : ℕ) → Drew n drawn h → i < length t.pairs →
        From n drawn ws (opens n h.what i (heard (said_bytes (end n false)) ∷ [])) (ends_by (not_content n) (text n h.what i false ∷ ws))
    -- the asker is content with the round, and the next one follows
    end1 : (n : ℕ) (drawn : List ℕ) (ws : List (List ℕ)) (h : Had Lot) (i : ℕ) (rest : List Event) (o : Over) → Drew n drawn h → i < length t.pairs →
        From (n + 1) h.left (text n h.what i true ∷ ws) rest o → From n drawn ws (opens n h.what i (heard (said_bytes (end n true)) ∷ rest)) o

  -- Whatever bytes the other side says: on the line is the Task, and then what can be there from round 0 on.
  abbrev pub Conduct : Type 0
  Conduct =
      (other : Other) → SaysBytes other → (drawn : List ℕ) →
      (line : List Event) × (reverse (showing H other t p r drawn).line ≡ sent (task_bytes t) ∷ line) × From 0 drawn [] line (showing H other t p r drawn).over
