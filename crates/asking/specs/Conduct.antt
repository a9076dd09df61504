-- The asker's conduct in the protocol's words: what can be on the line, in the order of time, and how it ends then. H is any function in the place of
-- SHA-256. Assumes nothing.
use Rattle.std.specs.Prelude.{◌≡◌, ℕ, ◌+◌, ◌*◌, ◌<◌, Bool, true, false, cond, ◌&&◌, ◌≢◌, List, [], ◌∷◌, reverse, length, Decides, ◌==◌}
use Rattle.paths.specs.Plan.{Task, at}
use Rattle.paths.specs.Show.{pair_at}
use Rattle.tasks.specs.Reading.{got, refused}
use Rattle.tasks.specs.Writing.{task_bytes}
use Rattle.boxes.specs.Box.{Opening}
use Rattle.book.specs.Lengths.{round_text}
use Rattle.book.specs.Chain.{after}
use Rattle.lots.specs.Lots.{Had, question_in}
use Rattle.words.specs.Said.{Said, task, boxes, ask, opened, end}
use Rattle.words.specs.Reading.{read_word}
use Rattle.words.specs.Writing.{said_bytes, is_got, is_said}
use Rattle.round.specs.Over.{Over, Outcome, content, fault, task_fault}
use Rattle.round.specs.Contents.{Contents}
use Rattle.round.specs.Round.{test_opened}
use Rattle.asking.specs.Asking.{is_opened_of}
use Rattle.round.specs.Line.{Event, sent, heard, Other, SaysBytes, Ran}
use Rattle.asking.specs.Run.{asking}

-- why bytes are refused where such a word is awaited, by the fault's number: they are no word, or another word
pub data NotAwaited (t : Task) (w : List ℕ) (Awaited : Said → Type 0) : ℕ → Type 0 where
  no_word : (f : ℕ) → read_word t w ≡ refused f → NotAwaited t w Awaited f
  other_word : (x : Said) → read_word t w ≡ got x → (Awaited x → ⊥) → NotAwaited t w Awaited 6

-- where the Boxes of round n are awaited
abbrev pub NoBoxes : Task → ℕ → List ℕ → ℕ → Type 0
NoBoxes t n w f = NotAwaited t w (λ x. (ds : List ℕ) × (x ≡ boxes n ds)) f

-- where the Task is awaited: a task with other bytes is refused too
pub data NoTask (t : Task) (w : List ℕ) : ℕ → Type 0 where
  no_task_word : (f : ℕ) → NotAwaited t w (λ x. (bs : List ℕ) × (x ≡ task bs)) f → NoTask t w f
  other_task : read_word t w ≡ got (task w) → w ≢ task_bytes t → NoTask t w 4

module _ (H : List ℕ → List ℕ) (t : Task) where
  -- why the bytes that come in answer are refused: they are no word, or not an Opened of this round that contents the asker; of the faults of a word that was
  -- read the lowest is told
  pub data NotContent (n i : ℕ) (ds w : List ℕ) : ℕ → Type 0 where
    unread : (f : ℕ) → read_word t w ≡ refused f → NotContent n i ds w f
    bad : (v : Said) (f : ℕ) → read_word t w ≡ got v → ((x y : Opening) → v ≡ opened n x y → Contents H t n i ds x y → ⊥) → test_opened H t n i ds v ≡ refused f →
        NotContent n i ds w f

  -- a refused answer is a word of the round in the book if it is an Opened of this round
  abbrev pub kept : ℕ → List ℕ → List ℕ
  kept n w = cond (is_opened_of n (read_word t w)) w []

  -- the words of round n in the book: pair i is asked for, and the End says c
  abbrev pub text : ℕ → List ℕ → ℕ → List ℕ → Bool → List ℕ
  text n ds i answer c = round_text (said_bytes (boxes n ds)) (said_bytes (ask n i)) answer (said_bytes (end n c))

  -- with the book of the closed rounds, by their texts, the last first
  abbrev pub ends_by : Outcome → List (List ℕ) → Over
  ends_by o ws = record { outcome = o; digest = after H (task_bytes t) ws }

  -- Of r rounds, what can be on the line from round n on, with these drawn bytes left and these rounds closed; and how it ends then. Nothing follows a refusal
  -- or an End that says 0, and an End says 1 only where the asker is content
  pub data From (r : ℕ) : ℕ → List ℕ → List (List ℕ) → List Event → Over → Type 0 where
    all_rounds : (drawn : List ℕ) (ws : List (List ℕ)) → From r r drawn ws [] (ends_by (content r) ws)
    drawn_out : (n : ℕ) (drawn : List ℕ) (ws : List (List ℕ)) → n < r → question_in t drawn ≡ refused 11 → From r n drawn ws [] (ends_by (fault 11 n) ws)
    no_boxes : (n : ℕ) (drawn : List ℕ) (ws : List (List ℕ)) (h : Had ℕ) (w : List ℕ) (f : ℕ) → n < r → question_in t drawn ≡ got h → NoBoxes t n w f →
        From r n drawn ws (heard w ∷ []) (ends_by (fault f n) ws)
    end0 : (n : ℕ) (drawn : List ℕ) (ws : List (List ℕ)) (h : Had ℕ) (ds w : List ℕ) (f : ℕ) → n < r → question_in t drawn ≡ got h → h.what < length t.pairs →
        length ds ≡ 32 * t.trains → NotContent n h.what ds w f →
        From r n drawn ws (heard (said_bytes (boxes n ds)) ∷ sent (said_bytes (ask n h.what)) ∷ heard w ∷ sent (said_bytes (end n false)) ∷ [])
        (ends_by (fault f n) (text n ds h.what (kept n w) false ∷ ws))
    end1 : (n : ℕ) (drawn : List ℕ) (ws : List (List ℕ)) (h : Had ℕ) (ds : List ℕ) (x y : Opening) (rest : List Event) (o : Over) → n < r →
        question_in t drawn ≡ got h → h.what < length t.pairs → length ds ≡ 32 * t.trains → Contents H t n h.what ds x y → is_said t (opened n x y) ≡ true →
        From r (n + 1) h.left (text n ds h.what (said_bytes (opened n x y)) true ∷ ws) rest o →
        From r n drawn ws (heard (said_bytes (boxes n ds)) ∷ sent (said_bytes (ask n h.what)) ∷ heard (said_bytes (opened n x y)) ∷ sent (said_bytes (end n true)) ∷ rest) o

  -- the same from the Task on
  pub data Whole (r : ℕ) (drawn : List ℕ) : List Event → Over → Type 0 where
    no_task : (w : List ℕ) (f : ℕ) → NoTask t w f → Whole r drawn (heard w ∷ []) (ends_by (task_fault f) [])
    own_task : (line : List Event) (o : Over) → From r 0 drawn [] line o → Whole r drawn (heard (task_bytes t) ∷ line) o

-- a word that is an End and says 1; and how many such words were sent
abbrev pub is_end1 : List ℕ → Bool
is_end1 w = at w 0 == 6 && at w 5 == 1

unfoldable pub ends1 : List Event → ℕ
ends1 [] = 0
ends1 (sent w ∷ line) = cond (is_end1 w) 1 0 + ends1 line
ends1 (heard w ∷ line) = ends1 line

-- what is said of a run in which this word came first: the asker is content at the end exactly if the word was its own Task and it sent an End that says 1 in
-- each round
pub record Conducted (H : List ℕ → List ℕ) (t : Task) (r : ℕ) (drawn word : List ℕ) (x : Ran) : Type 0 where
  pub line : Whole H t r drawn (reverse x.line) x.over
  pub content_then : x.over.outcome ≡ content r → (word ≡ task_bytes t) × (ends1 x.line ≡ r)
  pub then_content : word ≡ task_bytes t → ends1 x.line ≡ r → x.over.outcome ≡ content r

-- Whatever bytes the other side says, and whatever is drawn.
abbrev pub Conduct : (List ℕ → List ℕ) → Task → ℕ → Type 0
Conduct H t r =
    (other : Other) → SaysBytes other → (drawn : List ℕ) → Conducted H t r drawn (other []) (asking H other t r drawn)
