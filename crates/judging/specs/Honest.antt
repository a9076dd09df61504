-- The words of a showing with an honest planner, as either side may have kept them, and what is promised of them. H is any function in the place of SHA-256. Assumes nothing.
use Rattle.std.specs.Prelude.{◌≡◌, ℕ, ◌+◌, ◌^◌, ◌<◌, ◌≤◌, Bool, true, false, List, [], ◌∷◌, reverse, length, Some}
use Rattle.paths.specs.Plan.{Task, Plan, fits, all_below}
use Rattle.tasks.specs.Reading.{got, refused}
use Rattle.tasks.specs.Task.{sound}
use Rattle.tasks.specs.Writing.{task_bytes}
use Rattle.book.specs.Lengths.{round_text}
use Rattle.book.specs.Chain.{after}
use Rattle.lots.specs.Lots.{Had, Lot, lot_in}
use Rattle.words.specs.Said.{ask, end}
use Rattle.words.specs.Writing.{said_bytes}
use Rattle.round.specs.Round.{boxes_for, opened_for}
use Rattle.judging.specs.Verdict.{Content, content_all, not_content, agrees, judged}
use Rattle.judging.specs.Judging.{verdict}

-- the plan p for the task t
module _ (H : List ℕ → List ℕ) (t : Task) (p : Plan) where
  -- what is said in round n with this lot: the Boxes; for pair i the Ask and the Opened; and the End
  abbrev pub boxes_word : ℕ → Lot → List ℕ
  boxes_word n l = said_bytes (boxes_for H n p l)

  abbrev pub ask_word : ℕ → ℕ → List ℕ
  ask_word n i = said_bytes (ask n i)

  abbrev pub opened_word : ℕ → Lot → ℕ → List ℕ
  opened_word n l i = said_bytes (opened_for t n p l i)

  abbrev pub end_word : ℕ → Bool → List ℕ
  end_word n c = said_bytes (end n c)

  -- The words from round n on, where these drawn bytes are left: each round's lot is drawn from them, and any pair may be asked for. The last round may end with
  -- 0, over its Opened or, as an asker has it to whom no answer came, without one. With the texts of the rounds, and what is to be found of the asker's content
  pub data Honest : ℕ → List ℕ → List (List ℕ) → List (List ℕ) → Content → Type 0 where
    over : (n : ℕ) (drawn : List ℕ) → Honest n drawn [] [] content_all
    round1 : (n : ℕ) (drawn : List ℕ) (h : Had Lot) (i : ℕ) (ws texts : List (List ℕ)) (c : Content) → lot_in t drawn ≡ got h → i < length t.pairs →
        Honest (n + 1) h.left ws texts c →
        Honest n drawn (boxes_word n h.what ∷ ask_word n i ∷ opened_word n h.what i ∷ end_word n true ∷ ws)
        (round_text (boxes_word n h.what) (ask_word n i) (opened_word n h.what i) (end_word n true) ∷ texts) c
    round0 : (n : ℕ) (drawn : List ℕ) (h : Had Lot) (i : ℕ) → lot_in t drawn ≡ got h → i < length t.pairs →
        Honest n drawn (boxes_word n h.what ∷ ask_word n i ∷ opened_word n h.what i ∷ end_word n false ∷ [])
        (round_text (boxes_word n h.what) (ask_word n i) (opened_word n h.what i) (end_word n false) ∷ []) (not_content n (got tt))
    short0 : (n : ℕ) (drawn : List ℕ) (h : Had Lot) (i : ℕ) → lot_in t drawn ≡ got h → i < length t.pairs →
        Honest n drawn (boxes_word n h.what ∷ ask_word n i ∷ end_word n false ∷ [])
        (round_text (boxes_word n h.what) (ask_word n i) [] (end_word n false) ∷ []) (not_content n (refused 1))

-- An honest planner whose plan fits is never blamed: its words fit its book's last digest, its openings are good, and its plan and drawn bytes give them.
abbrev pub HonestPasses : (List ℕ → List ℕ) → Type 0
HonestPasses H =
    (t : Task) → sound t ≡ true → (p : Plan) → fits t p ≡ true → (drawn : List ℕ) → all_below 256 drawn ≡ true → (ws texts : List (List ℕ)) (c : Content) →
    Honest H t p 0 drawn ws texts c → length texts ≤ 2 ^ 24 → verdict H t (Some p) drawn (after H (task_bytes t) (reverse texts)) ws ≡ judged (length texts) c agrees
