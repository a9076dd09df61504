-- What the finding of the plan and the drawn bytes says of the rounds. H is any function in the place of SHA-256. Assumes nothing.
use Rattle.std.specs.Prelude.{◌≡◌, ℕ, ◌+◌, ◌<◌, ◌≤◌, List, [], ◌∷◌, length, Some}
use Rattle.paths.specs.Plan.{Task, Plan}
use Rattle.paths.specs.Show.{pair_at}
use Rattle.tasks.specs.Reading.{got, refused}
use Rattle.boxes.specs.Box.{boxes_of}
use Rattle.lots.specs.Lots.{Had, Lot, lot_in}
use Rattle.words.specs.Writing.{said_bytes}
use Rattle.round.specs.Round.{held, part_of, opened_for}
use Rattle.judging.specs.Verdict.{Redrawn, agrees, drawn_out, differs}
use Rattle.cutting.specs.Cutting.{Round}
use Rattle.judging.specs.Judging.{digests_of, opening_in, redrawn_from}

module _ (H : List ℕ → List ℕ) (t : Task) (p : Plan) where
  -- round n as it is, with the lot l
  module _ (n : ℕ) (l : Lot) (r : Round) where
    -- the box of train i is the one that the plan and the lot give
    abbrev pub SameBox : ℕ → Type 0
    SameBox i = part_of (digests_of r) i ≡ part_of (boxes_of H n 0 (held p l.order) l.chances) i

    abbrev pub SameBoxes : ℕ → Type 0
    SameBoxes trains = (i : ℕ) → i < trains → SameBox i

    -- so is the opening that begins at this place of the Opened
    abbrev pub SameOpening : ℕ → Type 0
    SameOpening at = opening_in at r.opened ≡ opening_in at (said_bytes (opened_for t n p l r.asked.pair))

    abbrev pub IsOpened : Type 0
    IsOpened = length r.opened ≡ 75

    -- each box, and the Opened if there is one
    pub record Same : Type 0 where
      pub boxes_same : SameBoxes t.trains
      pub pair_there : IsOpened → r.asked.pair < length t.pairs
      pub first_same : IsOpened → SameOpening 5
      pub second_same : IsOpened → SameOpening 40

    -- the first train for which it is not so, and why
    pub data Other : ℕ → Type 0 where
      box : (i : ℕ) → i < t.trains → SameBoxes i → (SameBox i → ⊥) → Other i
      no_pair : SameBoxes t.trains → IsOpened → length t.pairs ≤ r.asked.pair → Other 0
      first : SameBoxes t.trains → IsOpened → r.asked.pair < length t.pairs → (SameOpening 5 → ⊥) → Other (pair_at t r.asked.pair).a
      second : SameBoxes t.trains → IsOpened → r.asked.pair < length t.pairs → SameOpening 5 → (SameOpening 40 → ⊥) →
          Other (pair_at t r.asked.pair).e

  -- what is found of the rounds from n on, where these drawn bytes are left
  pub data Finds : ℕ → List ℕ → List Round → Redrawn → Type 0 where
    all_agree : (n : ℕ) (drawn : List ℕ) → Finds n drawn [] agrees
    used_up : (n : ℕ) (drawn : List ℕ) (r : Round) (rs : List Round) (f : ℕ) → lot_in t drawn ≡ refused f → Finds n drawn (r ∷ rs) (drawn_out n)
    differ : (n : ℕ) (drawn : List ℕ) (r : Round) (rs : List Round) (h : Had Lot) (i : ℕ) → lot_in t drawn ≡ got h → Other n h.what r i →
        Finds n drawn (r ∷ rs) (differs n i)
    agree : (n : ℕ) (drawn : List ℕ) (r : Round) (rs : List Round) (h : Had Lot) (d : Redrawn) → lot_in t drawn ≡ got h → Same n h.what r →
        Finds (n + 1) h.left rs d → Finds n drawn (r ∷ rs) d

-- A finding is told exactly where it is so: a round and a train are named if and only if all before agrees, and there the box, or else the opening, is not what
-- the plan and the drawn bytes give.
abbrev pub TellsDifference : (List ℕ → List ℕ) → Type 0
TellsDifference H =
    (t : Task) (p : Plan) (n : ℕ) (drawn : List ℕ) (rs : List Round) →
    Finds H t p n drawn rs (redrawn_from H t (Some p) n drawn rs) × ((d : Redrawn) → Finds H t p n drawn rs d → redrawn_from H t (Some p) n drawn rs ≡ d)
