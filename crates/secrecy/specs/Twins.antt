-- The lines of two showings that differ only in boxes that stay closed. H is any function in the place of SHA-256. Assumes nothing.
use Rattle.std.specs.Prelude.{◌≡◌, ℕ, ◌<◌, List, [], ◌∷◌, reverse, length, take, drop}
use Rattle.paths.specs.Plan.{Task, Plan, at}
use Rattle.paths.specs.Show.{pair_at}
use Rattle.tasks.specs.Writing.{task_bytes}
use Rattle.boxes.specs.Box.{text_of}
use Rattle.lots.specs.Lots.{Lot}
use Rattle.words.specs.Writing.{said_bytes}
use Rattle.round.specs.Round.{part_of, boxes_for, opening_for, opened_for}
use Rattle.round.specs.Line.{Event, sent, heard, Ran}

-- Digest j of the Boxes of a round is that of the text of train j: the round, the train, its number and its chance.
abbrev pub Digests : (List ℕ → List ℕ) → Type 0
Digests H = (n : ℕ) (p : Plan) (l : Lot) (j : ℕ) → j < length p → part_of (drop 7 (said_bytes (boxes_for H n p l))) j ≡ H (text_of n (opening_for p l j))

-- a train has the same number in a round of plan p with one lot, and of plan q with the other
abbrev pub SameNumber : Plan → Plan → Lot → Lot → ℕ → Type 0
SameNumber p q l m j = at l.order (at p j) ≡ at m.order (at q j)

-- Of a train that both plans have, with lots of the same chances: the texts of its two boxes are the same up to the byte of the number, and behind it; and where the
-- numbers are the same, so are the digests. So two Boxes of twins differ only in digests of boxes that are not opened, and their texts in that byte.
pub record OnlyNumbers (H : List ℕ → List ℕ) : Type 0 where
  pub texts : (n : ℕ) (p q : Plan) (l m : Lot) (j : ℕ) → l.chances ≡ m.chances →
      let x = text_of n (opening_for p l j) in
      let y = text_of n (opening_for q m j) in
      (take 6 x ≡ take 6 y) × (drop 7 x ≡ drop 7 y)
  pub digests : (n : ℕ) (p q : Plan) (l m : Lot) (j : ℕ) → j < length p → j < length q → l.chances ≡ m.chances → SameNumber p q l m j →
      part_of (drop 7 (said_bytes (boxes_for H n p l))) j ≡ part_of (drop 7 (said_bytes (boxes_for H n q m))) j
  pub heads : (n : ℕ) (p q : Plan) (l m : Lot) → length p ≡ length q → take 7 (said_bytes (boxes_for H n p l)) ≡ take 7 (said_bytes (boxes_for H n q m))

-- The lines of a showing of plan p with lots, and of one of plan q with others; lots and words the last first. In each round the two lots have the same chances, so that
-- the texts of a train's two boxes differ at most in the byte of the number; where a pair is opened, its two trains have the same numbers in both, so that their
-- texts, their digests and the Opened are the same too. All else is the same. So what the premise on SHA-256 has yet to cover are the digests of boxes that stay closed, of
-- two rows of numbers, under the same chances
pub data Twins (H : List ℕ → List ℕ) (t : Task) (p q : Plan) : List Lot → List Lot → List Event → List Event → Type 0 where
  begun : Twins H t p q [] [] (sent (task_bytes t) ∷ []) (sent (task_bytes t) ∷ [])
  -- what is heard
  told : (w : List ℕ) (ls ms : List Lot) (xs ys : List Event) → Twins H t p q ls ms xs ys → Twins H t p q ls ms (heard w ∷ xs) (heard w ∷ ys)
  -- the next round, in which nothing is opened
  closed : (n : ℕ) (l m : Lot) → l.chances ≡ m.chances → (ls ms : List Lot) (xs ys : List Event) → length ls ≡ n → Twins H t p q ls ms xs ys →
      Twins H t p q (l ∷ ls) (m ∷ ms) (sent (said_bytes (boxes_for H n p l)) ∷ xs) (sent (said_bytes (boxes_for H n q m)) ∷ ys)
  -- the next round, in which pair i is opened, up to the Opened
  opened : (n : ℕ) (l m : Lot) → l.chances ≡ m.chances → (i : ℕ) → i < length t.pairs → SameNumber p q l m (pair_at t i).a → SameNumber p q l m (pair_at t i).e →
      (w : List ℕ) (ls ms : List Lot) (xs ys : List Event) → length ls ≡ n → Twins H t p q ls ms xs ys →
      Twins H t p q (l ∷ ls) (m ∷ ms) (sent (said_bytes (opened_for t n p l i)) ∷ heard w ∷ sent (said_bytes (boxes_for H n p l)) ∷ xs)
      (sent (said_bytes (opened_for t n q m i)) ∷ heard w ∷ sent (said_bytes (boxes_for H n q m)) ∷ ys)

-- two runs so, in as many rounds as there were
abbrev pub TwinRuns : (List ℕ → List ℕ) → Task → Plan → Plan → List Lot → List Lot → Ran → Ran → Type 0
TwinRuns H t p q ls ms a b = (k : ℕ) × Twins H t p q (reverse (take k ls)) (reverse (take k ms)) a.line b.line
