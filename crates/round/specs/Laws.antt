-- What is promised of the Opened of a round: what coin it is of, and which fault is told of it. H is any function in the place of SHA-256. Assumes nothing.
use Rattle.std.specs.Prelude.{◌≡◌, ◌≢◌, ℕ, ◌*◌, ◌<◌, ◌≤◌, ◌⊎◌, List, length}
use Rattle.paths.specs.Plan.{Task, Good, Plan, at}
use Rattle.paths.specs.Show.{Coin, pair_at}
use Rattle.drawing.specs.Drawing.{number_of}
use Rattle.tasks.specs.Reading.{Got, Looked, got, refused}
use Rattle.boxes.specs.Box.{Opening, text_of}
use Rattle.lots.specs.Lots.{Lot, coin_of_lot}
use Rattle.words.specs.Said.{Said, opened}
use Rattle.words.specs.Writing.{said_bytes}
use Rattle.round.specs.Round.{part_of, opened_for, test_opened}

-- The box of train j is opened as the coin has it: with the j-th of its chances (32 bytes, as one number), and with the number that its order gives the train's path.
pub record OpensTrain (p : Plan) (c : Coin) (j : ℕ) (x : Opening) : Type 0 where
  pub train : x.train ≡ j
  pub number : x.number ≡ at c.order (at p j)
  pub bytes : length x.chance ≡ 32
  pub chance : number_of 256 x.chance ≡ at c.chances j

-- These bytes are the Opened of round n that opens the two trains of pair i so, in their order.
pub record OpensPair (t : Task) (p : Plan) (c : Coin) (n i : ℕ) (w : List ℕ) : Type 0 where
  pub x : Opening
  pub y : Opening
  pub word : w ≡ said_bytes (opened n x y)
  pub first : OpensTrain p c (pair_at t i).a x
  pub second : OpensTrain p c (pair_at t i).e y

-- The Opened that a lot gives is of the coin that the lot is.
abbrev pub OpensByLot : Type 0
OpensByLot =
    (t : Task) → Good t → (p : Plan) (l : Lot) → length l.chances ≡ 32 * t.trains → (n i : ℕ) → i < length t.pairs →
    OpensPair t p (coin_of_lot t l) n i (said_bytes (opened_for t n p l i))

module _ (H : List ℕ → List ℕ) (t : Task) (n i : ℕ) (digests : List ℕ) where
  -- which faults apply to the word that comes in answer to the question for pair i in round n, where the Boxes had these digests
  pub data Applies : Said → ℕ → Type 0 where
    -- a train that isn't there
    no_train : (r : ℕ) (x y : Opening) → (t.trains ≤ x.train) ⊎ (t.trains ≤ y.train) → Applies (opened r x y) 2
    -- a word of another round
    other_round : (r : ℕ) (x y : Opening) → r ≢ n → Applies (opened r x y) 6
    -- a word that is not awaited
    not_awaited : (w : Said) → ((r : ℕ) (x y : Opening) → w ≢ opened r x y) → Applies w 6
    -- an opening of other trains than the pair's, in its order
    other_trains : (r : ℕ) (x y : Opening) → (x.train ≢ (pair_at t i).a) ⊎ (y.train ≢ (pair_at t i).e) → Applies (opened r x y) 8
    -- a box that the opening doesn't open
    not_opened : (r : ℕ) (x y : Opening) → (H (text_of n x) ≢ part_of digests x.train) ⊎ (H (text_of n y) ≢ part_of digests y.train) → Applies (opened r x y) 9
    -- a number of k or above, or the same twice
    bad_number : (r : ℕ) (x y : Opening) → ((t.paths ≤ x.number) ⊎ (t.paths ≤ y.number)) ⊎ (x.number ≡ y.number) → Applies (opened r x y) 10

-- of the faults that apply the lowest is told, and none only where none applies
abbrev pub Lowest : (ℕ → Type 0) → Got Looked → Type 0
Lowest applies (got x) = (f : ℕ) → applies f → ⊥
Lowest applies (refused f) = applies f × ((g : ℕ) → applies g → f ≤ g)

abbrev pub TellsLowest : (List ℕ → List ℕ) → Type 0
TellsLowest H = (t : Task) (n i : ℕ) (digests : List ℕ) (w : Said) → Lowest (Applies H t n i digests w) (test_opened H t n i digests w)
