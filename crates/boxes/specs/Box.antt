-- Closed boxes, under any function H in the place of SHA-256: the text of a box, what opens it, and the boxes of all trains. Assumes nothing.
use Rattle.std.specs.Prelude.{◌≡◌, ℕ, ◌+◌, ◌*◌, ◌^◌, ◌<◌, Bool, true, ◌&&◌, List, [], ◌∷◌, ◌++◌, length, take, drop, ◌==◌, nat_le, slice_index}
use Rattle.sha256.specs.Sha256.{bytes}
use Rattle.paths.specs.Count.{same_row}

-- the round (4 bytes, high byte first), the train (2), the number (1), the chance (32)
abbrev pub box_text : ℕ → ℕ → ℕ → List ℕ → List ℕ
box_text round train number chance = bytes 4 round ++ bytes 2 train ++ number ∷ chance

-- a closed box: a commitment to the train's number
abbrev pub box_of : (List ℕ → List ℕ) → ℕ → ℕ → ℕ → List ℕ → List ℕ
box_of H round train number chance = H (box_text round train number chance)

-- what is told to open a box
pub record Opening : Type 0 where
  pub train : ℕ
  pub number : ℕ
  pub chance : List ℕ

abbrev pub text_of : ℕ → Opening → List ℕ
text_of round x = box_text round x.train x.number x.chance

-- closed again, the opening gives the box
abbrev pub opens_box : (List ℕ → List ℕ) → List ℕ → ℕ → Opening → Bool
opens_box H digest round x = same_row (H (text_of round x)) digest

-- An opening opens the box that is closed of it.
abbrev pub OpensOwn : (List ℕ → List ℕ) → Type 0
OpensOwn H = (round : ℕ) (x : Opening) → opens_box H (H (text_of round x)) round x ≡ true

-- the boxes of the trains from `first` on, one for each number, one after the other; chances have 32 bytes each
unfoldable pub boxes_of : (List ℕ → List ℕ) → ℕ → ℕ → List ℕ → List ℕ → List ℕ
boxes_of H round first [] chances = []
boxes_of H round first (number ∷ numbers) chances = box_of H round first number (take 32 chances) ++ boxes_of H round (first + 1) numbers (drop 32 chances)

-- at most 65536 trains, a chance of 32 bytes for each, and room for their boxes
abbrev pub closable : ℕ → ℕ → ℕ → Bool
closable trains chances room = nat_le trains (2 ^ 16) && chances == 32 * trains && nat_le (32 * trains) room

-- Boxes of 32 bytes lie one after the other, box j that of train first + j.
pub record Laid (H : List ℕ → List ℕ) : Type 0 where
  pub long : (round first : ℕ) (numbers chances : List ℕ) → length (boxes_of H round first numbers chances) ≡ 32 * length numbers
  pub each : (round first : ℕ) (numbers chances : List ℕ) (j : ℕ) → j < length numbers →
      take 32 (drop (32 * j) (boxes_of H round first numbers chances)) ≡ box_of H round (first + j) (slice_index numbers j) (take 32 (drop (32 * j) chances))
