-- What the texts that are found show: a box that the planner closed at some point of the line and would open there in two ways. H is any function in the place of SHA-256. Assumes nothing.
use Rattle.std.specs.Prelude.{◌≡◌, ℕ, true, ◌⊎◌, List, drop}
use Rattle.paths.specs.Plan.{Task}
use Rattle.tasks.specs.Reading.{got}
use Rattle.tasks.specs.Task.{sound}
use Rattle.boxes.specs.Box.{Opening}
use Rattle.boxes.specs.Binding.{TwoTexts, collides, texts_of, opened_twice}
use Rattle.words.specs.Said.{opened}
use Rattle.round.specs.Line.{Event, Other}
use Rattle.round.specs.Round.{part_of}
use Rattle.asking.specs.Asking.{Ready}
use Rattle.soundness.specs.Texts.{answer, met, find}

-- at this point of the line the planner answers some question with this opening, as one of the two
abbrev pub SaidThere : Other → Ready → List Event → Opening → Type 0
SaidThere other s line x = (i : ℕ) × (y z : Opening) × (answer other s line i ≡ got (opened s.round y z)) × ((x ≡ y) ⊎ (x ≡ z))

-- the texts of two openings of one train that are not the same: the planner says both at one point of the line, and both open the train's box in the Boxes that it
-- says there
pub record BoxTwice (H : List ℕ → List ℕ) (other : Other) (x : TwoTexts) : Type 0 where
  pub state : Ready
  pub line : List Event
  pub one : Opening
  pub two : Opening
  pub one_said : SaidThere other state line one
  pub two_said : SaidThere other state line two
  pub texts : x ≡ texts_of state.round one two
  pub train : one.train ≡ two.train
  pub twice : opened_twice H (part_of (drop 7 (other line)) one.train) state.round one two ≡ true

-- Texts that collide, found along a row of questions or along all, are such.
pub record Found (H : List ℕ → List ℕ) (other : Other) (t : Task) (r : ℕ) : Type 0 where
  pub by_row : (is : List ℕ) → collides H (met H other t r is) ≡ true → BoxTwice H other (met H other t r is)
  pub by_all : collides H (find H other t r) ≡ true → BoxTwice H other (find H other t r)

abbrev pub FoundBoxes : Type 0
FoundBoxes = (H : List ℕ → List ℕ) (other : Other) (t : Task) → sound t ≡ true → (r : ℕ) → Found H other t r
