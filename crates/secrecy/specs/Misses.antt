-- A near miss: digests that show what they are of would show something of the plan. Assumes nothing.
use Rattle.std.specs.Prelude.{◌≡◌, ℕ, T, ◌≢◌, List, [], ◌∷◌, ◌++◌, length, take, drop, replicate}
use Rattle.paths.specs.Plan.{Task, Plan, fits}
use Rattle.lots.specs.Lots.{Lot}
use Rattle.words.specs.Writing.{said_bytes}
use Rattle.round.specs.Round.{boxes_for}
use Rattle.secrecy.specs.Lots.{IsLot}

-- a function that gives 32 bytes, of a box's text the number and what follows it
abbrev pub glass : List ℕ → List ℕ
glass x = take 32 (drop 6 x ++ replicate 32 0)

-- three trains, of which the first two may not share one of two paths; and two plans, in which the third shares the path of the first, or of the second
abbrev pub one_apart : Task
one_apart = record { trains = 3; paths = 2; pairs = record { a = 0; e = 1 } ∷ [] }

abbrev pub with_first : Plan
with_first = 0 ∷ 1 ∷ 0 ∷ []

abbrev pub with_second : Plan
with_second = 0 ∷ 1 ∷ 1 ∷ []

-- With boxes of glass no lot of the one plan and no lot of the other have the same Boxes. So it matters that the asker doesn't look into the digests, and that
-- SHA-256 gives 32 bytes is not enough for an asker that does.
pub record GlassShows : Type 0 where
  pub size : (x : List ℕ) → length (glass x) ≡ 32
  pub first_fits : T (fits one_apart with_first)
  pub second_fits : T (fits one_apart with_second)
  pub never : (n : ℕ) (l m : Lot) → IsLot one_apart l → IsLot one_apart m → said_bytes (boxes_for glass n with_first l) ≢ said_bytes (boxes_for glass n with_second m)
