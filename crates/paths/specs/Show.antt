-- Rounds with boxes as terms: the planner shows that its plan fits, and the asker sees two open boxes a round. Assumes nothing.
use Rattle.std.specs.Prelude.{ℕ, Bool, true, cond, not, ◌&&◌, List, [], ◌∷◌, ◌++◌, length, ◌==◌, nat_lt, slice_index_or}
use Rattle.paths.specs.Plan.{Task, Pair, Plan, at}

-- what is drawn for a round: an order of the paths, and for each train's box a chance (32 bytes, as a number)
pub record Coin : Type 0 where
  pub order : List ℕ
  pub chances : List ℕ

-- an open box: its chance, and the number of a path in this round's order
pub record Box : Type 0 where
  pub chance : ℕ
  pub holds : ℕ

-- what a round shows: which pair was asked for, and its two boxes. Of the other boxes only that they are there
pub record Shown : Type 0 where
  pub asked : ℕ
  pub first : Box
  pub second : Box

-- the box of train i: under its chance, the number that the order gives the train's path
abbrev pub box_of : Plan → Coin → ℕ → Box
box_of p c i = record { chance = at c.chances i; holds = at c.order (at p i) }

-- an asker chooses by all that was shown so far; a number that names no pair means pair 0
abbrev pub Asker : Type 0
Asker = List Shown → ℕ

abbrev pub pair_at : Task → ℕ → Pair
pair_at t i = slice_index_or t.pairs i (record { a = 0; e = 0 })

abbrev pub within : Task → ℕ → ℕ
within t i = cond (nat_lt i (length t.pairs)) i 0

abbrev pub round : Task → Plan → Coin → ℕ → Shown
round t p c i = record { asked = i; first = box_of p c (pair_at t i).a; second = box_of p c (pair_at t i).e }

unfoldable pub rounds : Task → Plan → Asker → List Coin → List Shown → List Shown
rounds t p f [] so_far = so_far
rounds t p f (c ∷ cs) so_far = rounds t p f cs (so_far ++ (round t p c (within t (f so_far)) ∷ []))

-- the view of an asker: all that it is shown
abbrev pub view : Task → Plan → Asker → List Coin → List Shown
view t p f cs = rounds t p f cs []

-- an asker is content with a round if the two boxes hold numbers of paths, and not the same one
abbrev pub content : Task → Shown → Bool
content t s = nat_lt s.first.holds t.paths && nat_lt s.second.holds t.paths && not (s.first.holds == s.second.holds)

unfoldable pub all_content : Task → List Shown → Bool
all_content t [] = true
all_content t (s ∷ ss) = content t s && all_content t ss
