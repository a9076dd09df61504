-- Trains that may not use some path: the task with k more trains, one for each path, and what its plans say of the plans of the first task. Assumes nothing.
use Rattle.std.specs.Prelude.{◌≡◌, ℕ, zero, suc, ◌+◌, ◌<◌, Bool, true, cond, not, ◌&&◌, T, List, [], ◌∷◌, ◌++◌, map, length, take, drop, ◌==◌, nat_le, nat_lt}
use Rattle.paths.specs.Plan.{Pair, Task, Plan, at, fits}
use Rattle.paths.specs.Cheat.{up_to}
use Rattle.prohibitions.specs.declared.prohibiting.Prohibition.{Prohibition}
use Rattle.tasks.specs.Reading.{Got, got, refused}
use Rattle.tasks.specs.Task.{before}

-- a pair put at its place among pairs in rising order, and not twice
unfoldable pub put : Pair → List Pair → List Pair
put x [] = x ∷ []
put x (y ∷ ys) = cond (before x y) (x ∷ y ∷ ys) (cond (before y x) (y ∷ put x ys) (y ∷ ys))

unfoldable pub put_all : List Pair → List Pair → List Pair
put_all [] ys = ys
put_all (x ∷ xs) ys = put_all xs (put x ys)

-- the first i of the trains from n on, each with the j-th
unfoldable pub with_each : ℕ → ℕ → ℕ → List Pair
with_each n j zero = []
with_each n j (suc i) = with_each n j i ++ record { a = n + i; e = n + j } ∷ []

-- every two of the j trains from n on
unfoldable pub every_two : ℕ → ℕ → List Pair
every_two n zero = []
every_two n (suc j) = every_two n j ++ with_each n j j

-- the train that may not use path i, with the i-th of the trains from n on
abbrev pub pair_for : ℕ → Prohibition → Pair
pair_for n b = record { a = b.train; e = n + b.path }

-- the task with a train more for each path
abbrev pub built : Task → List Prohibition → Task
built t bs =
    record {
      trains = t.trains + t.paths;
      paths = t.paths;
      pairs = put_all (map (pair_for t.trains) bs) (put_all (every_two t.trains t.paths) t.pairs);
    }

-- a prohibition names a train and a path that are there
abbrev pub is_named : Task → Prohibition → Bool
is_named t b = nat_lt b.train t.trains && nat_lt b.path t.paths

unfoldable pub named : Task → List Prohibition → Bool
named t [] = true
named t (b ∷ bs) = is_named t b && named t bs

-- each prohibition is named, and the built task has not too many trains or pairs
abbrev pub can_build : Task → List Prohibition → Bool
can_build t bs = nat_le (t.trains + t.paths) 1024 && named t bs && nat_le (length (built t bs).pairs) 4096

-- what is built of a task and prohibitions: fault 2 where a train or a path isn't there, or the built task has too many trains or pairs
abbrev pub prohibit : Task → List Prohibition → Got Task
prohibit t bs = cond (can_build t bs) (got (built t bs)) (refused 2)

-- no train has a path that it may not use
unfoldable pub keeps : List Prohibition → Plan → Bool
keeps [] p = true
keeps (b ∷ bs) p = not (at p b.train == b.path) && keeps bs p

-- a plan of the first task as one of the built task: the i-th of the more trains has path i
abbrev pub extended : Task → Plan → Plan
extended t p = p ++ up_to t.paths

-- the first place at which v stands
unfoldable pub place : List ℕ → ℕ → ℕ
place [] v = 0
place (x ∷ xs) v = cond (x == v) 0 (suc (place xs v))

-- a plan of the built task as one of the first: a path is called i where the i-th of the more trains has it
abbrev pub renamed : Task → Plan → Plan
renamed t q = map (place (drop t.trains q)) (take t.trains q)

-- The built task has a plan that fits exactly if the first task has one that fits and keeps the prohibitions, and each is made from the other
pub record Fixes (t : Task) (bs : List Prohibition) (u : Task) : Type 0 where
  pub extends : (p : Plan) → T (fits t p) → T (keeps bs p) → T (fits u (extended t p))
  pub restricts : (q : Plan) → T (fits u q) → T (fits t (renamed t q)) × T (keeps bs (renamed t q))
  -- up to the names of the paths the two are one plan: train i has the path of that one of the more trains that its new name tells
  pub names : (q : Plan) → T (fits u q) → (i : ℕ) → i < t.trains → at q i ≡ at q (t.trains + at (renamed t q) i)
  pub returns : (p : Plan) → T (fits t p) → renamed t (extended t p) ≡ p
