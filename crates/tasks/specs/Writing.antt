-- Tasks and plans as bytes, and the law that joins reading and writing. Assumes nothing.
use Rattle.std.specs.Prelude.{◌≡◌, ℕ, ◌/◌, ◌%◌, ◌<◌, Bool, true, ◌&&◌, List, [], ◌∷◌, ◌++◌, length, take, ◌==◌}
use Rattle.std.specs.List.{flat_map}
use Rattle.paths.specs.Plan.{Pair, Task, Plan, all_below}
use Rattle.tasks.specs.Reading.{Got, got, refused}

-- two bytes, high byte first
abbrev pub word_bytes : ℕ → List ℕ
word_bytes x = (x / 256 % 256) ∷ (x % 256) ∷ []

abbrev pub pair_bytes : Pair → List ℕ
pair_bytes x = word_bytes x.a ++ word_bytes x.e

-- of n trains, k paths and m pairs
abbrev pub head_bytes : ℕ → ℕ → ℕ → List ℕ
head_bytes n k m = (1 ∷ word_bytes n) ++ (k ∷ word_bytes m)

abbrev pub task_bytes : Task → List ℕ
task_bytes t = head_bytes t.trains t.paths (length t.pairs) ++ flat_map pair_bytes t.pairs

abbrev pub plan_bytes : Plan → List ℕ
plan_bytes p = (2 ∷ word_bytes (length p)) ++ p

-- a plan of the task, whether it fits or not: each train has a path that is there
abbrev pub is_plan : Task → Plan → Bool
is_plan t p = length p == t.trains && all_below t.paths p

-- What is read is exactly what is written: the bytes of a good value are read as that value, no other bytes are, and bytes that are cut are fault 1
pub record Inverse {A : Type 0} (read : List ℕ → Got A) (write : A → List ℕ) (good : A → Bool) : Type 0 where
  pub reads : (x : A) → good x ≡ true → read (write x) ≡ got x
  pub only : (bs : List ℕ) (x : A) → all_below 256 bs ≡ true → read bs ≡ got x → (good x ≡ true) × (bs ≡ write x)
  pub cuts : (x : A) → good x ≡ true → (j : ℕ) → j < length (write x) → read (take j (write x)) ≡ refused 1
