-- Cheating planners, who put into the boxes what they like, by all that was shown so far; and in how many ways to ask that goes well. Assumes nothing.
use Rattle.std.specs.Prelude.{ℕ, zero, suc, ◌+◌, Bool, true, cond, ◌&&◌, List, [], ◌∷◌, ◌++◌, length}
use Rattle.paths.specs.Plan.{Task, at}
use Rattle.paths.specs.Show.{Shown, pair_at, content}

-- what is put into the boxes: one number for each train
abbrev pub Cheat : Type 0
Cheat = List Shown → List ℕ

abbrev pub shown_by : Task → List ℕ → ℕ → Shown
shown_by t b i = record { asked = i; first = record { chance = 0; holds = at b (pair_at t i).a }; second = record { chance = 0; holds = at b (pair_at t i).e } }

-- is the asker content with all rounds, asking for these pairs
unfoldable pub passes : Task → Cheat → List ℕ → List Shown → Bool
passes t f [] so_far = true
passes t f (i ∷ is) so_far = content t (shown_by t (f so_far) i) && passes t f is (so_far ++ (shown_by t (f so_far) i ∷ []))

-- 0 .. n - 1
unfoldable pub up_to : ℕ → List ℕ
up_to zero = []
up_to (suc n) = up_to n ++ (n ∷ [])

-- each of these numbers before each of these rows
unfoldable pub before : List ℕ → List (List ℕ) → List (List ℕ)
before [] xs = []
before (n ∷ ns) xs = each n xs ++ before ns xs
  where
    each : ℕ → List (List ℕ) → List (List ℕ)
    each n [] = []
    each n (y ∷ ys) = (n ∷ y) ∷ each n ys

-- all ways to ask r times, of m pairs
unfoldable pub asks : ℕ → ℕ → List (List ℕ)
asks m zero = [] ∷ []
asks m (suc r) = before (up_to m) (asks m r)

-- how many rows pass a test
unfoldable pub count : (List ℕ → Bool) → List (List ℕ) → ℕ
count f [] = 0
count f (x ∷ xs) = cond (f x) 1 0 + count f xs

-- of all ways to ask r times, those in which the cheating planner passes
abbrev pub lucky : Task → Cheat → ℕ → ℕ
lucky t f r = count (λ is. passes t f is []) (asks (length t.pairs) r)
