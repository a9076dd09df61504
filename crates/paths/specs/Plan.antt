-- Tasks (trains, paths, and the pairs of trains that may not share a path), plans, and when a plan fits. Assumes nothing.
use Rattle.std.specs.Prelude.{ℕ, ◌<◌, Bool, true, false, not, ◌&&◌, ◌||◌, T, List, [], ◌∷◌, length, ◌==◌, nat_lt, slice_index}

-- two trains that may not share a path
pub record Pair : Type 0 where
  pub a : ℕ
  pub e : ℕ

-- trains, paths and pairs are numbered from 0
pub record Task : Type 0 where
  pub trains : ℕ
  pub paths : ℕ
  pub pairs : List Pair

-- a plan: the path of each train
abbrev pub Plan : Type 0
Plan = List ℕ

abbrev pub at : List ℕ → ℕ → ℕ
at xs i = slice_index xs i

unfoldable pub all_below : ℕ → List ℕ → Bool
all_below n [] = true
all_below n (x ∷ xs) = nat_lt x n && all_below n xs

unfoldable pub apart : Plan → List Pair → Bool
apart p [] = true
apart p (x ∷ xs) = not (at p x.a == at p x.e) && apart p xs

-- a plan fits: each train has a path that is there, and the two trains of each pair have different ones
abbrev pub fits : Task → Plan → Bool
fits t p = length p == t.trains && all_below t.paths p && apart p t.pairs

unfoldable pub pairs_in : ℕ → List Pair → Bool
pairs_in n [] = true
pairs_in n (x ∷ xs) = nat_lt x.a n && nat_lt x.e n && pairs_in n xs

unfoldable pub is_in : ℕ → List ℕ → Bool
is_in k [] = false
is_in k (x ∷ xs) = k == x || is_in k xs

unfoldable pub different : List ℕ → Bool
different [] = true
different (x ∷ xs) = not (is_in x xs) && different xs

-- tasks that the promise speaks of: each pair's trains are there, and there is a pair and a path
abbrev pub Good : Task → Type 0
Good t = T (pairs_in t.trains t.pairs) × (0 < length t.pairs) × (0 < t.paths)
