-- The rows of questions, counted: of r numbers below m there are m ^ r, and each is listed once. Assumes nothing.
use Rattle.std.specs.Prelude.{◌≡◌, ℕ, ◌^◌, Bool, true, false, cond, ◌&&◌, List, [], ◌∷◌, length, ◌==◌}
use Rattle.paths.specs.Plan.{all_below}
use Rattle.paths.specs.Cheat.{asks, count}

-- are two rows the same
abbrev pub same_row : List ℕ → List ℕ → Bool
same_row [] [] = true
same_row [] (y ∷ ys) = false
same_row (x ∷ xs) [] = false
same_row (x ∷ xs) (y ∷ ys) = x == y && same_row xs ys

-- r numbers below m
abbrev pub is_row : ℕ → ℕ → List ℕ → Bool
is_row m r is = length is == r && all_below m is

-- There are m ^ r ways to ask r times, of m pairs; each row of r numbers below m is listed once, and no other row.
pub record Counted (m r : ℕ) : Type 0 where
  pub many : length (asks m r) ≡ m ^ r
  pub once : (is : List ℕ) → count (λ x. same_row x is) (asks m r) ≡ cond (is_row m r is) 1 0

abbrev pub AsksCounted : Type 0
AsksCounted = (m r : ℕ) → Counted m r
