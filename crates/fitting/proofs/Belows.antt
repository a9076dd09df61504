-- Whether all numbers of a list are below n, as an iterator tells it.
use Rattle.std.proofs.Common.{◌≡◌, ℕ, ltb, List, [], ◌∷◌, ◌&&◌, refl, ap}
use Rattle.std.specs.List.{list_all}
use Rattle.paths.specs.Plan.{all_below}

pub all_below_is : (n : ℕ) (xs : List ℕ) → list_all (λ x. ltb x n) xs ≡ all_below n xs
unfolding all_below
all_below_is n [] = refl
all_below_is n (x ∷ xs) = ap (λ b. ltb x n && b) (all_below_is n xs)
