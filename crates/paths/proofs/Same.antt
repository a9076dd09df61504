-- Rows compared by `==`. Assumes nothing.
use Rattle.std.proofs.Common.{◌≡◌, ℕ, true, List, [], ◌∷◌, ◌&&◌, Decides, eqb, refl, ap, rules}
use lib.Pointwise.{pointwise}
use Rattle.std.proofs.lemmas.Slice.Eq.{compares_Decides}
use Rattle.paths.specs.Count.{same_row}

pub same_decides : (xs ys : List ℕ) → Decides (same_row xs ys) (xs ≡ ys)
same_decides = compares_Decides same_row (search rules)

pub same_itself : (xs : List ℕ) → same_row xs xs ≡ true
same_itself xs = (same_decides xs xs).1 refl

-- what `==` of two slices or arrays answers
pub pointwise_same : (xs ys : List ℕ) → pointwise eqb xs ys ≡ same_row xs ys
pointwise_same [] [] = refl
pointwise_same [] (y ∷ ys) = refl
pointwise_same (x ∷ xs) [] = refl
pointwise_same (x ∷ xs) (y ∷ ys) = ap (λ b. eqb x y && b) (pointwise_same xs ys)
