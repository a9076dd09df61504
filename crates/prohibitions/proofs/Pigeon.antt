-- Different numbers below k are at most k, and where they are k, each number below k is one of them.
-- Assumes nothing.
use Rattle.std.proofs.Common.{◌≡◌, ℕ, zero, suc, ◌+◌, ◌<◌, ◌≤◌, true, cond, not, ◌&&◌, ltb, List, [], ◌∷◌, length, arith}
use Rattle.std.proofs.lemmas.Bool.Decides.{nat_tests}
use Rattle.paths.specs.Plan.{all_below, different, is_in}

-- how many of the numbers below k are in the list
found : ℕ → List ℕ → ℕ
found zero xs = 0
found (suc k) xs = cond (is_in k xs) 1 0 + found k xs

found_most : (k : ℕ) (xs : List ℕ) → found k xs ≤ k
unfolding found
found_most zero xs = omega arith
found_most (suc k) xs = let h = found_most k xs in grind arith

found_more : (k x : ℕ) (xs : List ℕ) → found k (x ∷ xs) ≡ found k xs + cond (ltb x k && not (is_in x xs)) 1 0
unfolding found is_in
found_more zero x xs = grind (arith, nat_tests)
found_more (suc k) x xs = let h = found_more k x xs in grind (arith, nat_tests)

as_found : (k : ℕ) (xs : List ℕ) → different xs ≡ true → all_below k xs ≡ true → length xs ≤ found k xs
unfolding different all_below
as_found k [] d b = omega arith
as_found k (x ∷ xs) d b =
    let h = as_found k xs in
    let e = found_more k x xs in
    grind arith

pub at_most : (k : ℕ) (xs : List ℕ) → different xs ≡ true → all_below k xs ≡ true → length xs ≤ k
at_most k xs d b = omega (arith, as_found k xs d b, found_most k xs)

-- were v not in the list, the list with v before it would be too long
pub each_in : (k v : ℕ) (xs : List ℕ) → different xs ≡ true → all_below k xs ≡ true → length xs ≡ k → v < k → is_in v xs ≡ true
unfolding different all_below
each_in k v xs d b e l = let more = at_most k (v ∷ xs) in grind (arith, nat_tests)
