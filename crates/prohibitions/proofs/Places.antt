-- Lists of numbers by their places: what is below, in, different and first where, for pushed, counted and renamed numbers.
-- Assumes nothing.
use Rattle.std.proofs.Common.{◌≡◌, ℕ, zero, suc, ◌<◌, ◌≤◌, true, not, ◌&&◌, ◌||◌, eqb, List, [], ◌∷◌, ◌++◌, length, refl, arith}
use Rattle.std.proofs.lemmas.List.{length_push, get_or_append_left, get_or_push}
use Rattle.std.proofs.lemmas.Bool.Decides.{nat_tests}
use Rattle.paths.specs.Plan.{at, all_below, different, is_in}
use Rattle.paths.specs.Cheat.{up_to}
use Rattle.prohibitions.specs.Prohibiting.{place}

pub below-append : (k : ℕ) (xs ys : List ℕ) → all_below k (xs ++ ys) ≡ (all_below k xs && all_below k ys)
unfolding all_below
below-append k [] ys = refl
below-append k (x ∷ xs) ys = let h = below-append k xs ys in grind arith

pub below_at : (k : ℕ) (xs : List ℕ) (i : ℕ) → all_below k xs ≡ true → i < length xs → at xs i < k
unfolding all_below
below_at k [] i b l = absurd (omega arith)
below_at k (x ∷ xs) zero b l = grind (arith, nat_tests)
below_at k (x ∷ xs) (suc i) b l = let h = below_at k xs i in grind arith

pub below_from : (k : ℕ) (xs : List ℕ) → ((i : ℕ) → i < length xs → at xs i < k) → all_below k xs ≡ true
unfolding all_below
below_from k [] h = refl
below_from k (x ∷ xs) h =
    let first = h 0 (omega arith) in
    let rest = below_from k xs (λ i l. h (suc i) (omega arith)) in
    grind (arith, nat_tests)

below_in : (k v : ℕ) (xs : List ℕ) → all_below k xs ≡ true → is_in v xs ≡ true → v < k
unfolding all_below is_in
below_in k v [] b i = grind arith
below_in k v (x ∷ xs) b i = let h = below_in k v xs in grind (arith, nat_tests)

pub is_in_push : (v y : ℕ) (xs : List ℕ) → is_in v (xs ++ y ∷ []) ≡ (is_in v xs || eqb v y)
unfolding is_in
is_in_push v y [] = grind arith
is_in_push v y (x ∷ xs) = let h = is_in_push v y xs in grind arith

pub different_push : (xs : List ℕ) (y : ℕ) → different (xs ++ y ∷ []) ≡ (different xs && not (is_in y xs))
unfolding different is_in
different_push [] y = refl
different_push (x ∷ xs) y = let h = different_push xs y in let e = is_in_push x y xs in grind (arith, nat_tests)

is_in-at : (xs : List ℕ) (i : ℕ) → i < length xs → is_in (at xs i) xs ≡ true
unfolding is_in
is_in-at [] i l = absurd (omega arith)
is_in-at (x ∷ xs) zero l = grind (arith, nat_tests)
is_in-at (x ∷ xs) (suc i) l = let h = is_in-at xs i in grind arith

pub at_place : (v : ℕ) (xs : List ℕ) → is_in v xs ≡ true → (place xs v < length xs) × (at xs (place xs v) ≡ v)
unfolding is_in place
at_place v [] i = grind arith
at_place v (x ∷ xs) i = let h = at_place v xs in grind (arith, nat_tests)

pub place_at : (xs : List ℕ) (i : ℕ) → different xs ≡ true → i < length xs → place xs (at xs i) ≡ i
unfolding different is_in place
place_at [] i d l = absurd (omega arith)
place_at (x ∷ xs) zero d l = grind (arith, nat_tests)
place_at (x ∷ xs) (suc i) d l = let h = place_at xs i in let e = is_in-at xs i in grind (arith, nat_tests)

pub length-up_to : (k : ℕ) → length (up_to k) ≡ k
unfolding up_to
length-up_to zero = refl
length-up_to (suc k) = omega (arith, length_push (up_to k) k, length-up_to k)

pub below-up_to : (k m : ℕ) → k ≤ m → all_below m (up_to k) ≡ true
unfolding up_to all_below
below-up_to zero m l = refl
below-up_to (suc k) m l = let h = below-up_to k m in let e = below-append m (up_to k) (k ∷ []) in grind (arith, nat_tests)

pub different-up_to : (k : ℕ) → different (up_to k) ≡ true
unfolding up_to different
different-up_to zero = refl
different-up_to (suc k) =
    let h = different-up_to k in
    let e = different_push (up_to k) k in
    let b = below-up_to k k in
    let i = below_in k k (up_to k) in
    grind arith

at-up_to : (k v : ℕ) → v < k → at (up_to k) v ≡ v
unfolding up_to
at-up_to zero v l = absurd (omega arith)
at-up_to (suc k) v l =
    let h = at-up_to k v in
    let e = length-up_to k in
    let before = get_or_append_left (up_to k) (k ∷ []) 0 v in
    let last = get_or_push (up_to k) k 0 v in
    grind arith

pub place-up_to : (k v : ℕ) → v < k → place (up_to k) v ≡ v
place-up_to k v l =
    let h = place_at (up_to k) v (different-up_to k) in
    let e = at-up_to k v l in
    let n = length-up_to k in
    grind arith
