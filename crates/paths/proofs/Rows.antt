-- Rows of numbers: what the tests on them say of the numbers at their places. Assumes nothing.
use Rattle.std.proofs.Common.{◌≡◌, ℕ, zero, suc, ◌<◌, ◌≤◌, Bool, true, false, not, ◌&&◌, ◌||◌, T, eqb, ltb, ◌≢◌, ◌⊎◌, List, [], ◌∷◌, ◌++◌, map, length, get_or, sym, refl, ap, ◌∙◌, inl, inr, arith, eqb→eq, ltb→lt, lt→ltb, T_not}
use lib.Dec.{eqb_refl, not_T}
use lib.Ieee.Fits.{and_i, and_l, and_r}
use Rattle.std.proofs.lemmas.List.{length_push, get_or_append_left, get_or_push, get_or-map, length-map}
use Rattle.std.proofs.lemmas.Bool.{cases_lt, cases_order}
use Rattle.paths.specs.Plan.{Pair, Plan, at, all_below, apart, pairs_in, is_in, different}
use Rattle.paths.specs.Cheat.{up_to}

pub ne→neqb : (m n : ℕ) → m ≢ n → T (not (eqb m n))
ne→neqb m n h = not_T (eqb m n) (λ t. h (eqb→eq m n t))

pub neqb→ne : (m n : ℕ) → T (not (eqb m n)) → m ≢ n
neqb→ne m n h e = T_not (eqb m n) h (rw e (eqb_refl n))

-- all below n
pub below_parts : (n x : ℕ) (xs : List ℕ) → T (all_below n (x ∷ xs)) → (x < n) × T (all_below n xs)
unfolding all_below
below_parts n x xs h = (ltb→lt x n (and_l (ltb x n) (all_below n xs) h), and_r (ltb x n) (all_below n xs) h)

pub below_at : (n : ℕ) (xs : List ℕ) → T (all_below n xs) → (i : ℕ) → i < length xs → at xs i < n
below_at n [] h i l = omega arith
below_at n (x ∷ xs) h zero l = (below_parts n x xs h).0
below_at n (x ∷ xs) h (suc i) l = below_at n xs (below_parts n x xs h).1 i (omega arith)

pub at-below : (n : ℕ) (xs : List ℕ) → ((i : ℕ) → i < length xs → at xs i < n) → T (all_below n xs)
unfolding all_below
at-below n [] h = tt
at-below n (x ∷ xs) h = and_i (ltb x n) (all_below n xs) (lt→ltb x n (h 0 (omega arith))) (at-below n xs (λ i l. h (suc i) (omega arith)))

-- each pair apart, each pair's trains there
pub apart-at : (p : Plan) (xs : List Pair) (d : Pair) → T (apart p xs) → (i : ℕ) → i < length xs → at p (get_or xs i d).a ≢ at p (get_or xs i d).e
unfolding apart
apart-at p [] d h i l = omega arith
apart-at p (x ∷ xs) d h zero l = neqb→ne (at p x.a) (at p x.e) (and_l (not (eqb (at p x.a) (at p x.e))) (apart p xs) h)
apart-at p (x ∷ xs) d h (suc i) l = apart-at p xs d (and_r (not (eqb (at p x.a) (at p x.e))) (apart p xs) h) i (omega arith)

pub at-apart : (p : Plan) (xs : List Pair) (d : Pair) → ((i : ℕ) → i < length xs → at p (get_or xs i d).a ≢ at p (get_or xs i d).e) → T (apart p xs)
unfolding apart
at-apart p [] d h = tt
at-apart p (x ∷ xs) d h =
    and_i (not (eqb (at p x.a) (at p x.e))) (apart p xs) (ne→neqb (at p x.a) (at p x.e) (h 0 (omega arith))) (at-apart p xs d (λ i l. h (suc i) (omega arith)))

pub pairs-at : (n : ℕ) (xs : List Pair) (d : Pair) → T (pairs_in n xs) → (i : ℕ) → i < length xs → ((get_or xs i d).a < n) × ((get_or xs i d).e < n)
unfolding pairs_in
pairs-at n [] d h i l = omega arith
pairs-at n (x ∷ xs) d h zero l =
    let g = and_l (ltb x.a n && ltb x.e n) (pairs_in n xs) h in
    (ltb→lt x.a n (and_l (ltb x.a n) (ltb x.e n) g), ltb→lt x.e n (and_r (ltb x.a n) (ltb x.e n) g))
pairs-at n (x ∷ xs) d h (suc i) l = pairs-at n xs d (and_r (ltb x.a n && ltb x.e n) (pairs_in n xs) h) i (omega arith)

-- no number twice
or_i : (a b : Bool) → T a ⊎ T b → T (a || b)
or_i true b h = tt
or_i false b (inl h) = absurd h
or_i false b (inr h) = h

nor_i : (a b : Bool) → T (not a) → T (not b) → T (not (a || b))
nor_i true b g h = g
nor_i false b g h = h

is_in_lem : (xs : List ℕ) (j : ℕ) → j < length xs → T (is_in (at xs j) xs)
unfolding is_in
is_in_lem [] j l = absurd (omega arith)
is_in_lem (x ∷ xs) zero l = or_i (eqb x x) (is_in x xs) (inl (eqb_refl x))
is_in_lem (x ∷ xs) (suc j) l = or_i (eqb (at xs j) x) (is_in (at xs j) xs) (inr (is_in_lem xs j (omega arith)))

not_in : (x : ℕ) (xs : List ℕ) → ((j : ℕ) → j < length xs → x ≢ at xs j) → T (not (is_in x xs))
unfolding is_in
not_in x [] h = tt
not_in x (y ∷ ys) h = nor_i (eqb x y) (is_in x ys) (ne→neqb x y (h 0 (omega arith))) (not_in x ys (λ j l. h (suc j) (omega arith)))

different-at : (xs : List ℕ) → T (different xs) → (i j : ℕ) → i < j → j < length xs → at xs i ≢ at xs j
unfolding different
different-at [] h i j l m e = omega arith
different-at (x ∷ xs) h zero zero l m e = omega arith
different-at (x ∷ xs) h zero (suc j) l m e = T_not (is_in x xs) (and_l (not (is_in x xs)) (different xs) h) (rw e (is_in_lem xs j (omega arith)))
different-at (x ∷ xs) h (suc i) zero l m e = omega arith
different-at (x ∷ xs) h (suc i) (suc j) l m e = different-at xs (and_r (not (is_in x xs)) (different xs) h) i j (omega arith) (omega arith) e

pub same_place : (xs : List ℕ) → T (different xs) → (i j : ℕ) → i < length xs → j < length xs → at xs i ≡ at xs j → i ≡ j
same_place xs h i j l m e = go (cases_order i j)
  where
    go : (i ≡ j) ⊎ ((i < j) ⊎ (j < i)) → i ≡ j
    go (inl s) = s
    go (inr (inl s)) = absurd (different-at xs h i j s m e)
    go (inr (inr s)) = absurd (different-at xs h j i s l (sym e))

pub at-different : (xs : List ℕ) → ((i j : ℕ) → i < j → j < length xs → at xs i ≢ at xs j) → T (different xs)
unfolding different
at-different [] h = tt
at-different (x ∷ xs) h =
    and_i (not (is_in x xs)) (different xs) (not_in x xs (λ j l. h 0 (suc j) (omega arith) (omega arith))) (at-different xs (λ i j l m. h (suc i) (suc j) (omega arith) (omega arith)))

-- 0 .. n - 1
pub length-up_to : (n : ℕ) → length (up_to n) ≡ n
unfolding up_to
length-up_to zero = refl
length-up_to (suc n) = omega (arith, length_push (up_to n) n, length-up_to n)

pub at-up_to : (n i d : ℕ) → i < n → get_or (up_to n) i d ≡ i
unfolding up_to
at-up_to zero i d l = omega arith
at-up_to (suc n) i d l = go (at-up_to n i d) (cases_lt i n)
  where
    go : (i < n → get_or (up_to n) i d ≡ i) → (i < n) ⊎ (n ≤ i) → get_or (up_to n ++ n ∷ []) i d ≡ i
    go below (inl m) = get_or_append_left (up_to n) (n ∷ []) d i (omega (arith, length-up_to n)) ∙ below m
    go below (inr m) = get_or_push (up_to n) n d i (omega (arith, length-up_to n)) ∙ omega arith

pub at_made : (f : ℕ → ℕ) (n i : ℕ) → i < n → at (map f (up_to n)) i ≡ f i
at_made f n i l = get_or-map f (up_to n) i 0 0 (omega (arith, length-up_to n)) ∙ ap f (at-up_to n i 0 l)

pub length_made : (f : ℕ → ℕ) (n : ℕ) → length (map f (up_to n)) ≡ n
length_made f n = length-map (up_to n) f ∙ length-up_to n
