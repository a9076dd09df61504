-- Putting pairs at their places: what stays apart, what stays in order, how long the list gets, and that the built task is sound.
-- Assumes nothing.
use Rattle.std.proofs.Common.{◌≡◌, ℕ, zero, suc, ◌+◌, ◌<◌, ◌≤◌, Bool, true, not, ◌&&◌, eqb, ltb, List, [], ◌∷◌, ◌++◌, map, length, refl, arith}
use Rattle.std.proofs.lemmas.Bool.Decides.{nat_tests}
use Rattle.paths.specs.Plan.{Task, Pair, Plan, at, apart}
use Rattle.tasks.specs.Task.{is_there, rises, rising, lowest, sound}
use Rattle.prohibitions.specs.declared.prohibiting.Prohibition.{Prohibition}
use Rattle.prohibitions.specs.Prohibiting.{put, put_all, with_each, every_two, pair_for, built, named}

pub apart-put : (p : Plan) (x : Pair) (ys : List Pair) → apart p (put x ys) ≡ (not (eqb (at p x.a) (at p x.e)) && apart p ys)
unfolding apart put
apart-put p x [] = refl
apart-put p x (y ∷ ys) = let h = apart-put p x ys in grind (arith, nat_tests)

pub apart-put_all : (p : Plan) (xs ys : List Pair) → apart p (put_all xs ys) ≡ (apart p xs && apart p ys)
unfolding apart put_all
apart-put_all p [] ys = refl
apart-put_all p (x ∷ xs) ys = let h = apart-put_all p xs (put x ys) in let e = apart-put p x ys in grind arith

-- one step by itself: within the recursion its cases take too much memory
rising_step : (n : ℕ) (last x y : Pair) (ys : List Pair) → (rising n y ys ≡ true → (is_there n x && rises y x) ≡ true → rising n y (put x ys) ≡ true) →
    rising n last (y ∷ ys) ≡ true → (is_there n x && rises last x) ≡ true → rising n last (put x (y ∷ ys)) ≡ true
unfolding rising put
rising_step n last x y ys i h g = grind (arith, nat_tests)

pub rising-put : (n : ℕ) (last x : Pair) (ys : List Pair) → rising n last ys ≡ true → (is_there n x && rises last x) ≡ true → rising n last (put x ys) ≡ true
unfolding rising put
rising-put n last x [] h g = grind arith
rising-put n last x (y ∷ ys) h g = rising_step n last x y ys (rising-put n y x ys) h g

pub rising-more : (n n' : ℕ) (last : Pair) (xs : List Pair) → rising n last xs ≡ true → n ≤ n' → rising n' last xs ≡ true
unfolding rising
rising-more n n' last [] h l = refl
rising-more n n' last (x ∷ xs) h l = let i = rising-more n n' x xs in grind (arith, nat_tests)

pub put_least : (x : Pair) (ys : List Pair) → length ys ≤ length (put x ys)
unfolding put
put_least x [] = omega arith
put_least x (y ∷ ys) = let h = put_least x ys in grind arith

pub put_all_least : (xs ys : List Pair) → length ys ≤ length (put_all xs ys)
unfolding put_all
put_all_least [] ys = omega arith
put_all_least (x ∷ xs) ys = omega (arith, put_all_least xs (put x ys), put_least x ys)

-- of each pair both trains are there, the lower one first
unfoldable pub paired : ℕ → List Pair → Bool
paired n [] = true
paired n (x ∷ xs) = is_there n x && ltb x.a x.e && paired n xs

paired-append : (n : ℕ) (xs ys : List Pair) → paired n (xs ++ ys) ≡ (paired n xs && paired n ys)
unfolding paired
paired-append n [] ys = refl
paired-append n (x ∷ xs) ys = let h = paired-append n xs ys in grind arith

pub rising-put_all : (n : ℕ) (xs ys : List Pair) → rising n lowest ys ≡ true → paired n xs ≡ true → rising n lowest (put_all xs ys) ≡ true
unfolding paired put_all
rising-put_all n [] ys h g = h
rising-put_all n (x ∷ xs) ys h g = let i = rising-put_all n xs (put x ys) in let e = rising-put n lowest x ys in grind (arith, nat_tests)

paired_each : (m n j i : ℕ) → n + j < m → i ≤ j → paired m (with_each n j i) ≡ true
unfolding paired with_each
paired_each m n j zero l o = refl
paired_each m n j (suc i) l o =
    let h = paired_each m n j i l in
    let e = paired-append m (with_each n j i) (record { a = n + i; e = n + j } ∷ []) in
    grind (arith, nat_tests)

paired-two : (m n j : ℕ) → n + j ≤ m → paired m (every_two n j) ≡ true
unfolding paired every_two
paired-two m n zero l = refl
paired-two m n (suc j) l =
    let h = paired-two m n j in
    let e = paired-append m (every_two n j) (with_each n j j) in
    let g = paired_each m n j j in
    grind arith

paired_for : (t : Task) (bs : List Prohibition) → named t bs ≡ true → paired (t.trains + t.paths) (map (pair_for t.trains) bs) ≡ true
unfolding paired named
paired_for t [] h = refl
paired_for t (b ∷ bs) h = let i = paired_for t bs in grind (arith, nat_tests)

pub built-sound : (t : Task) (bs : List Prohibition) → sound t ≡ true → named t bs ≡ true →
    t.trains + t.paths ≤ 1024 → length (built t bs).pairs ≤ 4096 → sound (built t bs) ≡ true
built-sound t bs s m few short =
    let n = t.trains in
    let k = t.paths in
    let two = every_two n k in
    let for' = map (pair_for n) bs in
    let r₀ = rising-more n (n + k) lowest t.pairs in
    let r₁ = rising-put_all (n + k) two t.pairs in
    let r₂ = rising-put_all (n + k) for' (put_all two t.pairs) in
    let p₁ = paired-two (n + k) n k in
    let p₂ = paired_for t bs in
    let l₁ = put_all_least two t.pairs in
    let l₂ = put_all_least for' (put_all two t.pairs) in
    grind (arith, nat_tests)
