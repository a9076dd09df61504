-- How many pairs the built task has. Assumes nothing.
use Rattle.std.proofs.Common.{◌≡◌, ℕ, zero, suc, ◌+◌, ◌-◌, ◌*◌, ◌/◌, ◌<◌, ◌≤◌, true, false, cond, ◌&&◌, ◌||◌, eqb, leb, ltb, List, [], ◌∷◌, ◌++◌, map, length, Bool, refl, ap, mul-suc, arith}
use Rattle.std.proofs.lemmas.List.Folds.{list_any-append}
use Rattle.std.proofs.lemmas.Bool.Decides.{nat_tests}
use Rattle.paths.specs.Plan.{Pair, Task}
use Rattle.tasks.specs.Task.{before, rising, lowest, sound}
use Rattle.prohibitions.specs.declared.prohibiting.Prohibition.{Prohibition}
use Rattle.prohibitions.specs.Prohibiting.{put, put_all, with_each, every_two, pair_for, built, named}
use Rattle.prohibitions.specs.Putting.{in_order_after, in_order, is_among, different_after}
use Rattle.prohibitions.proofs.Placing.{order-rest, order-put, order_of_task}
use Rattle.prohibitions.proofs.Building.{put_all-append}

-- is a pair among these
unfoldable has : Pair → List Pair → Bool
has x [] = false
has x (y ∷ ys) = (eqb x.a y.a && eqb x.e y.e) || has x ys

has-append : (x : Pair) (ys zs : List Pair) → has x (ys ++ zs) ≡ (has x ys || has x zs)
unfolding has
has-append x [] zs = refl
has-append x (y ∷ ys) zs = let h = has-append x ys zs in grind arith

has-put : (x y : Pair) (zs : List Pair) → has x (put y zs) ≡ ((eqb x.a y.a && eqb x.e y.e) || has x zs)
unfolding has put
has-put x y [] = refl
has-put x y (z ∷ zs) = let h = has-put x y zs in grind (arith, nat_tests)

has-put_all : (x : Pair) (ys zs : List Pair) → has x (put_all ys zs) ≡ (has x ys || has x zs)
unfolding has put_all
has-put_all x [] zs = refl
has-put_all x (y ∷ ys) zs = let h = has-put_all x ys (put y zs) in let e = has-put x y zs in grind arith

-- what is put among pairs in order makes one more, unless it is there
not-later : (x last : Pair) (ys : List Pair) → in_order_after last ys ≡ true → before x last ≡ true → has x ys ≡ false
unfolding has in_order_after
not-later x last [] o b = refl
not-later x last (y ∷ ys) o b = let h = not-later x y ys in grind (arith, nat_tests)

one_put : (x : Pair) (ys : List Pair) → in_order ys ≡ true → length (put x ys) ≡ cond (has x ys) 0 1 + length ys
unfolding has put
one_put x [] o = refl
one_put x (y ∷ ys) o = let h = one_put x ys (order-rest y ys o) in let n = not-later x y ys o in grind (arith, nat_tests)

order-put_all : (xs ys : List Pair) → in_order ys ≡ true → in_order (put_all xs ys) ≡ true
unfolding put_all
order-put_all [] ys o = o
order-put_all (x ∷ xs) ys o = order-put_all xs (put x ys) (order-put x ys o)

-- pairs of the trains from n on
has-each : (x : Pair) (n j i : ℕ) → has x (with_each n j i) ≡ (eqb x.e (n + j) && (leb n x.a && ltb x.a (n + i)))
unfolding has with_each
has-each x n j zero = grind (arith, nat_tests)
has-each x n j (suc i) =
    let h = has-each x n j i in
    let e = has-append x (with_each n j i) (record { a = n + i; e = n + j } ∷ []) in
    grind (arith, nat_tests)

has-two : (x : Pair) (n j : ℕ) → has x (every_two n j) ≡ (leb n x.a && (ltb x.a x.e && ltb x.e (n + j)))
unfolding has every_two
has-two x n zero = grind (arith, nat_tests)
has-two x n (suc j) =
    let h = has-two x n j in
    let e = has-append x (every_two n j) (with_each n j j) in
    let g = has-each x n j j in
    grind (arith, nat_tests)

-- none of these pairs names one of the trains from n on second
abbrev Below : ℕ → List Pair → Type 0
Below n ys = (x : Pair) → n ≤ x.e → has x ys ≡ false

each_put : (n j i : ℕ) (ys : List Pair) → in_order ys ≡ true → Below (n + j) ys → length (put_all (with_each n j i) ys) ≡ i + length ys
unfolding put_all with_each
each_put n j zero ys o b = omega arith
each_put n j (suc i) ys o b =
    let x : Pair = record { a = n + i; e = n + j } in
    let zs = put_all (with_each n j i) ys in
    let h = each_put n j i ys o b in
    let e = ap length (put_all-append (with_each n j i) (x ∷ []) ys) in
    let p = one_put x zs (order-put_all (with_each n j i) ys o) in
    let c = has-put_all x (with_each n j i) ys in
    let g = has-each x n j i in
    let l = b x (omega arith) in
    grind (arith, nat_tests)

two_put : (n k : ℕ) (ys : List Pair) → in_order ys ≡ true → Below n ys → 2 * length (put_all (every_two n k) ys) + k ≡ 2 * length ys + k * k
unfolding put_all every_two
two_put n zero ys o b = omega arith
two_put n (suc k) ys o b =
    let zs = put_all (every_two n k) ys in
    let h = two_put n k ys o b in
    let e = ap length (put_all-append (every_two n k) (with_each n k k) ys) in
    let below : Below (n + k) zs = λ x l. let c = has-put_all x (every_two n k) ys in let g = has-two x n k in let f = b x (omega arith) in grind (arith, nat_tests) in
    let p = each_put n k k zs (order-put_all (every_two n k) ys o) below in
    omega arith

task_below : (n : ℕ) (last : Pair) (ys : List Pair) → rising n last ys ≡ true → Below n ys
unfolding has rising
task_below n last [] r x l = refl
task_below n last (y ∷ ys) r x l = let h = task_below n y ys in grind (arith, nat_tests)

-- the pairs for prohibitions, where those that were seen were put
for_put : (t : Task) (seen bs : List Prohibition) (ys : List Pair) → named t bs ≡ true → in_order ys ≡ true →
    ((c : Prohibition) → c.train < t.trains → has (pair_for t.trains c) ys ≡ is_among c seen) →
    length (put_all (map (pair_for t.trains) bs) ys) ≡ different_after seen bs + length ys
unfolding put_all named different_after
for_put t seen [] ys m o s = omega arith
for_put t seen (b ∷ bs) ys m o s =
    let x = pair_for t.trains b in
    let next : (c : Prohibition) → c.train < t.trains → has (pair_for t.trains c) (put x ys) ≡ is_among c (seen ++ b ∷ []) =
    λ c l. let h = s c l in let p = has-put (pair_for t.trains c) x ys in let a = list_any-append (λ (d : Prohibition). eqb d.train c.train && eqb d.path c.path) seen (b ∷ []) in grind (arith, nat_tests) in
    let h = for_put t (seen ++ b ∷ []) bs (put x ys) (grind arith) (order-put x ys o) next in
    let p = one_put x ys o in
    let g = s b (grind (arith, nat_tests)) in
    grind arith

pairs_counted : (t : Task) (bs : List Prohibition) → sound t ≡ true → named t bs ≡ true →
    2 * length (built t bs).pairs + t.paths ≡ 2 * (different_after [] bs + length t.pairs) + t.paths * t.paths
pairs_counted t bs s m =
    let n = t.trains in
    let r : rising n lowest t.pairs ≡ true = grind arith in
    let o = order_of_task n t.pairs r in
    let below = task_below n lowest t.pairs r in
    let two = every_two n t.paths in
    let none : (c : Prohibition) → c.train < n → has (pair_for n c) (put_all two t.pairs) ≡ false =
    λ c l. let e = has-put_all (pair_for n c) two t.pairs in let g = has-two (pair_for n c) n t.paths in let b = below (pair_for n c) (omega arith) in grind (arith, nat_tests) in
    omega (arith, two_put n t.paths t.pairs o below, for_put t [] bs (put_all two t.pairs) m (order-put_all two t.pairs o) none)

-- so many are every two of k trains
triangle : (k : ℕ) → 0 < k → k * (k - 1) + k ≡ k * k
triangle zero h = absurd (omega arith)
triangle (suc j) h = let e : suc j - 1 ≡ j = omega arith in rw e (omega (arith, mul-suc (suc j) j))

halved : (l d k m all : ℕ) → m + k ≡ k * k → 2 * all + k ≡ 2 * (d + l) + k * k → l + m / 2 + d ≡ all
halved l d k m all e f = omega arith

pub counted : (t : Task) (bs : List Prohibition) → sound t ≡ true → named t bs ≡ true → 0 < t.paths →
    length t.pairs + t.paths * (t.paths - 1) / 2 + different_after [] bs ≡ length (built t bs).pairs
counted t bs s m p = halved (length t.pairs) (different_after [] bs) t.paths (t.paths * (t.paths - 1)) (length (built t bs).pairs) (triangle t.paths p) (pairs_counted t bs s m)
