-- Orders by exchanges: what an exchange of two numbers, and of what stands at two places, does to a row. Assumes nothing.
use Rattle.std.proofs.Common.{◌≡◌, ℕ, zero, suc, ◌-◌, ◌<◌, cond, not, ◌&&◌, ◌||◌, T, eqb, ltb, ◌⊎◌, List, [], ◌∷◌, ◌++◌, map, length, set, sym, refl, ap, ◌∙◌, inl, inr, arith, ltb→lt}
use Rattle.std.proofs.lemmas.Bool.Decides.{nat_tests}
use Rattle.std.proofs.lemmas.Bool.{cases_eq, eq-eqb, ne_eqb}
use Rattle.std.proofs.lemmas.List.{length-set, length-map, length_push, get_or-map, map-set, get_or_append_left, set-append_left, ext_get_or, get_or-set_same, get_or-set_other, get_or_push}
use Rattle.paths.specs.Plan.{is_in, different, all_below, at}
use Rattle.paths.specs.Cheat.{up_to}
use Rattle.drawing.specs.Drawing.{exchange, exchanges, order_of, swap, in_range, order_moduli}
use Rattle.drawing.proofs.Tests.{first, second}

pub swap-swap : (a b x : ℕ) → swap a b (swap a b x) ≡ x
swap-swap a b x = grind (arith, nat_tests)

pub map-swap-swap : (a b : ℕ) (xs : List ℕ) → map (swap a b) (map (swap a b) xs) ≡ xs
map-swap-swap a b [] = refl
map-swap-swap a b (x ∷ xs) = let e = swap-swap a b x in let h = map-swap-swap a b xs in cc

eqb_swap : (a b x y : ℕ) → eqb (swap a b x) (swap a b y) ≡ eqb x y
eqb_swap a b x y = grind (arith, nat_tests)

is_in-swap : (a b x : ℕ) (ys : List ℕ) → is_in (swap a b x) (map (swap a b) ys) ≡ is_in x ys
unfolding is_in
is_in-swap a b x [] = refl
is_in-swap a b x (y ∷ ys) = let e = eqb_swap a b x y in let h = is_in-swap a b x ys in cc

pub different-swap : (a b : ℕ) (xs : List ℕ) → different (map (swap a b) xs) ≡ different xs
unfolding different
different-swap a b [] = refl
different-swap a b (x ∷ xs) = let e = is_in-swap a b x xs in let h = different-swap a b xs in cc

ltb-swap : (n a b x : ℕ) → a < n → b < n → ltb (swap a b x) n ≡ ltb x n
ltb-swap n a b x g h = grind (arith, nat_tests)

pub below-swap : (n a b : ℕ) → a < n → b < n → (xs : List ℕ) → all_below n (map (swap a b) xs) ≡ all_below n xs
unfolding all_below
below-swap n a b g h [] = refl
below-swap n a b g h (x ∷ xs) = let e = ltb-swap n a b x g h in let r = below-swap n a b g h xs in cc

is_in_push : (x : ℕ) (ys : List ℕ) (y : ℕ) → is_in x (ys ++ (y ∷ [])) ≡ (is_in x ys || eqb x y)
unfolding is_in
is_in_push x [] y = grind (arith, nat_tests)
is_in_push x (z ∷ zs) y = let h = is_in_push x zs y in grind (arith, nat_tests)

pub different_push : (ys : List ℕ) (y : ℕ) → different (ys ++ (y ∷ [])) ≡ (different ys && not (is_in y ys))
unfolding different is_in
different_push [] y = refl
different_push (z ∷ zs) y = let h = different_push zs y in let e = is_in_push z zs y in grind (arith, nat_tests)

pub below_push : (n : ℕ) (ys : List ℕ) (y : ℕ) → all_below n (ys ++ (y ∷ [])) ≡ (all_below n ys && ltb y n)
unfolding all_below
below_push n [] y = grind (arith, nat_tests)
below_push n (z ∷ zs) y = let h = below_push n zs y in grind (arith, nat_tests)

-- numbers up to n that are not n are below n
pub below_top : (n : ℕ) (ys : List ℕ) → (all_below (suc n) ys && not (is_in n ys)) ≡ all_below n ys
unfolding all_below is_in
below_top n [] = refl
below_top n (z ∷ zs) = let h = below_top n zs in grind (arith, nat_tests)

-- an exchange of what stands at two places
length-exchange : (i j : ℕ) (xs : List ℕ) → length (exchange i j xs) ≡ length xs
length-exchange i j xs = simp length-set

map-exchange : (f : ℕ → ℕ) (i j : ℕ) (xs : List ℕ) → i < length xs → j < length xs → exchange i j (map f xs) ≡ map f (exchange i j xs)
map-exchange f i j xs g h = simp (get_or-map f xs i 0 0 g, get_or-map f xs j 0 0 h, map-set)

append-exchange : (i j : ℕ) (xs ys : List ℕ) → i < length xs → j < length xs → exchange i j (xs ++ ys) ≡ exchange i j xs ++ ys
append-exchange i j xs ys g h =
    let l : j < length (set xs i (at xs j)) = simp length-set h in
    simp (get_or_append_left xs ys 0 i g, get_or_append_left xs ys 0 j h, set-append_left xs ys i (at xs j) g) (set-append_left (set xs i (at xs j)) ys j (at xs i) l)

-- what numbers in range say of the exchanges: the places are in the row
pub top_in : (i j : ℕ) (js : List ℕ) → T (in_range (order_moduli (suc (suc i))) (j ∷ js)) → j < suc (suc i)
unfolding in_range order_moduli
top_in i j js h = ltb→lt j (suc (suc i)) (first (ltb j (suc (suc i))) (in_range (order_moduli (suc i)) js) h)

pub rest_in : (i j : ℕ) (js : List ℕ) → T (in_range (order_moduli (suc (suc i))) (j ∷ js)) → T (in_range (order_moduli (suc i)) js)
unfolding in_range order_moduli
rest_in i j js h = second (ltb j (suc (suc i))) (in_range (order_moduli (suc i)) js) h

down : (i : ℕ) → suc i - 1 ≡ i
down i = omega arith

pub map-exchanges : (f : ℕ → ℕ) (i : ℕ) (js xs : List ℕ) → T (in_range (order_moduli (suc i)) js) → i < length xs → exchanges js i (map f xs) ≡ map f (exchanges js i xs)
unfolding exchanges in_range order_moduli
map-exchanges f zero [] xs h l = refl
map-exchanges f zero (j ∷ js) xs h l = absurd h
map-exchanges f (suc i) [] xs h l = absurd h
map-exchanges f (suc i) (j ∷ js) xs h l =
    let g = top_in i j js h in
    let k : j < length xs = omega arith in
    let m : i < length (exchange (suc i) j xs) = omega (arith, length-exchange (suc i) j xs) in
    simp (down i, map-exchange f (suc i) j xs l k) (map-exchanges f i js (exchange (suc i) j xs) (rest_in i j js h) m)

pub append-exchanges : (i : ℕ) (js xs ys : List ℕ) → T (in_range (order_moduli (suc i)) js) → i < length xs → exchanges js i (xs ++ ys) ≡ exchanges js i xs ++ ys
unfolding exchanges in_range order_moduli
append-exchanges zero [] xs ys h l = refl
append-exchanges zero (j ∷ js) xs ys h l = absurd h
append-exchanges (suc i) [] xs ys h l = absurd h
append-exchanges (suc i) (j ∷ js) xs ys h l =
    let g = top_in i j js h in
    let k : j < length xs = omega arith in
    let m : i < length (exchange (suc i) j xs) = omega (arith, length-exchange (suc i) j xs) in
    simp (down i, append-exchange (suc i) j xs ys l k) (append-exchanges i js (exchange (suc i) j xs) ys (rest_in i j js h) m)

-- the first row: 0 .. k - 1
pub length-up_to : (k : ℕ) → length (up_to k) ≡ k
unfolding up_to
length-up_to zero = refl
length-up_to (suc k) = omega (arith, length_push (up_to k) k, length-up_to k)

at-up_to-step : (k x : ℕ) → length (up_to k) ≡ k → x < suc k → (x < k → at (up_to k) x ≡ x) → at (up_to k ++ (k ∷ [])) x ≡ x
at-up_to-step k x e l h = go (cases_eq x k)
  where
    go : (x ≡ k) ⊎ (x ≡ k → ⊥) → at (up_to k ++ (k ∷ [])) x ≡ x
    go (inl f) = get_or_push (up_to k) k 0 x (e ∙ sym f) ∙ sym f
    go (inr f) = let m : x < k = omega arith in get_or_append_left (up_to k) (k ∷ []) 0 x (omega arith) ∙ h m

at-up_to : (k x : ℕ) → x < k → at (up_to k) x ≡ x
unfolding up_to
at-up_to zero x l = absurd (omega arith)
at-up_to (suc k) x l = at-up_to-step k x (length-up_to k) l (at-up_to k x)

-- an exchange of two places in the first row is an exchange of the two numbers
exchange-at : (i j x : ℕ) (xs : List ℕ) → i < length xs → j < length xs →
    at (exchange i j xs) x ≡ cond (eqb x j) (at xs i) (cond (eqb x i) (at xs j) (at xs x))
exchange-at i j x xs g h = go (cases_eq x j) (cases_eq x i)
  where
    go : (x ≡ j) ⊎ (x ≡ j → ⊥) → (x ≡ i) ⊎ (x ≡ i → ⊥) → at (exchange i j xs) x ≡ cond (eqb x j) (at xs i) (cond (eqb x i) (at xs j) (at xs x))
    go (inl p) q =
        let l : j < length (set xs i (at xs j)) = simp length-set h in
        let e = get_or-set_same (set xs i (at xs j)) j (at xs i) 0 l in
        let t = eq-eqb x j p in
        cc
    go (inr p) (inl q) =
        let e = get_or-set_other (set xs i (at xs j)) j x (at xs i) 0 p in
        let f = get_or-set_same xs i (at xs j) 0 g in
        let t = ne_eqb x j p in
        let u = eq-eqb x i q in
        cc
    go (inr p) (inr q) =
        let e = get_or-set_other (set xs i (at xs j)) j x (at xs i) 0 p in
        let f = get_or-set_other xs i x (at xs j) 0 q in
        let t = ne_eqb x j p in
        let u = ne_eqb x i q in
        cc

exchange-up_to : (i j k : ℕ) → i < k → j < k → exchange i j (up_to k) ≡ map (swap j i) (up_to k)
exchange-up_to i j k g h =
    let u = length-up_to k in
    let a = at-up_to k i g in
    let b = at-up_to k j h in
    ext_get_or 0 (exchange i j (up_to k)) (map (swap j i) (up_to k)) (length-exchange i j (up_to k) ∙ sym (length-map (up_to k) (swap j i)))
    (λ x l.
    let m : x < length (up_to k) = omega (arith, length-exchange i j (up_to k)) in
    let c = at-up_to k x (omega arith) in
    let e = exchange-at i j x (up_to k) (omega arith) (omega arith) in
    let f = get_or-map (swap j i) (up_to k) x 0 0 m in
    cc)

up_to-suc : (k : ℕ) → up_to (suc k) ≡ up_to k ++ (k ∷ [])
unfolding up_to
up_to-suc k = refl

-- an order by its first number: the order of one path fewer, with the last path behind it, and then that exchange
pub order-more : (i d : ℕ) (ds : List ℕ) → T (in_range (order_moduli (suc (suc i))) (d ∷ ds)) →
    order_of (suc (suc i)) (d ∷ ds) ≡ map (swap d (suc i)) (order_of (suc i) ds ++ (suc i ∷ []))
unfolding exchanges
order-more i d ds h =
    let u = length-up_to (suc i) in
    let v = length-up_to (suc (suc i)) in
    let l : i < length (up_to (suc i)) = omega arith in
    let m : i < length (up_to (suc (suc i))) = omega arith in
    let less : suc i < suc (suc i) = omega arith in
    simp (down (suc i), down i, exchange-up_to (suc i) d (suc (suc i)) less (top_in i d ds h), map-exchanges (swap d (suc i)) i ds (up_to (suc (suc i))) (rest_in i d ds h) m)
    (ap (map (swap d (suc i))) (ap (exchanges ds i) (up_to-suc (suc i)) ∙ append-exchanges i ds (up_to (suc i)) (suc i ∷ []) (rest_in i d ds h) l))
