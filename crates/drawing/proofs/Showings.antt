-- Rows of numbers for all coins of a showing, and that no row of coins is favoured. Assumes nothing.
use Rattle.std.proofs.Common.{◌≡◌, ℕ, zero, suc, ◌^◌, ◌≤◌, ◌&&◌, T, ltb, leb, ◌⊎◌, List, [], ◌∷◌, ◌++◌, sym, refl, subst, inl, inr, lit<, lit≤}
use mathlib.Core.List.Memᴰ
use mathlib.Core.List.{Memᴰ}
use Rattle.std.specs.List.{flat_map}
use Rattle.paths.specs.Plan.{Task, all_below}
use Rattle.paths.specs.Show.{Coin}
use Rattle.paths.specs.Promise.{IsCoin, Coins}
use Rattle.drawing.specs.Drawing.{serve, times, parts, chance_moduli, number_of, digits_of, order_moduli, order_of, row_of, coin_moduli, coin_of, row_of_coin, showing_moduli, coins_of, row_of_coins}
use Rattle.paths.specs.Count.{same_row}
use Rattle.drawing.specs.Uniform.{OneToOne, IsOrder, Showings, same_coin, same_coins, EvenShowings}
use Rattle.drawing.proofs.Tests.{first, second, both}
use Rattle.drawing.proofs.Orders.{orders}
use Rattle.drawing.proofs.Joins.{Each, SoMany, pairs, rows_of, renamed, digits}
use Rattle.drawing.proofs.Even.{even, alike-told, alike-itself, serve-order, serve_replicate}

-- numbers that are each below n
all-each : (n : ℕ) (xs : List ℕ) → T (all_below n xs) → Each (λ x. T (ltb x n)) xs
unfolding all_below
all-each n [] h = tt
all-each n (x ∷ xs) h = (first (ltb x n) (all_below n xs) h, all-each n xs (second (ltb x n) (all_below n xs) h))

each_all : (n : ℕ) (xs : List ℕ) → Each (λ x. T (ltb x n)) xs → T (all_below n xs)
unfolding all_below
each_all n [] h = tt
each_all n (x ∷ xs) h = both (ltb x n) (all_below n xs) h.0 (each_all n xs h.1)

-- a fact of each member
each_member : {A : Type 0} (P : A → Type 0) (xs : List A) → Each P xs → (x : A) → Memᴰ x xs → P x
each_member P [] h x m = absurd (Memᴰ.not-nil m)
each_member P (y ∷ ys) h x m = go (Memᴰ.cases_cons m) (each_member P ys h.1 x)
  where
    go : (x ≡ y) ⊎ Memᴰ x ys → (Memᴰ x ys → P x) → P x
    go (inl e) f = subst P (sym e) h.0
    go (inr k) f = f k

member_each : {A : Type 0} (P : A → Type 0) (xs : List A) → ((x : A) → Memᴰ x xs → P x) → Each P xs
member_each P [] h = tt
member_each P (y ∷ ys) h = (h y (Memᴰ.head refl), member_each P ys (λ x m. h x (Memᴰ.tail m)))

chances : (n : ℕ) → OneToOne (times n chance_moduli) (SoMany (λ x. T (ltb x (2 ^ 256))) n) (parts (number_of (2 ^ 32)) 8 n) (flat_map (digits_of (2 ^ 32) 8))
chances n = rows_of chance_moduli (λ x. T (ltb x (2 ^ 256))) (number_of (2 ^ 32)) (digits_of (2 ^ 32) 8) (digits (2 ^ 32) 8 (lit< tt)) n

pub coin : (t : Task) → OneToOne (coin_moduli t) (IsCoin t) (coin_of t) (row_of_coin t)
coin t =
    renamed (coin_moduli t) (λ c. IsOrder t.paths c.order × SoMany (λ x. T (ltb x (2 ^ 256))) t.trains c.chances) (IsCoin t) (coin_of t) (row_of_coin t)
    (λ c h. (h.0.0, h.0.1, h.0.2, h.1.0, each_all (2 ^ 256) c.chances h.1.1))
    (λ c h. ((h.0, h.1, h.2), (h.3, all-each (2 ^ 256) c.chances h.4)))
    (pairs (order_moduli t.paths) (times t.trains chance_moduli) (IsOrder t.paths) (SoMany (λ x. T (ltb x (2 ^ 256))) t.trains) (order_of t.paths) (row_of t.paths)
    (parts (number_of (2 ^ 32)) 8 t.trains) (flat_map (digits_of (2 ^ 32) 8)) (orders t.paths) (chances t.trains) (λ o cs. record { order = o; chances = cs }) (λ c. c.order) (λ c. c.chances)
    (λ a b. refl) (λ a b. refl) (λ c. refl))

pub showings : Showings
showings t r =
    renamed (showing_moduli t r) (SoMany (IsCoin t) r) (Coins t r) (coins_of t r) (row_of_coins t)
    (λ cs h. (h.0, each_member (IsCoin t) cs h.1)) (λ cs h. (h.0, member_each (IsCoin t) cs h.1))
    (rows_of (coin_moduli t) (IsCoin t) (coin_of t) (row_of_coin t) (coin t) r)

-- the test for the same coins
coin_told : (c d : Coin) → T (same_coin c d) → c ≡ d
coin_told c d h =
    let e = alike-told c.order d.order (first (same_row c.order d.order) (same_row c.chances d.chances) h) in
    let f = alike-told c.chances d.chances (second (same_row c.order d.order) (same_row c.chances d.chances) h) in
    λ i. record { order = e i; chances = f i }

coins_told : (cs ds : List Coin) → T (same_coins cs ds) → cs ≡ ds
unfolding same_coins
coins_told [] [] h = refl
coins_told [] (d ∷ ds) h = absurd h
coins_told (c ∷ cs) [] h = absurd h
coins_told (c ∷ cs) (d ∷ ds) h =
    let e = coin_told c d (first (same_coin c d) (same_coins cs ds) h) in
    let f = coins_told cs ds (second (same_coin c d) (same_coins cs ds) h) in
    cc

coins_itself : (cs : List Coin) → T (same_coins cs cs)
unfolding same_coins
coins_itself [] = tt
coins_itself (c ∷ cs) =
    both (same_coin c c) (same_coins cs cs) (both (same_row c.order c.order) (same_row c.chances c.chances) (alike-itself c.order) (alike-itself c.chances)) (coins_itself cs)

-- the moduli serve
serve_both : (n : ℕ) (ss ts : List ℕ) → T (serve n ss) → T (serve n ts) → T (serve n (ss ++ ts))
unfolding serve
serve_both n [] ts g h = h
serve_both n (s ∷ ss) ts g h =
    both (ltb 0 s && leb s n) (serve n (ss ++ ts)) (first (ltb 0 s && leb s n) (serve n ss) g) (serve_both n ss ts (second (ltb 0 s && leb s n) (serve n ss) g) h)

serve-times : (n r : ℕ) (ss : List ℕ) → T (serve n ss) → T (serve n (times r ss))
unfolding times serve
serve-times n zero ss g = tt
serve-times n (suc r) ss g = serve_both n ss (times r ss) g (serve-times n r ss g)

serve_coin : (t : Task) → t.paths ≤ 2 ^ 32 → T (serve (2 ^ 32) (coin_moduli t))
serve_coin t l =
    serve_both (2 ^ 32) (order_moduli t.paths) (times t.trains chance_moduli) (serve-order (2 ^ 32) t.paths l)
    (serve-times (2 ^ 32) t.trains chance_moduli (serve_replicate (2 ^ 32) (2 ^ 32) 8 (lit< tt) (lit≤ tt)))

pub even_showings : EvenShowings
even_showings t l r =
    even (2 ^ 32) (showing_moduli t r) (Coins t r) (coins_of t r) (row_of_coins t) same_coins (showings t r) coins_told coins_itself
    (serve-times (2 ^ 32) r (coin_moduli t) (serve_coin t l))
