-- How numbers, orders, chances and questions are drawn from values. A value is a number below 2 ^ 32 (four drawn bytes); where only the number of
-- values matters, any number stands for 2 ^ 32. Assumes nothing.
use Rattle.std.specs.Prelude.{ℕ, zero, suc, ◌+◌, ◌-◌, ◌*◌, ◌/◌, ◌%◌, ◌^◌, Bool, true, false, cond, ◌&&◌, List, [], ◌∷◌, ◌++◌, map, length, take, drop, replicate, ◌==◌, nat_le, nat_lt, slice_set}
use Rattle.std.specs.List.{flat_map}
use Rattle.paths.specs.Plan.{Task, at}
use Rattle.paths.specs.Show.{Coin}
use Rattle.paths.specs.Cheat.{up_to}

-- of n values, those below the limit are used for a number below s: the limit is the greatest multiple of s that is at most n
abbrev pub limit : ℕ → ℕ → ℕ
limit n s = n - n % s

-- what comes of drawing: a row of numbers and the values left over, or the values were too few
pub data Drawn : Type 0 where
  drew : List ℕ → List ℕ → Drawn
  short : Drawn

-- one more number before those drawn
abbrev pub more : ℕ → Drawn → Drawn
more d (drew ds left) = drew (d ∷ ds) left
more d short = short

-- a number below each of the moduli in turn: a value at or above the limit is passed over, of any other the remainder is taken
unfoldable pub draw : ℕ → List ℕ → List ℕ → Drawn
draw n [] vs = drew [] vs
draw n (s ∷ ss) [] = short
draw n (s ∷ ss) (v ∷ vs) = cond (nat_lt v (limit n s)) (more (v % s) (draw n ss vs)) (draw n (s ∷ ss) vs)

-- numbers drawn before others; and to draw on from the values left over
abbrev pub onto : List ℕ → Drawn → Drawn
onto ds (drew es left) = drew (ds ++ es) left
onto ds short = short

abbrev pub and_then : Drawn → (List ℕ → Drawn) → Drawn
and_then (drew ds left) next = onto ds (next left)
and_then short next = short

-- the values of a row of bytes (numbers below n, for which 256 is used): four bytes each, the first byte highest; fewer than four at the end make none
unfoldable pub values_of : ℕ → List ℕ → List ℕ
values_of n [] = []
values_of n (a ∷ []) = []
values_of n (a ∷ b ∷ []) = []
values_of n (a ∷ b ∷ c ∷ []) = []
values_of n (a ∷ b ∷ c ∷ d ∷ bs) = (((a * n + b) * n + c) * n + d) ∷ values_of n bs

-- moduli that n values serve: from 1 to n
unfoldable pub serve : ℕ → List ℕ → Bool
serve n [] = true
serve n (s ∷ ss) = nat_lt 0 s && nat_le s n && serve n ss

-- a row with a number below each modulus
unfoldable pub in_range : List ℕ → List ℕ → Bool
in_range [] [] = true
in_range [] (d ∷ ds) = false
in_range (s ∷ ss) [] = false
in_range (s ∷ ss) (d ∷ ds) = nat_lt d s && in_range ss ds

-- a row of values, aimed at other numbers: a value that is used keeps its quotient and gets the remainder that is wanted; a value that is passed over
-- stays, and so do those left over
unfoldable pub aim : ℕ → List ℕ → List ℕ → List ℕ → List ℕ
aim n [] ds vs = vs
aim n (s ∷ ss) ds [] = []
aim n (s ∷ ss) [] (v ∷ vs) = v ∷ vs
aim n (s ∷ ss) (d ∷ ds) (v ∷ vs) = cond (nat_lt v (limit n s)) ((v / s * s + d) ∷ aim n ss ds vs) (v ∷ aim n (s ∷ ss) (d ∷ ds) vs)

-- of each value in turn, until all numbers are drawn, whether it is passed over
unfoldable pub passed : ℕ → List ℕ → List ℕ → List Bool
passed n [] vs = []
passed n (s ∷ ss) [] = []
passed n (s ∷ ss) (v ∷ vs) = cond (nat_lt v (limit n s)) (false ∷ passed n ss vs) (true ∷ passed n (s ∷ ss) vs)

-- what aiming keeps of each value: the quotient of one that is used, and the whole of one that is passed over or left over
unfoldable pub kept : ℕ → List ℕ → List ℕ → List ℕ
kept n [] vs = vs
kept n (s ∷ ss) [] = []
kept n (s ∷ ss) (v ∷ vs) = cond (nat_lt v (limit n s)) ((v / s) ∷ kept n ss vs) (v ∷ kept n (s ∷ ss) vs)

-- the moduli of an order of k paths: k, k - 1, .., 2
unfoldable pub order_moduli : ℕ → List ℕ
order_moduli zero = []
order_moduli (suc zero) = []
order_moduli (suc (suc i)) = suc (suc i) ∷ order_moduli (suc i)

-- what stands at places i and j, exchanged
abbrev pub exchange : ℕ → ℕ → List ℕ → List ℕ
exchange i j xs = slice_set (slice_set xs i (at xs j)) j (at xs i)

-- for i from this place down, the next number drawn is j, and what stands at places i and j is exchanged
unfoldable pub exchanges : List ℕ → ℕ → List ℕ → List ℕ
exchanges [] i xs = xs
exchanges (j ∷ js) i xs = exchanges js (i - 1) (exchange i j xs)

-- the order of k paths that a row of numbers gives: the row of all paths, with exchanges from the last place down to place 1
abbrev pub order_of : ℕ → List ℕ → List ℕ
order_of k js = exchanges js (k - 1) (up_to k)

-- two numbers exchanged
abbrev pub swap : ℕ → ℕ → ℕ → ℕ
swap a b x = cond (x == a) b (cond (x == b) a x)

-- the row of numbers that gives an order: what stands last tells the first number; with that exchange undone, the others are an order of one path fewer
unfoldable pub row_of : ℕ → List ℕ → List ℕ
row_of zero o = []
row_of (suc zero) o = []
row_of (suc (suc i)) o = at o (suc i) ∷ row_of (suc i) (take (suc i) (map (swap (at o (suc i)) (suc i)) o))

-- a list, so many times over
unfoldable pub times : ℕ → List ℕ → List ℕ
times zero ss = []
times (suc r) ss = ss ++ times r ss

-- a row cut into so many parts of one length, and each part read
unfoldable pub parts : {A : Type 0} → (List ℕ → A) → ℕ → ℕ → List ℕ → List A
parts read size zero ds = []
parts read size (suc r) ds = read (take size ds) ∷ parts read size r (drop size ds)

-- a chance is 32 bytes: eight values, none of which is passed over
abbrev pub chance_moduli : List ℕ
chance_moduli = replicate 8 (2 ^ 32)

-- digits in base n, the highest first, as one number, and back; the eight values of a chance are its digits in base 2 ^ 32
unfoldable pub number_of : ℕ → List ℕ → ℕ
number_of n [] = 0
number_of n (v ∷ vs) = v * n ^ length vs + number_of n vs

unfoldable pub digits_of : ℕ → ℕ → ℕ → List ℕ
digits_of n zero x = []
digits_of n (suc j) x = x / n ^ j ∷ digits_of n j (x % n ^ j)

-- the moduli of a coin: an order of the task's paths, then a chance for each train
abbrev pub coin_moduli : Task → List ℕ
coin_moduli t = order_moduli t.paths ++ times t.trains chance_moduli

-- the coin that a row of numbers gives, and the row that gives a coin
abbrev pub coin_of : Task → List ℕ → Coin
coin_of t ds =
    let own = length (order_moduli t.paths) in
    record { order = order_of t.paths (take own ds); chances = parts (number_of (2 ^ 32)) 8 t.trains (drop own ds) }

abbrev pub row_of_coin : Task → Coin → List ℕ
row_of_coin t c = row_of t.paths c.order ++ flat_map (digits_of (2 ^ 32) 8) c.chances

-- a whole showing of r rounds: a coin for each
abbrev pub showing_moduli : Task → ℕ → List ℕ
showing_moduli t r = times r (coin_moduli t)

abbrev pub coins_of : Task → ℕ → List ℕ → List Coin
coins_of t r ds = parts (coin_of t) (length (coin_moduli t)) r ds

abbrev pub row_of_coins : Task → List Coin → List ℕ
row_of_coins t cs = flat_map (row_of_coin t) cs

-- the asker's questions of r rounds: the number of one of m pairs for each
abbrev pub question_moduli : ℕ → ℕ → List ℕ
question_moduli m r = replicate r m
