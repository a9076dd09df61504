-- The pairing of coins: of two plans and the pair asked for, each order for the one plan goes with one order for the other, so that the same is shown. Assumes nothing.
use Rattle.std.specs.Prelude.{ℕ, ◌+◌, ◌-◌, min, max, cond, List, [], ◌∷◌, map, ◌==◌, nat_lt}
use Rattle.paths.specs.Plan.{Task, Plan, at}
use Rattle.paths.specs.Show.{Coin, Shown, pair_at}
use Rattle.paths.specs.Cheat.{up_to}

-- how many paths other than c and d are below x
abbrev pub rank : ℕ → ℕ → ℕ → ℕ
rank c d x = x - cond (nat_lt c x) 1 0 - cond (nat_lt d x) 1 0

-- the path other than a and b that has n such paths below it
abbrev pub nth : ℕ → ℕ → ℕ → ℕ
nth a b n = cond (nat_lt n (min a b)) n (cond (nat_lt (n + 1) (max a b)) (n + 1) (n + 2))

-- path c goes to a and d to b; the other paths go, in rising order, to those other than a and b
abbrev pub beta : ℕ → ℕ → ℕ → ℕ → ℕ → ℕ
beta c d a b x = cond (x == c) a (cond (x == d) b (nth a b (rank c d x)))

-- for pair i: the paths that plan q gives its two trains go to those that plan p gives them
abbrev pub beta_at : Task → Plan → Plan → ℕ → ℕ → ℕ
beta_at t p q i = beta (at q (pair_at t i).a) (at q (pair_at t i).e) (at p (pair_at t i).a) (at p (pair_at t i).e)

-- the coin for plan q that goes with coin c for plan p where pair i is asked for
abbrev pub pair_coin : Task → Plan → Plan → ℕ → Coin → Coin
pair_coin t p q i c = record { order = map (λ x. at c.order (beta_at t p q i x)) (up_to t.paths); chances = c.chances }

-- each of these changed by the question of its round, and those of rounds in which nothing is asked for stay
unfoldable pub by_question : {A : Type 0} → (ℕ → A → A) → List ℕ → List A → List A
by_question f is [] = []
by_question f [] (x ∷ xs) = x ∷ xs
by_question f (i ∷ is) (x ∷ xs) = f i x ∷ by_question f is xs

-- the same round by round
abbrev pub pair_coins : Task → Plan → Plan → List ℕ → List Coin → List Coin
pair_coins t p q = by_question (pair_coin t p q)

-- the pairs asked for
abbrev pub asked : List Shown → List ℕ
asked = map (λ s. s.asked)
