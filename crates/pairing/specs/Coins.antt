-- The coin of the second plan that goes with a coin of the first, and what is promised of the two plans. Assumes nothing.
use Rattle.std.specs.Prelude.{◌≡◌, ℕ, zero, suc, ◌+◌, ◌*◌, cond, List, [], ◌∷◌, ◌++◌, length, take, drop, ◌==◌}
use Rattle.paths.specs.Plan.{Task}
use Rattle.paths.specs.Show.{Asker, Coin}
use Rattle.paths.specs.Stop.{Stopper, SeenAlike}
use Rattle.paths.specs.Order.{is_order}
use Rattle.paths.specs.Pairing.{pair_coin}
use Rattle.paths.specs.Paired.{AlikeBy}
use Rattle.paths.specs.Promise.{IsCoin}
use Rattle.tasks.specs.Reading.{Got, got, refused, and_then}
use Rattle.fitting.specs.Pairs.{asked_pair}
use Rattle.pairing.specs.Plans.{Both}

-- the order of the coin that goes with one with order xs, where pair i is asked for
abbrev pub paired_order : Both → ℕ → List ℕ → List ℕ
paired_order s i xs = (pair_coin s.task s.first s.second i (record { order = xs; chances = [] })).order

-- a question that names no pair is fault 7, an order of another number of paths fault 10
abbrev pub order_for : Both → ℕ → List ℕ → Got (List ℕ)
order_for s i xs = and_then (asked_pair s.task i) (λ _. cond (length xs == s.task.paths) (got (paired_order s i xs)) (refused 10))

-- A coin as bytes is its order, a byte for each path, and its chances, 32 bytes for each train

-- another length is fault 1, and bytes that are no order fault 10
abbrev pub order_in : Both → ℕ → List ℕ → Got (List ℕ)
order_in s i bs =
    let k = s.task.paths in
    cond (length bs == k + 32 * s.task.trains)
    (and_then (asked_pair s.task i) (λ _. cond (is_order (take k bs)) (got (paired_order s i (take k bs))) (refused 10)))
    (refused 1)

-- the bytes of the coin that goes with it: that order, and the same chances
abbrev pub coin_for : Both → ℕ → List ℕ → Got (List ℕ)
coin_for s i bs = and_then (order_in s i bs) (λ xs. got (xs ++ drop s.task.paths bs))

-- bytes that are refused stay as they are
abbrev pub left_by : Got (List ℕ) → List ℕ → List ℕ
left_by (got x) bs = x
left_by (refused f) bs = bs

-- bytes as a number, high byte first, after those that make up n
unfoldable pub number_in : ℕ → List ℕ → ℕ
number_in n [] = n
number_in n (b ∷ bs) = number_in (n * 256 + b) bs

unfoldable pub chances_in : ℕ → List ℕ → List ℕ
chances_in zero bs = []
chances_in (suc n) bs = number_in 0 (take 32 bs) ∷ chances_in n (drop 32 bs)

abbrev pub coin_in : Task → List ℕ → Coin
coin_in t bs = record { order = take t.paths bs; chances = chances_in t.trains (drop t.paths bs) }

-- the bytes are a coin, and those that they became are the coin that goes with it
pub record Goes (s : Both) (i : ℕ) (bs cs : List ℕ) : Type 0 where
  pub is_coin : IsCoin s.task (coin_in s.task bs)
  pub goes : coin_in s.task cs ≡ pair_coin s.task s.first s.second i (coin_in s.task bs)

-- with coins paired so, any asker sees the same of the two plans, whether it stops, is refused or asks to the end
pub record Promised (s : Both) : Type 0 where
  pub shown : (f : Asker) (r : ℕ) → AlikeBy s.task s.first s.second f r
  pub seen : (f : Stopper) (r : ℕ) → SeenAlike s.task s.first s.second f r
