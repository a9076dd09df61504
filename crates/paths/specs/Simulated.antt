-- What an asker sees, told without a plan: a function of the task, the asker and drawn coins alone. Assumes nothing.
use Rattle.std.specs.Prelude.{◌≡◌, ℕ, ◌<◌, cond, T, List, [], ◌∷◌, ◌++◌, map, length, ◌==◌}
use Rattle.paths.specs.Plan.{Task, Good, Plan, at, fits}
use Rattle.paths.specs.Show.{Coin, Shown, Asker, pair_at, within, round, view}
use Rattle.paths.specs.Cheat.{up_to}
use Rattle.paths.specs.Promise.{Coins}
use Rattle.paths.specs.Pairing.{pair_coin, by_question, asked}

-- in answer to the question for pair i the first two numbers of a drawn order, under the chances of its two trains
abbrev pub simulated_round : Task → Coin → ℕ → Shown
simulated_round t c i =
    record { asked = i; first = record { chance = at c.chances (pair_at t i).a; holds = at c.order 0 }; second = record { chance = at c.chances (pair_at t i).e; holds = at c.order 1 } }

unfoldable pub simulation : Task → Asker → List Coin → List Shown → List Shown
simulation t f [] so_far = so_far
simulation t f (c ∷ cs) so_far = simulation t f cs (so_far ++ (simulated_round t c (within t (f so_far)) ∷ []))

-- all that the asker is shown so
abbrev pub simulate : Task → Asker → List Coin → List Shown
simulate t f cs = simulation t f cs []

-- a plan for one question alone: the second train of pair i has path 1, and each other train path 0
abbrev pub pretend : Task → ℕ → Plan
pretend t i = map (λ x. cond (x == (pair_at t i).e) 1 0) (up_to t.trains)

-- the coins of the simulation that go with coins for plan p, and the other way round: each as if the other plan were that of its question
abbrev pub to_simulated : Task → Plan → Asker → List Coin → List Coin
to_simulated t p f cs = by_question (λ i. pair_coin t p (pretend t i) i) (asked (view t p f cs)) cs

abbrev pub from_simulated : Task → Plan → Asker → List Coin → List Coin
from_simulated t p f cs = by_question (λ i. pair_coin t (pretend t i) p i) (asked (simulate t f cs)) cs

-- What the asker sees of plan p is what is told without a plan, with coins paired off one to one.
pub record Simulated (t : Task) (p : Plan) (f : Asker) (r : ℕ) : Type 0 where
  pub pretends : (i : ℕ) → i < length t.pairs → (c : Coin) → simulated_round t c i ≡ round t (pretend t i) c i
  pub there_fits : (cs : List Coin) → Coins t r cs → Coins t r (to_simulated t p f cs)
  pub back_fits : (cs : List Coin) → Coins t r cs → Coins t r (from_simulated t p f cs)
  pub back_there : (cs : List Coin) → Coins t r cs → from_simulated t p f (to_simulated t p f cs) ≡ cs
  pub there_back : (cs : List Coin) → Coins t r cs → to_simulated t p f (from_simulated t p f cs) ≡ cs
  pub same : (cs : List Coin) → Coins t r cs → view t p f cs ≡ simulate t f (to_simulated t p f cs)

-- Of any plan that fits, any asker sees what is told without a plan.
abbrev pub Simulates : Type 0
Simulates = (t : Task) → Good t → (p : Plan) → T (fits t p) → (f : Asker) (r : ℕ) → Simulated t p f r
