-- Askers who stop, or name a pair that is not there: the planner then shows nothing more. Assumes nothing.
use Rattle.std.specs.Prelude.{◌≡◌, ℕ, cond, T, List, [], ◌∷◌, ◌++◌, length, drop, nat_lt}
use Rattle.paths.specs.Plan.{Task, Good, Plan, fits}
use Rattle.paths.specs.Show.{Coin, Shown, round}
use Rattle.paths.specs.Promise.{Coins}
use Rattle.paths.specs.Pairing.{pair_coins, asked}

-- what an asker does next
pub data Move : Type 0 where
  ask : ℕ → Move
  stop : Move

-- an asker, who chooses by all that was shown so far
abbrev pub Stopper : Type 0
Stopper = List Shown → Move

-- how it ends: after the last round, by the asker's wish, or refused, since there is no pair with this number
pub data Ending : Type 0 where
  complete : Ending
  stopped : Ending
  refused : ℕ → Ending

-- all that is seen: what was shown, and how it ended
pub record Seen : Type 0 where
  pub shown : List Shown
  pub ending : Ending

-- what the planner does then: it shows pair i, or ends
pub data Turn : Type 0 where
  goes : ℕ → Turn
  ends : Ending → Turn

abbrev pub turn : Task → Move → Turn
turn t (ask i) = cond (nat_lt i (length t.pairs)) (goes i) (ends (refused i))
turn t stop = ends stopped

unfoldable pub showing : Task → Plan → Stopper → List Coin → List Shown → Seen
showing t p f [] so_far = record { shown = so_far; ending = complete }
showing t p f (c ∷ cs) so_far = elim (turn t (f so_far)) [ goes i ↦ showing t p f cs (so_far ++ (round t p c i ∷ [])) | ends e ↦ record { shown = so_far; ending = e } ]

abbrev pub seen : Task → Plan → Stopper → List Coin → Seen
seen t p f cs = showing t p f cs []

-- the coins for plan q that go with coins cs for plan p
abbrev pub paired : Task → Plan → Plan → Stopper → List Coin → List Coin
paired t p q f cs = pair_coins t p q (asked (seen t p f cs).shown) cs

-- the same is seen of two plans, endings too, with coins paired off one to one; coins of rounds that were not shown stay
pub record SeenAlike (t : Task) (p q : Plan) (f : Stopper) (r : ℕ) : Type 0 where
  pub there_fits : (cs : List Coin) → Coins t r cs → Coins t r (paired t p q f cs)
  pub back_fits : (cs : List Coin) → Coins t r cs → Coins t r (paired t q p f cs)
  pub back_there : (cs : List Coin) → Coins t r cs → paired t q p f (paired t p q f cs) ≡ cs
  pub there_back : (cs : List Coin) → Coins t r cs → paired t p q f (paired t q p f cs) ≡ cs
  pub same : (cs : List Coin) → Coins t r cs → seen t p f cs ≡ seen t q f (paired t p q f cs)
  pub later : (cs : List Coin) → drop (length (seen t p f cs).shown) (paired t p q f cs) ≡ drop (length (seen t p f cs).shown) cs

-- Of two plans that fit, any asker sees the same, whether it stops, is refused or asks to the end.
abbrev pub StopsAlike : Type 0
StopsAlike = (t : Task) → Good t → (p q : Plan) → T (fits t p) → T (fits t q) → (f : Stopper) (r : ℕ) → SeenAlike t p q f r
