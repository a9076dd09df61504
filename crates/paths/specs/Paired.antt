-- What is promised of the pairing of coins. Each promise is a type, and a term of it in proofs/ its proof. Assumes nothing.
use Rattle.std.specs.Prelude.{◌≡◌, ℕ, ◌<◌, ◌≤◌, not, ◌&&◌, T, ◌≢◌, List, map, length, filter, ◌==◌, slice_index, slice_index_or}
use Rattle.paths.specs.Plan.{Task, Good, Plan, at, fits, all_below}
use Rattle.paths.specs.Show.{Coin, Asker, pair_at, view}
use Rattle.paths.specs.Cheat.{up_to}
use Rattle.paths.specs.Promise.{IsCoin, Coins, Alike}
use Rattle.paths.specs.Pairing.{beta_at, pair_coin, pair_coins, asked}

-- a path other than those that the plan gives the two trains of pair i
abbrev pub Other : Task → Plan → ℕ → ℕ → Type 0
Other t p i x = (x ≢ at p (pair_at t i).a) × (x ≢ at p (pair_at t i).e)

-- all of these, in rising order
abbrev pub others : Task → Plan → ℕ → List ℕ
others t p i = filter (λ x. not (x == at p (pair_at t i).a) && not (x == at p (pair_at t i).e)) (up_to t.paths)

-- the paired order has at path x what the order has at beta_at x, the only map that takes the two asked paths to the two asked paths and the row of the others to the row of
-- the others; with the plans exchanged it is its own inverse
pub record PairedCoin (t : Task) (p q : Plan) (i : ℕ) : Type 0 where
  pub order_is : (c : Coin) (x : ℕ) → x < t.paths → at (pair_coin t p q i c).order x ≡ at c.order (beta_at t p q i x)
  pub first : beta_at t p q i (at q (pair_at t i).a) ≡ at p (pair_at t i).a
  pub second : beta_at t p q i (at q (pair_at t i).e) ≡ at p (pair_at t i).e
  pub other : (x : ℕ) → Other t q i x → Other t p i (beta_at t p q i x)
  pub matched : map (beta_at t p q i) (others t q i) ≡ others t p i
  pub only : (g : ℕ → ℕ) → g (at q (pair_at t i).a) ≡ at p (pair_at t i).a → g (at q (pair_at t i).e) ≡ at p (pair_at t i).e → map g (others t q i) ≡ others t p i → (x : ℕ) → x < t.paths → g x ≡ beta_at t p q i x
  pub rising : (x y : ℕ) → Other t q i x → Other t q i y → x < y → beta_at t p q i x < beta_at t p q i y
  pub inside : (x : ℕ) → x < t.paths → beta_at t p q i x < t.paths
  pub inverse : (x : ℕ) → beta_at t q p i (beta_at t p q i x) ≡ x
  pub first_order : (c : Coin) → at (pair_coin t p q i c).order (at q (pair_at t i).a) ≡ at c.order (at p (pair_at t i).a)
  pub second_order : (c : Coin) → at (pair_coin t p q i c).order (at q (pair_at t i).e) ≡ at c.order (at p (pair_at t i).e)
  pub chances_stay : (c : Coin) → (pair_coin t p q i c).chances ≡ c.chances
  pub is_coin : (c : Coin) → IsCoin t c → IsCoin t (pair_coin t p q i c)
  pub back : (c : Coin) → IsCoin t c → pair_coin t q p i (pair_coin t p q i c) ≡ c

abbrev pub PairsCoin : Type 0
PairsCoin = (t : Task) → Good t → (p q : Plan) → T (fits t p) → T (fits t q) → (i : ℕ) → i < length t.pairs → PairedCoin t p q i

-- the paired coin of a round depends on the question and the coin of that round alone, and stays where nothing is asked for
pub record PairedCoins (t : Task) (p q : Plan) (is : List ℕ) (cs : List Coin) : Type 0 where
  pub as_many : length (pair_coins t p q is cs) ≡ length cs
  pub each : (n : ℕ) (d : Coin) → n < length is → n < length cs → slice_index_or (pair_coins t p q is cs) n d ≡ pair_coin t p q (slice_index is n) (slice_index_or cs n d)
  pub rest : (n : ℕ) (d : Coin) → length is ≤ n → slice_index_or (pair_coins t p q is cs) n d ≡ slice_index_or cs n d

abbrev pub PairsEach : Type 0
PairsEach = (t : Task) (p q : Plan) (is : List ℕ) (cs : List Coin) → PairedCoins t p q is cs

-- whatever is asked for, pairing there and back gives the same coins
abbrev pub PairsBack : Type 0
PairsBack =
    (t : Task) → Good t → (p q : Plan) → T (fits t p) → T (fits t q) → (is : List ℕ) → T (all_below (length t.pairs) is) → (r : ℕ) (cs : List Coin) → Coins t r cs →
    Coins t r (pair_coins t p q is cs) × (pair_coins t q p is (pair_coins t p q is cs) ≡ cs)

-- Alike, with just this pairing there and back
pub record AlikeBy (t : Task) (p q : Plan) (f : Asker) (r : ℕ) : Type 0 where
  pub alike : Alike t p q f r
  pub there_is : (cs : List Coin) → alike.there cs ≡ pair_coins t p q (asked (view t p f cs)) cs
  pub back_is : (cs : List Coin) → alike.back cs ≡ pair_coins t q p (asked (view t q f cs)) cs

-- Of two plans that fit, any asker sees the same with coins paired so.
abbrev pub PairsAlike : Type 0
PairsAlike = (t : Task) → Good t → (p q : Plan) → T (fits t p) → T (fits t q) → (f : Asker) (r : ℕ) → AlikeBy t p q f r
