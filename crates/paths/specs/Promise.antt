-- What is promised of rounds with boxes as terms, whole and in parts. Each promise is a type, and a term of it in proofs/ its proof. Assumes nothing.
use Rattle.std.specs.Prelude.{◌≡◌, ℕ, ◌-◌, ◌^◌, ◌<◌, ◌≤◌, T, List, length}
use mathlib.Core.List.{Memᴰ}
use Rattle.paths.specs.Plan.{Task, Good, Plan, fits, different, all_below}
use Rattle.paths.specs.Show.{Coin, Asker, Shown, view, all_content, content}
use Rattle.paths.specs.Cheat.{Cheat, lucky, shown_by}

-- coins that serve r rounds
abbrev pub IsCoin : Task → Coin → Type 0
IsCoin t c = (length c.order ≡ t.paths) × T (different c.order) × T (all_below t.paths c.order) × (length c.chances ≡ t.trains) × T (all_below (2 ^ 256) c.chances)

abbrev pub Coins : Task → ℕ → List Coin → Type 0
Coins t r cs = (length cs ≡ r) × ((c : Coin) → Memᴰ c cs → IsCoin t c)

-- A planner whose plan fits passes every round, whatever is asked.
abbrev pub Passes : Type 0
Passes = (t : Task) → Good t → (p : Plan) → T (fits t p) → (f : Asker) (r : ℕ) (cs : List Coin) → Coins t r cs → T (all_content t (view t p f cs))

-- Boxes that would pass for every pair hold a plan that fits.
abbrev pub Reads : Type 0
Reads =
    (t : Task) → Good t → (b : List ℕ) → length b ≡ t.trains → T (all_below t.paths b) → ((i : ℕ) → i < length t.pairs → T (content t (shown_by t b i))) → T (fits t b)

-- Where no plan fits, a cheating planner is lucky in at most so many of all ways to ask.
abbrev pub Caught : Type 0
Caught =
    (t : Task) → Good t → ((p : Plan) → T (fits t p) → ⊥) → (f : Cheat) → ((s : List Shown) → length (f s) ≡ t.trains) → (r : ℕ) →
    lucky t f r ≤ (length t.pairs - 1) ^ r

-- the asker sees the same of two plans, with coins paired off one to one
pub record Alike (t : Task) (p q : Plan) (f : Asker) (r : ℕ) : Type 0 where
  pub there : List Coin → List Coin
  pub back : List Coin → List Coin
  pub there_fits : (cs : List Coin) → Coins t r cs → Coins t r (there cs)
  pub back_fits : (cs : List Coin) → Coins t r cs → Coins t r (back cs)
  pub back_there : (cs : List Coin) → Coins t r cs → back (there cs) ≡ cs
  pub there_back : (cs : List Coin) → Coins t r cs → there (back cs) ≡ cs
  pub same : (cs : List Coin) → Coins t r cs → view t p f cs ≡ view t q f (there cs)

-- The main promise. A plan that fits passes whatever is asked; whatever is shown, by however clever asking over however many rounds, would be shown as often
-- for any other plan that fits; and where none fits, a cheating planner is lucky in at most (pairs - 1)^r of the pairs^r ways to ask.
pub record Whole (t : Task) : Type 0 where
  pub passes_all : (p : Plan) → T (fits t p) → (f : Asker) (r : ℕ) (cs : List Coin) → Coins t r cs → T (all_content t (view t p f cs))
  pub alike : (p q : Plan) → T (fits t p) → T (fits t q) → (f : Asker) (r : ℕ) → Alike t p q f r
  pub caught : ((p : Plan) → T (fits t p) → ⊥) → (f : Cheat) → ((s : List Shown) → length (f s) ≡ t.trains) → (r : ℕ) →
      lucky t f r ≤ (length t.pairs - 1) ^ r

abbrev pub Main : Type 0
Main = (t : Task) → Good t → Whole t
