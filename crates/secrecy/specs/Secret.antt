-- What is promised of the planner's secrecy: any two plans that fit show the same to an asker that is unaware of digests, with lots paired one to one. H is any function in the place of SHA-256.
-- Assumes nothing.
use Rattle.std.specs.Prelude.{◌≡◌, ℕ, T, List, length}
use Rattle.paths.specs.Plan.{Task, Good, Plan, fits, all_below}
use Rattle.lots.specs.Lots.{Lot}
use Rattle.round.specs.Line.{Other}
use Rattle.secrecy.specs.View.{unaware, view_of}
use Rattle.secrecy.specs.Lots.{show_lots, asked, Lots, pair_lots}
use Rattle.secrecy.specs.Twins.{TwinRuns}

-- the lots for plan q that go with lots for plan p: by the questions that this asker puts in the showing of p with them
abbrev pub paired : (List ℕ → List ℕ) → Other → Task → Plan → Plan → ℕ → List Lot → List Lot
paired H f t p q r ls = pair_lots t p q (asked H (unaware f) t p r ls) ls

-- The showings of plan p with lots, and of plan q with the lots that go with them: an asker that is unaware of digests sees the same, words, faults and ends; all that differs are boxes
-- that stay closed, and in their texts the number. The lots are paired off one to one, none left out.
pub record SameByLots (H : List ℕ → List ℕ) (t : Task) (p q : Plan) (f : Other) (r : ℕ) : Type 0 where
  pub questions : (ls : List Lot) → T (all_below (length t.pairs) (asked H (unaware f) t p r ls))
  pub fitting : (ls : List Lot) → Lots t ls → Lots t (paired H f t p q r ls)
  pub as_many : (ls : List Lot) → length (paired H f t p q r ls) ≡ length ls
  pub back_there : (ls : List Lot) → Lots t ls → paired H f t q p r (paired H f t p q r ls) ≡ ls
  pub there_back : (ls : List Lot) → Lots t ls → paired H f t p q r (paired H f t q p r ls) ≡ ls
  pub same : (ls : List Lot) → view_of (show_lots H (unaware f) t p r ls) ≡ view_of (show_lots H (unaware f) t q r (paired H f t p q r ls))
  pub twins : (ls : List Lot) → let ms = paired H f t p q r ls in TwinRuns H t p q ls ms (show_lots H (unaware f) t p r ls) (show_lots H (unaware f) t q r ms)

-- Of any two plans that fit, such an asker sees the same.
abbrev pub SecretByLots : (List ℕ → List ℕ) → Type 0
SecretByLots H = (t : Task) → Good t → (p q : Plan) → T (fits t p) → T (fits t q) → (f : Other) (r : ℕ) → SameByLots H t p q f r
