-- What is promised of lots and questions: they are the drawing that the promises of uniformity speak of. Each promise is a type, and a term of it in proofs/ its
-- proof. Assumes nothing.
use Rattle.std.specs.Prelude.{◌≡◌, ℕ, ◌*◌, ◌^◌, ◌<◌, ◌≤◌, T, List, ◌++◌, map, length, drop}
use Rattle.paths.specs.Plan.{Task, all_below}
use Rattle.drawing.specs.Drawing.{and_then, coin_moduli, coin_of, showing_moduli, coins_of, question_moduli}
use Rattle.drawing.specs.Uniform.{IsOrder}
use Rattle.tasks.specs.Reading.{Got, got}
use Rattle.lots.specs.Lots.{drawn, Had, had_by, Lot, lot_in, question_in, coin_of_lot, each_as, in_turn}

-- To draw for one list of moduli after another is to draw for the one, and then for the other from the bytes left over.
abbrev pub BytesInTurn : Type 0
BytesInTurn = (ss ts bs : List ℕ) → drawn (ss ++ ts) bs ≡ and_then (drawn ss bs) (drawn ts)

-- A lot, as a coin, is what is drawn by the moduli of a coin: the same coin with the same bytes left over, or both have too few bytes.
abbrev pub LotsAreCoins : Type 0
LotsAreCoins = (t : Task) (bs : List ℕ) → T (all_below 256 bs) → each_as (coin_of_lot t) (lot_in t bs) ≡ had_by (coin_of t) (drawn (coin_moduli t) bs)

-- So are the lots of r rounds, drawn one after another, what is drawn by the moduli of a whole showing.
abbrev pub LotsInTurn : Type 0
LotsInTurn =
    (t : Task) (r : ℕ) (bs : List ℕ) → T (all_below 256 bs) →
    each_as (map (coin_of_lot t)) (in_turn (lot_in t) r bs) ≡ had_by (coins_of t r) (drawn (showing_moduli t r) bs)

-- And the questions of r rounds are what is drawn by the moduli of all questions.
abbrev pub QuestionsInTurn : Type 0
QuestionsInTurn =
    (t : Task) (r : ℕ) (bs : List ℕ) → in_turn (question_in t) r bs ≡ had_by (λ is. is) (drawn (question_moduli (length t.pairs) r) bs)

-- A lot that was had from these bytes is a lot of the task: an order of its paths, and 32 bytes for each train; left over are the last of the bytes.
pub record LotHad (t : Task) (bs : List ℕ) (h : Had Lot) : Type 0 where
  pub order : IsOrder t.paths h.what.order
  pub chances : length h.what.chances ≡ 32 * t.trains
  pub bytes : T (all_below 256 h.what.chances)
  pub rest : (k : ℕ) × (h.left ≡ drop k bs)

abbrev pub LotsHad : Type 0
LotsHad = (t : Task) → t.paths ≤ 2 ^ 32 → (bs : List ℕ) → T (all_below 256 bs) → (h : Had Lot) → lot_in t bs ≡ got h → LotHad t bs h

-- A question that was had is the number of a pair.
pub record QuestionHad (t : Task) (bs : List ℕ) (h : Had ℕ) : Type 0 where
  pub pair : h.what < length t.pairs
  pub rest : (k : ℕ) × (h.left ≡ drop k bs)

abbrev pub QuestionsHad : Type 0
QuestionsHad =
    (t : Task) → 0 < length t.pairs → length t.pairs ≤ 2 ^ 32 → (bs : List ℕ) (h : Had ℕ) → question_in t bs ≡ got h → QuestionHad t bs h

-- Bytes that follow those that were enough change nothing, and are left over too.
abbrev pub Follows : {A : Type 0} → (List ℕ → Got (Had A)) → Type 0
Follows {A} draws =
    (bs : List ℕ) (h : Had A) → draws bs ≡ got h → (more : List ℕ) → draws (bs ++ more) ≡ got record { what = h.what; left = h.left ++ more }
