-- The planner's run with lots in the place of the drawn bytes that give them, and the pairing of lots for two plans. H is any function in the place of SHA-256.
-- Assumes nothing.
use Rattle.std.specs.Prelude.{◌≡◌, ℕ, zero, suc, ◌*◌, ◌<◌, T, List, [], ◌∷◌, map, length}
use Rattle.paths.specs.Plan.{Task, Plan, all_below}
use Rattle.paths.specs.Pairing.{pair_coin, by_question, pair_coins}
use Rattle.drawing.specs.Uniform.{IsOrder}
use Rattle.tasks.specs.Reading.{Got, got, refused}
use Rattle.lots.specs.Lots.{Had, Lot, lot_in, coin_of_lot, in_turn}
use Rattle.words.specs.Writing.{said_bytes}
use Rattle.round.specs.Round.{boxes_for}
use Rattle.round.specs.Line.{Event, sent, heard, Other, Ran}
use Rattle.round.specs.Over.{Leads, on, out}
use Rattle.planning.specs.Planning.{Ready, Closed, stops, begin, ask_in, answer, hear, settle}
use Rattle.planning.specs.Run.{Gone, and_on, sending, showing}

-- the state once the boxes of a round with this lot are closed
abbrev pub close_lot : (List ℕ → List ℕ) → Ready → Lot → Closed
close_lot H s l = record { ready = s; lot = l; boxes = said_bytes (boxes_for H s.round s.plan l) }

-- the rest of the round
abbrev pub open_lot : (List ℕ → List ℕ) → Other → Closed → List Event → Gone
open_lot H other c line =
    sending (answer c (other line)) (λ o. o.opened) (heard (other line) ∷ line) (λ o line.
    record { to = and_on (hear o (other line)) (settle H); line = heard (other line) ∷ line })

abbrev pub one_lot : (List ℕ → List ℕ) → Other → Ready → Lot → List Event → Gone
one_lot H other s l line = let c = close_lot H s l in open_lot H other c (sent c.boxes ∷ line)

-- at most so many rounds, each with the next lot, and fault 11 where there is none
unfoldable pub run_lots : (List ℕ → List ℕ) → Other → ℕ → Leads Ready → List Lot → List Event → Ran
run_lots H other zero (out o) ls line = record { line = line; over = o }
run_lots H other zero (on s) ls line = record { line = line; over = stops s 0 }
run_lots H other (suc left) (out o) ls line = record { line = line; over = o }
run_lots H other (suc left) (on s) [] line = record { line = line; over = stops s 11 }
run_lots H other (suc left) (on s) (l ∷ ls) line = let g = one_lot H other s l line in run_lots H other left g.to ls g.line

-- the whole showing of a plan in r rounds
abbrev pub show_lots : (List ℕ → List ℕ) → Other → Task → Plan → ℕ → List Lot → Ran
show_lots H other t p r ls = let b = begin H t p r in run_lots H other r b.next ls (sent b.word ∷ [])

-- a lot that was had, before those that the bytes left over give
abbrev pub and_lots : Got (Had Lot) → (List ℕ → List Lot) → List Lot
and_lots (got h) next = h.what ∷ next h.left
and_lots (refused f) next = []

-- the lots that drawn bytes give, for at most so many rounds: as many as they are enough for
unfoldable pub lots_in : Task → ℕ → List ℕ → List Lot
lots_in t zero bs = []
lots_in t (suc r) bs = and_lots (lot_in t bs) (lots_in t r)

-- The planner's run over drawn bytes is the run over the lots that they give; these are the lots of all r rounds, or fewer.
pub record RunsByLots (t : Task) (r : ℕ) (drawn : List ℕ) : Type 0 where
  pub run : (H : List ℕ → List ℕ) (other : Other) (p : Plan) → showing H other t p r drawn ≡ show_lots H other t p r (lots_in t r drawn)
  pub enough : (h : Had (List Lot)) → in_turn (lot_in t) r drawn ≡ got h → lots_in t r drawn ≡ h.what
  pub fewer : (f : ℕ) → in_turn (lot_in t) r drawn ≡ refused f → length (lots_in t r drawn) < r

abbrev pub ByLots : Type 0
ByLots = (t : Task) (r : ℕ) (drawn : List ℕ) → RunsByLots t r drawn

-- a question that is answered, before those of later rounds; after one that is refused there is none
abbrev pub and_asked : Got ℕ → List ℕ → List ℕ
and_asked (got i) is = i ∷ is
and_asked (refused f) is = []

-- the questions of the run, one for each round in which a pair is opened
unfoldable pub asked_lots : (List ℕ → List ℕ) → Other → ℕ → Leads Ready → List Lot → List Event → List ℕ
asked_lots H other zero s ls line = []
asked_lots H other (suc left) (out o) ls line = []
asked_lots H other (suc left) (on s) [] line = []
asked_lots H other (suc left) (on s) (l ∷ ls) line =
    let g = one_lot H other s l line in
    and_asked (ask_in s.task s.round (other (sent (close_lot H s l).boxes ∷ line))) (asked_lots H other left g.to ls g.line)

abbrev pub asked : (List ℕ → List ℕ) → Other → Task → Plan → ℕ → List Lot → List ℕ
asked H other t p r ls = let b = begin H t p r in asked_lots H other r b.next ls (sent b.word ∷ [])

-- lots of the task: an order of its paths, and 32 bytes for each train
pub record IsLot (t : Task) (l : Lot) : Type 0 where
  pub order : IsOrder t.paths l.order
  pub chances : length l.chances ≡ 32 * t.trains
  pub bytes : T (all_below 256 l.chances)

unfoldable pub Lots : Task → List Lot → Type 0
Lots t [] = Unit {0}
Lots t (l ∷ ls) = IsLot t l × Lots t ls

-- the lot for plan q that goes with lot l for plan p where pair i is asked for: the coin that goes with l as a coin, with the same chances
abbrev pub pair_lot : Task → Plan → Plan → ℕ → Lot → Lot
pair_lot t p q i l = record { order = (pair_coin t p q i (coin_of_lot t l)).order; chances = l.chances }

-- the same round by round, by the question of the round alone; lots of rounds in which no pair was opened stay
abbrev pub pair_lots : Task → Plan → Plan → List ℕ → List Lot → List Lot
pair_lots t p q = by_question (pair_lot t p q)

-- So lots, as coins, are paired as coins are.
abbrev pub PairsAsCoins : Type 0
PairsAsCoins = (t : Task) (p q : Plan) (is : List ℕ) (ls : List Lot) → map (coin_of_lot t) (pair_lots t p q is ls) ≡ pair_coins t p q is (map (coin_of_lot t) ls)
