-- What is drawn from bytes for a round: the planner's lot (an order of the paths, and the chances of all trains) and the asker's question. Assumes nothing.
use Rattle.std.specs.Prelude.{ℕ, zero, suc, ◌-◌, ◌*◌, ◌/◌, ◌^◌, cond, List, [], ◌∷◌, length, take, drop, nat_le}
use Rattle.paths.specs.Plan.{Task, at}
use Rattle.paths.specs.Show.{Coin}
use Rattle.drawing.specs.Drawing.{Drawn, drew, short, draw, values_of, order_moduli, exchanges, order_of, parts, number_of}
use Rattle.tasks.specs.Reading.{Got, got, refused, and_then}

-- what is drawn from the values of these bytes; left over are the bytes after those of the values that were used or passed over
abbrev pub on_bytes : List ℕ → Drawn → Drawn
on_bytes bs (drew ds left) = drew ds (drop (4 * (length bs / 4 - length left)) bs)
on_bytes bs short = short

-- a number below each of the moduli in turn, from bytes: four for a value
abbrev pub drawn : List ℕ → List ℕ → Drawn
drawn ss bs = on_bytes bs (draw (2 ^ 32) ss (values_of 256 bs))

-- a thing, and the bytes left over
pub record Had (A : Type 0) : Type 0 where
  pub what : A
  pub left : List ℕ

-- the thing that the numbers drawn give; fault 11 where the bytes were too few
abbrev pub had_by : {A : Type 0} → (List ℕ → A) → Drawn → Got (Had A)
had_by read (drew ds left) = got record { what = read ds; left = left }
had_by read short = refused 11

-- a number below s
abbrev pub number_in : ℕ → List ℕ → Got (Had ℕ)
number_in s bs = had_by (λ ds. at ds 0) (drawn (s ∷ []) bs)

-- a row with exchanges drawn from place k - 1 down to place 1; an order of k paths is the row of all paths, exchanged so
abbrev pub exchanged_in : ℕ → List ℕ → List ℕ → Got (Had (List ℕ))
exchanged_in k row bs = had_by (λ js. exchanges js (k - 1) row) (drawn (order_moduli k) bs)

abbrev pub order_in : ℕ → List ℕ → Got (Had (List ℕ))
order_in k bs = had_by (order_of k) (drawn (order_moduli k) bs)

-- what the planner draws for a round: an order of the paths, and the bytes of all chances, 32 for each train
pub record Lot : Type 0 where
  pub order : List ℕ
  pub chances : List ℕ

-- a lot with this order: the next bytes are the chances
abbrev pub chances_in : ℕ → List ℕ → List ℕ → Got (Had Lot)
chances_in n order bs =
    cond (nat_le (32 * n) (length bs)) (got record { what = record { order = order; chances = take (32 * n) bs }; left = drop (32 * n) bs }) (refused 11)

abbrev pub lot_in : Task → List ℕ → Got (Had Lot)
lot_in t bs = and_then (order_in t.paths bs) (λ o. chances_in t.trains o.what o.left)

-- what the asker draws for a round: the number of a pair
abbrev pub question_in : Task → List ℕ → Got (Had ℕ)
question_in t bs = number_in (length t.pairs) bs

-- a lot as a coin: each chance is its 32 bytes as one number, the first byte highest
abbrev pub coin_of_lot : Task → Lot → Coin
coin_of_lot t l = record { order = l.order; chances = parts (number_of 256) 32 t.trains l.chances }

-- something else for the thing that was had
abbrev pub each_as : {A B : Type 0} → (A → B) → Got (Had A) → Got (Had B)
each_as f (got h) = got record { what = f h.what; left = h.left }
each_as f (refused n) = refused n

-- so many things, each drawn from the bytes that the one before left over
unfoldable pub in_turn : {A : Type 0} → (List ℕ → Got (Had A)) → ℕ → List ℕ → Got (Had (List A))
in_turn one zero bs = got record { what = []; left = bs }
in_turn one (suc r) bs = and_then (one bs) (λ h. each_as (λ xs. h.what ∷ xs) (in_turn one r h.left))
