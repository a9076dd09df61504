-- What the words of a round are to be: those that a plan and a lot give, and the test of an Opened. H is any function in the place of SHA-256. Assumes nothing.
use Rattle.std.specs.Prelude.{◌≡◌, ℕ, ◌*◌, ◌<◌, Bool, true, cond, not, ◌&&◌, List, map, length, take, drop, Option, ◌==◌, nat_le, nat_lt}
use Rattle.std.specs.Bool.{then_some}
use Rattle.paths.specs.Plan.{Task, Plan, Good, at, fits}
use Rattle.paths.specs.Show.{pair_at}
use Rattle.drawing.specs.Uniform.{IsOrder}
use Rattle.tasks.specs.Reading.{Got, Looked, got, refused}
use Rattle.boxes.specs.Box.{Opening, boxes_of, opens_box}
use Rattle.lots.specs.Lots.{Lot}
use Rattle.words.specs.Said.{Said, task, plan, boxes, ask, opened, end}
use Rattle.words.specs.Writing.{said_bytes, Wrote, no_room, write}

-- the numbers in the boxes: for each train, what the order gives its path
abbrev pub held : Plan → List ℕ → List ℕ
held p order = map (at order) p

-- the Boxes of round n
abbrev pub boxes_for : (List ℕ → List ℕ) → ℕ → Plan → Lot → Said
boxes_for H n p l = boxes n (boxes_of H n 0 (held p l.order) l.chances)

-- the chance, or the digest, of train i among those of all trains, 32 bytes each
abbrev pub part_of : List ℕ → ℕ → List ℕ
part_of bs i = take 32 (drop (32 * i) bs)

-- what opens the box of train i
abbrev pub opening_for : Plan → Lot → ℕ → Opening
opening_for p l i = record { train = i; number = at l.order (at p i); chance = part_of l.chances i }

-- the Opened of round n for pair i
abbrev pub opened_for : Task → ℕ → Plan → Lot → ℕ → Said
opened_for t n p l i = opened n (opening_for p l (pair_at t i).a) (opening_for p l (pair_at t i).e)

-- the Boxes written to the front of lent memory, where there is a chance for each train
abbrev pub write_boxes : (List ℕ → List ℕ) → ℕ → Plan → Lot → List ℕ → Wrote
write_boxes H n p l out = cond (length l.chances == 32 * length p) (write (said_bytes (boxes_for H n p l)) out) (no_room out)

-- the bytes of the Opened, where the pair is there and each train has its chance
abbrev pub opened_bytes : Task → ℕ → Plan → Lot → ℕ → Option (List ℕ)
opened_bytes t n p l i = then_some (nat_lt i (length t.pairs) && nat_le (32 * t.trains) (length l.chances)) (said_bytes (opened_for t n p l i))

-- does the opening open its train's box, of the digests of round n
abbrev pub opens_in : (List ℕ → List ℕ) → ℕ → List ℕ → Opening → Bool
opens_in H n digests x = opens_box H (part_of digests x.train) n x

-- two numbers that content the asker: of paths that are there, and not the same
abbrev pub content_with : ℕ → ℕ → ℕ → Bool
content_with k v w = nat_lt v k && nat_lt w k && not (v == w)

-- The word in answer to the question for pair i in round n, tested against the digests of its Boxes: of what applies, the lowest number. A word of another
-- kind is not awaited
abbrev pub test_opened : (List ℕ → List ℕ) → Task → ℕ → ℕ → List ℕ → Said → Got Looked
test_opened H t n i digests (opened r x y) =
    cond (nat_lt x.train t.trains && nat_lt y.train t.trains) (
    cond (r == n) (
    cond (x.train == (pair_at t i).a && y.train == (pair_at t i).e) (
    cond (opens_in H n digests x && opens_in H n digests y) (
    cond (content_with t.paths x.number y.number) (got tt)
    (refused 10)) (refused 9)) (refused 8)) (refused 6)) (refused 2)
test_opened H t n i digests (task bs) = refused 6
test_opened H t n i digests (plan p) = refused 6
test_opened H t n i digests (boxes r ds) = refused 6
test_opened H t n i digests (ask r j) = refused 6
test_opened H t n i digests (end r c) = refused 6

-- What a plan that fits and a lot with an order of the paths give is accepted, whichever pair is asked for.
abbrev pub Complete : (List ℕ → List ℕ) → Type 0
Complete H =
    (t : Task) → Good t → (p : Plan) → fits t p ≡ true → (l : Lot) → IsOrder t.paths l.order → (n i : ℕ) → i < length t.pairs →
    test_opened H t n i (boxes_of H n 0 (held p l.order) l.chances) (opened_for t n p l i) ≡ got tt
