-- The worked cases: one table of what is computed by the definitions and what is expected, and of what is claimed of them. H is any function in the place of SHA-256.
-- Assumes nothing.
use Rattle.std.specs.Prelude.{◌≡◌, ℕ, ◌*◌, ◌<◌, ◌≤◌, true, false, cond, T, ◌≢◌, ◌⊎◌, List, [], ◌∷◌, map, length, replicate}
use Rattle.paths.specs.Plan.{Task, Plan, at, fits}
use Rattle.paths.specs.Show.{Shown}
use Rattle.paths.specs.Cheat as cheat
use Rattle.paths.specs.Cheat.{Cheat, lucky, count}
use Rattle.paths.specs.Misses.{trio}
use Rattle.paths.specs.Pairing.{pair_coin}
use Rattle.tasks.specs.Reading.{Got, Looked, got, refused}
use Rattle.tasks.specs.Rounds.{asked_rounds}
use Rattle.tasks.specs.Writing.{task_bytes}
use Rattle.sha256.specs.Sha256.{sha256}
use Rattle.boxes.specs.Box.{Opening}
use Rattle.boxes.specs.Binding.{collides, texts_of}
use Rattle.book.specs.Chain.{Sized, next_digest}
use Rattle.book.specs.Lengths.{round_text}
use Rattle.lots.specs.Lots.{Lot}
use Rattle.words.specs.Said.{Said, task, plan, boxes, ask, opened, end}
use Rattle.words.specs.Writing.{said_bytes}
use Rattle.round.specs.Line.{Other}
use Rattle.round.specs.Over.{fault, task_fault, out}
use Rattle.round.specs.Round.{held, part_of, boxes_for, opening_for, opened_for, content_with, test_opened}
use Rattle.planning.specs.Planning as planning
use Rattle.asking.specs.Asking as asking
use Rattle.asking.specs.Asking.{Asked, test, settle}
use Rattle.soundness.specs.Questioned.{asking_on}
use Rattle.soundness.specs.Sound.{passes}
use Rattle.soundness.specs.Texts.{find}
use Rattle.soundness.specs.Examples as example
use Rattle.soundness.specs.Examples.{tells, mixes, as_closed}

-- what is computed, and what is expected; or a claim
pub data Case : Type 1 where
  gives : {A : Type 0} → A → A → Case
  claims : Type 0 → Case

abbrev pub Holds : Case → Type 0
Holds (gives x y) = x ≡ y
Holds (claims P) = P

unfoldable pub AllHold : List Case → Type 0
AllHold [] = Unit {0}
AllHold (x ∷ xs) = Holds x × AllHold xs

-- three trains, of which no two may share a path, and three paths; `trio` has two paths
abbrev pub three : Task
three = record { trains = 3; paths = 3; pairs = trio.pairs }

-- two trains that may not share the one path
abbrev pub two : Task
two = record { trains = 2; paths = 1; pairs = record { a = 0; e = 1 } ∷ [] }

-- the trains and numbers that an Opened shows
abbrev pub shows : Said → List ℕ
shows (opened r x y) = x.train ∷ x.number ∷ y.train ∷ y.number ∷ []
shows (task bs) = []
shows (plan p) = []
shows (boxes r ds) = []
shows (ask r i) = []
shows (end r c) = []

-- for each pair, 1 where the numbers in these boxes content the asker, else 0
abbrev pub passing : Task → List ℕ → List ℕ
passing t b = map (λ x. cond (content_with t.paths (at b x.a) (at b x.e)) 1 0) t.pairs

abbrev pub NoPlan : Task → Type 0
NoPlan t = (p : Plan) → T (fits t p) → ⊥

-- a cheating planner, with a number for each train
abbrev pub Cheats : Task → Cheat → Type 0
Cheats t f = (s : List Shown) → length (f s) ≡ t.trains

-- in how many of all ways to ask the asker is content with this planner, by its steps
abbrev pub wins : (List ℕ → List ℕ) → Other → Task → ℕ → ℕ
wins H other t r = count (λ is. passes (asking_on H other t r is)) (cheat.asks (length t.pairs) r)

-- the lot with order 2, 0, 1 and these chances
abbrev pub lot_of : List ℕ → Lot
lot_of chances = record { order = 2 ∷ 0 ∷ 1 ∷ []; chances = chances }

-- Round 0 of `three` with plan 0, 1, 2 and this lot, and pair 0-2 is asked for; in answer comes an opening of train 0 with another chance
module _ (H : List ℕ → List ℕ) (digest chances another : List ℕ) where
  abbrev pub asked : Asked
  asked =
      record {
        drawn = record { ready = record { task = three; rounds = 120; round = 0; digest = digest }; pair = 1 };
        boxes = said_bytes (boxes_for H 0 (0 ∷ 1 ∷ 2 ∷ []) (lot_of chances));
        ask = said_bytes (ask 0 1);
      }

  abbrev pub altered : Opening
  altered = record { train = 0; number = 2; chance = another }

  abbrev pub answer : List ℕ
  answer = said_bytes (opened 0 altered (opening_for (0 ∷ 1 ∷ 2 ∷ []) (lot_of chances) 2))

  -- fault 9, an End that says 0, and the rounds end
  pub record NotOpened : Type 0 where
    pub nine : (test H asked answer).test ≡ refused 9
    pub end0 : (test H asked answer).end ≡ said_bytes (end 0 false)
    pub over : settle H (test H asked answer) ≡
        out record { outcome = fault 9 0; digest = next_digest H digest (round_text asked.boxes asked.ask answer (said_bytes (end 0 false))) }

-- whatever other chance it is, or the texts of the two openings are two texts of one digest
abbrev pub AnotherChance : (List ℕ → List ℕ) → Type 0
AnotherChance H =
    (digest chances another : List ℕ) → length chances ≡ 96 → length another ≡ 32 → another ≢ part_of chances 0 →
    NotOpened H digest chances another ⊎ (collides H (texts_of 0 (altered H digest chances another) (opening_for (0 ∷ 1 ∷ 2 ∷ []) (lot_of chances) 0)) ≡ true)

-- The faults of words that were read whole, a case for each, and of a word to which more than one applies
-- an opening of a train that tells a number
abbrev pub telling : ℕ → ℕ → List ℕ → Opening
telling j n chance = record { train = j; number = n; chance = chance }

-- the test of an Opened that round 0 asked for with pair 0-2
abbrev pub tested : (List ℕ → List ℕ) → List ℕ → Said → Got Looked
tested H digests said = test_opened H three 0 1 digests said

-- before round 0 of 1, with no drawn bytes
abbrev pub planned : planning.Ready
planned = record { task = three; plan = 0 ∷ 1 ∷ 2 ∷ []; rounds = 1; round = 0; digest = [] }

abbrev pub awaiting : asking.Ready
awaiting = record { task = three; rounds = 1; round = 0; digest = [] }

abbrev pub faults : List Case
faults =
    -- 2 for a train that isn't there, though it is another round; 6 for another round; 8 for other trains, or those of the pair exchanged
    claims ((H : List ℕ → List ℕ) (ds c d : List ℕ) → tested H ds (opened 1 (telling 3 0 c) (telling 2 1 d)) ≡ refused 2) ∷
    claims ((H : List ℕ → List ℕ) (ds c d : List ℕ) → tested H ds (opened 1 (telling 0 0 c) (telling 1 1 d)) ≡ refused 6) ∷
    claims ((H : List ℕ → List ℕ) (ds c d : List ℕ) → tested H ds (opened 0 (telling 0 0 c) (telling 1 1 d)) ≡ refused 8) ∷
    claims ((H : List ℕ → List ℕ) (ds c d : List ℕ) → tested H ds (opened 0 (telling 2 0 c) (telling 0 1 d)) ≡ refused 8) ∷
    -- another word is 6
    claims ((H : List ℕ → List ℕ) (ds : List ℕ) → tested H ds (ask 0 1) ≡ refused 6) ∷
    -- 9 where a box isn't opened, though the number is no path's; 10 for a number that is no path's, and for the same twice, where both boxes are opened
    gives (tested tells (replicate 96 0) (opened 0 (telling 0 3 (replicate 32 0)) (telling 2 1 (replicate 32 0)))) (refused 9) ∷
    gives (tested mixes (replicate 96 0) (opened 0 (telling 0 3 (replicate 32 0)) (telling 2 1 (replicate 32 0)))) (refused 10) ∷
    gives (tested mixes (replicate 96 0) (opened 0 (telling 0 1 (replicate 32 0)) (telling 2 1 (replicate 32 0)))) (refused 10) ∷
    gives (tested mixes (replicate 96 0) (opened 0 (telling 0 0 (replicate 32 0)) (telling 2 1 (replicate 32 0)))) (got tt) ∷
    -- an Ask of another round, though the pair isn't there; of a pair that isn't there; an End of another round
    gives (planning.ask_in three 0 (said_bytes (ask 1 3))) (refused 6) ∷
    gives (planning.ask_in three 0 (said_bytes (ask 0 3))) (refused 7) ∷
    gives (planning.end_in three 0 (said_bytes (end 1 true))) (refused 6) ∷
    -- another task
    gives (asking.meet tells record { task = three; rounds = 1 } (task_bytes trio)) (out record { outcome = task_fault 4; digest = tells (task_bytes three) }) ∷
    -- no drawn bytes
    gives (planning.close tells planned []) (out record { outcome = fault 11 0; digest = [] }) ∷
    gives (asking.draw awaiting []) (out record { outcome = fault 11 0; digest = [] }) ∷
    -- one round more than the most
    gives (asked_rounds 16777216) (got 16777216) ∷
    gives (asked_rounds 16777217) (refused 12) ∷
    []

abbrev pub cases : List Case
cases =
    -- plan 0, 1, 2 and order 2, 0, 1: the boxes hold 2, 0, 1, and for pair 0-2 trains 0 and 2 show 2 and 1
    gives (held (0 ∷ 1 ∷ 2 ∷ []) (2 ∷ 0 ∷ 1 ∷ [])) (2 ∷ 0 ∷ 1 ∷ []) ∷
    claims ((chances : List ℕ) → shows (opened_for three 0 (0 ∷ 1 ∷ 2 ∷ []) (lot_of chances) 1) ≡ 0 ∷ 2 ∷ 2 ∷ 1 ∷ []) ∷
    -- plan 1, 2, 0 shows the same with the paired order 1, 2, 0
    gives (pair_coin three (0 ∷ 1 ∷ 2 ∷ []) (1 ∷ 2 ∷ 0 ∷ []) 1 (record { order = 2 ∷ 0 ∷ 1 ∷ []; chances = [] })).order (1 ∷ 2 ∷ 0 ∷ []) ∷
    claims ((chances : List ℕ) → shows (opened_for three 0 (1 ∷ 2 ∷ 0 ∷ []) (record { order = 1 ∷ 2 ∷ 0 ∷ []; chances = chances }) 1) ≡ 0 ∷ 2 ∷ 2 ∷ 1 ∷ []) ∷
    -- two paths: no plan fits, and boxes 0, 1, 0 pass for two of the three pairs
    claims (NoPlan trio) ∷
    gives (passing trio (0 ∷ 1 ∷ 0 ∷ [])) (1 ∷ 0 ∷ 1 ∷ []) ∷
    -- in two rounds they pass in 4 of the 9 ways to ask, and no cheating planner passes in more
    gives (length (cheat.asks 3 2)) 9 ∷
    gives (lucky trio (λ _. 0 ∷ 1 ∷ 0 ∷ []) 2) 4 ∷
    claims ((f : Cheat) → Cheats trio f → lucky trio f 2 ≤ 4) ∷
    -- the same of the asker's steps: the planner that closes these boxes in 4 of the 9, and any planner in no more, or two texts of one digest are at hand
    gives (wins tells (example.cheat tells as_closed) trio 2) 4 ∷
    claims ((H : List ℕ → List ℕ) (other : Other) → (collides H (find H other trio 2) ≡ true) ⊎ (wins H other trio 2 ≤ 4)) ∷
    -- one pair and one path: no plan fits, and no cheating planner passes a round
    claims (NoPlan two) ∷
    claims ((f : Cheat) → Cheats two f → (r : ℕ) → 0 < r → lucky two f r ≡ 0) ∷
    -- the same of the asker's steps: no planner passes in any way to ask, or two texts of one digest are at hand
    claims ((H : List ℕ → List ℕ) (other : Other) (r : ℕ) → 0 < r → (collides H (find H other two r) ≡ true) ⊎ (wins H other two r ≡ 0)) ∷
    -- three pairs: 120 rounds
    gives (40 * length three.pairs) 120 ∷
    -- an opening with another chance, with SHA-256 and with any function to 32 numbers in its place
    claims (AnotherChance sha256) ∷
    claims ((H : List ℕ → List ℕ) → Sized H → AnotherChance H) ∷
    []
