-- Three planners of a task that has a plan, computed: along which ways to ask a plan is read off their answers. Assumes nothing.
use Rattle.std.specs.Prelude.{◌≡◌, ℕ, ◌+◌, ◌-◌, ◌^◌, true, cond, List, [], ◌∷◌, replicate, ◌==◌}
use Rattle.paths.specs.Plan.{Task, Plan, at, fits}
use Rattle.paths.specs.Show.{pair_at}
use Rattle.paths.specs.Misses.{trio}
use Rattle.paths.specs.Cheat.{asks, count}
use Rattle.tasks.specs.Reading.{word_at}
use Rattle.tasks.specs.Task.{sound}
use Rattle.tasks.specs.Writing.{task_bytes}
use Rattle.boxes.specs.Box.{Opening, boxes_of}
use Rattle.words.specs.Said.{boxes, opened}
use Rattle.words.specs.Reading.{long_at}
use Rattle.words.specs.Writing.{said_bytes}
use Rattle.round.specs.Line.{sent, heard, Other}
use Rattle.soundness.specs.Questioned.{asking_on}
use Rattle.soundness.specs.Sound.{passes}
use Rattle.soundness.specs.Knows.{plan_along, at_hand, blind}
use Rattle.soundness.specs.Examples.{telling, tells}

-- three trains of which no two may share one of three paths
abbrev pub roomy : Task
roomy = record { trains = 3; paths = 3; pairs = trio.pairs }

-- the planner that closes these numbers in round n, and opens what is asked for; and what is read off it in two rounds
module _ (numbers : ℕ → List ℕ) where
  abbrev pub closed : ℕ → List ℕ
  closed n = said_bytes (boxes n (boxes_of tells n 0 (numbers n) (replicate 96 0)))

  abbrev pub shown : ℕ → ℕ → Opening
  shown n j = telling (λ i. at (numbers n)) 0 j

  abbrev pub closes : Other
  closes [] = task_bytes roomy
  closes (heard w ∷ line) = closed 0
  closes (sent w ∷ line) =
      let n = long_at w 1 in
      let p = pair_at roomy (word_at w 5) in
      cond (at w 0 == 4) (said_bytes (opened n (shown n p.a) (shown n p.e))) (closed (n + 1))

  abbrev pub wins : ℕ
  wins = count (λ is. passes (asking_on tells closes roomy 2 is)) (asks 3 2)

  abbrev pub known : ℕ
  known = count (at_hand tells closes roomy 2) (asks 3 2)

  abbrev pub blinds : ℕ
  blinds = count (blind tells closes roomy 2) (asks 3 2)

  abbrev pub read : List ℕ → Plan
  read is = plan_along tells closes roomy 2 is

-- a plan that fits, in another order each round; two trains on one path; and this in round 0 alone, and a plan in round 1
abbrev pub honest : ℕ → List ℕ
honest n = cond (n == 0) (1 ∷ 2 ∷ 0 ∷ []) (0 ∷ 1 ∷ 2 ∷ [])

abbrev pub unknowing : ℕ → List ℕ
unknowing n = 0 ∷ 1 ∷ 0 ∷ []

abbrev pub late : ℕ → List ℕ
late n = cond (n == 0) (0 ∷ 1 ∷ 0 ∷ []) (0 ∷ 1 ∷ 2 ∷ [])

-- Of the nine ways to ask, the first passes in all, and a plan that fits is read off along each. The second passes in four, which is the bound, and none is read
-- off, though there is one. The third passes in six, and along each of them a plan is read off in round 1; along a way that ends in round 0, none is.
pub record ReadOff : Type 0 where
  pub task : sound roomy ≡ true
  pub all : wins honest ≡ 3 ^ 2
  pub along_all : count (λ is. fits roomy (read honest is)) (asks 3 2) ≡ 3 ^ 2
  pub first : read honest (2 ∷ 1 ∷ []) ≡ 1 ∷ 2 ∷ 0 ∷ []
  pub four : wins unknowing ≡ (3 - 1) ^ 2
  pub none : known unknowing ≡ 0
  pub six : wins late ≡ 6
  pub along_six : known late ≡ 6
  pub not_blind : blinds late ≡ 0
  pub second : read late (0 ∷ 1 ∷ []) ≡ 0 ∷ 1 ∷ 2 ∷ []
  pub ended : read late (1 ∷ 0 ∷ []) ≡ []
