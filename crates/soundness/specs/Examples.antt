-- Two planners without a plan that fits, computed: the bound is met, and with an H that has collisions at hand the texts are found. Assumes nothing.
use Rattle.std.specs.Prelude.{◌≡◌, ℕ, ◌+◌, ◌-◌, ◌^◌, true, false, cond, T, List, [], ◌∷◌, take, replicate, ◌==◌}
use Rattle.paths.specs.Plan.{Plan, at, fits}
use Rattle.paths.specs.Show.{pair_at}
use Rattle.paths.specs.Misses.{trio}
use Rattle.paths.specs.Cheat.{asks, count}
use Rattle.tasks.specs.Reading.{word_at}
use Rattle.tasks.specs.Task.{sound}
use Rattle.tasks.specs.Writing.{task_bytes}
use Rattle.boxes.specs.Box.{Opening, boxes_of}
use Rattle.boxes.specs.Binding.{collides, texts_of}
use Rattle.words.specs.Said.{boxes, opened}
use Rattle.words.specs.Reading.{long_at}
use Rattle.words.specs.Writing.{said_bytes}
use Rattle.round.specs.Line.{sent, heard, Other}
use Rattle.soundness.specs.Questioned.{asking_on}
use Rattle.soundness.specs.Texts.{met, find}
use Rattle.soundness.specs.Sound.{passes}

-- the number that is told of train j to the question for pair i; all chances are zeros
abbrev pub Told : Type 0
Told = ℕ → ℕ → ℕ

abbrev pub telling : Told → ℕ → ℕ → Opening
telling told i j = record { train = j; number = told i j; chance = replicate 32 0 }

-- a planner of three trains of which no two may share one of two paths: it closes the numbers 0, 1 and 0, and opens what it likes
module _ (H : List ℕ → List ℕ) (told : Told) where
  abbrev pub closed : ℕ → List ℕ
  closed n = said_bytes (boxes n (boxes_of H n 0 (0 ∷ 1 ∷ 0 ∷ []) (replicate 96 0)))

  abbrev pub shown : ℕ → ℕ → List ℕ
  shown n i = said_bytes (opened n (telling told i (pair_at trio i).a) (telling told i (pair_at trio i).e))

  abbrev pub cheat : Other
  cheat [] = task_bytes trio
  cheat (heard w ∷ line) = closed 0
  cheat (sent w ∷ line) = cond (at w 0 == 4) (shown (long_at w 1) (word_at w 5)) (closed (long_at w 1 + 1))

-- what is in the boxes; and what the asker wants to see
abbrev pub as_closed : Told
as_closed i j = at (0 ∷ 1 ∷ 0 ∷ []) j

abbrev pub as_wanted : Told
as_wanted i j = cond (j == (pair_at trio i).a) 0 1

-- tells these texts apart; and none
abbrev pub tells : List ℕ → List ℕ
tells = take 32

abbrev pub mixes : List ℕ → List ℕ
mixes x = replicate 32 0

-- Two rounds, so nine ways to ask. Under an H that tells texts apart, what was closed passes in four, which is the bound, and no texts are found; what the
-- asker wants to see passes in one. Under an H that mixes all texts up, what the asker wants to see passes in all nine, and along each of them two texts are
-- found: along the first, those of the two openings of train 1, for pairs 0 and 2.
pub record Examples : Type 0 where
  pub task : sound trio ≡ true
  pub none : (p : Plan) → T (fits trio p) → ⊥
  pub four : count (λ is. passes (asking_on tells (cheat tells as_closed) trio 2 is)) (asks 3 2) ≡ (3 - 1) ^ 2
  pub clean : collides tells (find tells (cheat tells as_closed) trio 2) ≡ false
  pub one : count (λ is. passes (asking_on tells (cheat tells as_wanted) trio 2 is)) (asks 3 2) ≡ 1
  pub nine : count (λ is. passes (asking_on mixes (cheat mixes as_wanted) trio 2 is)) (asks 3 2) ≡ 3 ^ 2
  pub texts : met mixes (cheat mixes as_wanted) trio 2 (0 ∷ 0 ∷ []) ≡ texts_of 0 (telling as_wanted 0 1) (telling as_wanted 2 1)
  pub along : count (λ is. collides mixes (met mixes (cheat mixes as_wanted) trio 2 is)) (asks 3 2) ≡ 3 ^ 2
