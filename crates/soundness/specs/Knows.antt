-- Who passes knows: a plan that fits, computed from the planner's own answers. All this is said of every task, whether a plan fits it or none does. H is any
-- function in the place of SHA-256. Assumes nothing.
use Rattle.std.specs.Prelude.{◌≡◌, ℕ, ◌+◌, ◌-◌, ◌*◌, ◌^◌, ◌≤◌, Bool, true, cond, not, ◌&&◌, ◌||◌, List, [], ◌∷◌, map, length, nat_eq}
use Rattle.paths.specs.Plan.{Task, Plan, fits}
use Rattle.paths.specs.Cheat.{asks, count, up_to}
use Rattle.tasks.specs.Task.{sound}
use Rattle.boxes.specs.Box.{Opening}
use Rattle.boxes.specs.Binding.{collides}
use Rattle.round.specs.Line.{Event, heard, Other}
use Rattle.round.specs.Over.{Leads, on, out}
use Rattle.asking.specs.Asking.{Ready, meet}
use Rattle.asking.specs.Run.{boxed, asking}
use Rattle.soundness.specs.Questioned.{asking_on, questions_in}
use Rattle.soundness.specs.Texts.{openings, points, met}
use Rattle.soundness.specs.Sound.{passes, serves, pairs_of, passing, serving}

-- the number that the first opening of train j tells; 0 where there is none
unfoldable pub number_of : ℕ → List Opening → ℕ
number_of j [] = 0
number_of j (x ∷ xs) = cond (nat_eq x.train j) x.number (number_of j xs)

-- the first plan that fits; where none does, the empty one, which fits no task that has a train
unfoldable pub first_fit : Task → List Plan → Plan
first_fit t [] = []
first_fit t (p ∷ ps) = cond (fits t p) p (first_fit t ps)

module _ (H : List ℕ → List ℕ) (other : Other) where
  -- at one point of the line: each train's number, by the openings that are accepted there, over all questions
  abbrev pub plan_at : Ready → List Event → Plan
  plan_at s line = map (λ j. number_of j (openings H other s line (length s.task.pairs))) (up_to s.task.trains)

  -- at each point of the run over these questions
  unfoldable pub plans_along : List ℕ → Leads Ready → List Event → List Plan
  plans_along [] lead line = []
  plans_along (i ∷ is) (out o) line = []
  plans_along (i ∷ is) (on s) line = let g = boxed H other line record { ready = s; pair = i } in plan_at s line ∷ plans_along is g.to g.line

  -- the plan from one row of questions
  abbrev pub plan_along : Task → ℕ → List ℕ → Plan
  plan_along t r is = let word = other [] in first_fit t (plans_along is (meet H record { task = t; rounds = r } word) (heard word ∷ []))

  -- two texts of one digest are at hand along this row, or a plan that fits
  abbrev pub at_hand : Task → ℕ → List ℕ → Bool
  at_hand t r is = collides H (met H other t r is) || fits t (plan_along t r is)

  -- it passes, and neither is at hand
  abbrev pub blind : Task → ℕ → List ℕ → Bool
  blind t r is = passes (asking_on H other t r is) && not (at_hand t r is)

  -- There is one plan for each point at which questions are put for the texts, and it is computed from the same answers.
  abbrev pub OneEach : Type 0
  OneEach = (is : List ℕ) (lead : Leads Ready) (line : List Event) → length (plans_along is lead line) ≡ points H other is lead line

-- Of the m ^ r ways to ask, it passes in at most (m - 1) ^ r with neither at hand along that way; so in no more than these, and those along which one is at hand.
pub record OfWays (H : List ℕ → List ℕ) (other : Other) (t : Task) (r : ℕ) : Type 0 where
  pub blind : count (blind H other t r) (asks (pairs_of t) r) ≤ (pairs_of t - 1) ^ r
  pub knows : count (λ is. passes (asking_on H other t r is)) (asks (pairs_of t) r) ≤ (pairs_of t - 1) ^ r + count (at_hand H other t r) (asks (pairs_of t) r)

-- Of all rows of so many bytes, how many make the asker content who draws its questions from them, with neither at hand; and along how many of those that
-- suffice for r rounds one is at hand
abbrev pub blindly : (List ℕ → List ℕ) → Other → Task → ℕ → ℕ → ℕ
blindly H other t r size = count (λ drawn. passes (asking H other t r drawn) && not (at_hand H other t r (questions_in t r drawn))) (asks 256 size)

abbrev pub knowing : (List ℕ → List ℕ) → Other → Task → ℕ → ℕ → ℕ
knowing H other t r size = count (λ drawn. serves t r drawn && at_hand H other t r (questions_in t r drawn)) (asks 256 size)

-- The same as shares of the rows that suffice: blindly / serving ≤ ((m - 1) / m) ^ r, and passing / serving ≤ ((m - 1) / m) ^ r + knowing / serving.
pub record OfDrawn (H : List ℕ → List ℕ) (other : Other) (t : Task) (r : ℕ) : Type 0 where
  pub blind : (size : ℕ) → pairs_of t ^ r * blindly H other t r size ≤ (pairs_of t - 1) ^ r * serving t r size
  pub knows : (size : ℕ) → pairs_of t ^ r * passing H other t r size ≤ (pairs_of t - 1) ^ r * serving t r size + pairs_of t ^ r * knowing H other t r size

-- and with 1 / 2 ^ 40 in the place of ((m - 1) / m) ^ r
pub record RarelyBlind (H : List ℕ → List ℕ) (other : Other) (t : Task) (r : ℕ) : Type 0 where
  pub blind : (size : ℕ) → 2 ^ 40 * blindly H other t r size ≤ serving t r size
  pub knows : (size : ℕ) → 2 ^ 40 * passing H other t r size ≤ serving t r size + 2 ^ 40 * knowing H other t r size

-- what is said of each planner and each task
abbrev pub Whoever : ((List ℕ → List ℕ) → Other → Task → Type 0) → Type 0
Whoever Says = (H : List ℕ → List ℕ) (other : Other) (t : Task) → sound t ≡ true → Says H other t

abbrev pub KnowsAlong : Type 0
KnowsAlong = Whoever (λ H other t. (r : ℕ) → OfWays H other t r)

abbrev pub KnowsAlongDrawn : Type 0
KnowsAlongDrawn = Whoever (λ H other t. (r : ℕ) → OfDrawn H other t r)

-- 40 rounds for each pair are enough.
abbrev pub KnowsEnough : Type 0
KnowsEnough = Whoever (λ H other t. RarelyBlind H other t (40 * pairs_of t))

-- So many rounds are enough for this task.
abbrev pub KnowsFor : Task → ℕ → Type 0
KnowsFor t r = (H : List ℕ → List ℕ) (other : Other) → RarelyBlind H other t r
