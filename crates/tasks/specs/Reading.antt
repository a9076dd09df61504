-- How bytes are read as a task or a plan: unit by unit, to the first fault. A unit is the kind, a field of the head, a pair, or a path. Assumes nothing.
use Rattle.std.specs.Prelude.{◌≡◌, ℕ, zero, suc, ◌+◌, ◌*◌, ◌<◌, Bool, cond, ◌⊎◌, List, [], ◌∷◌, length, take, drop, Ok, Err, Result, ◌==◌, nat_le, nat_lt}
use Rattle.paths.specs.Plan.{Pair, Task, Plan, at}
use Rattle.tasks.specs.declared.fault.Fault.{Fault}
use Rattle.tasks.specs.declared.fault.Fault.TheVariants.{Memory}
use Rattle.tasks.specs.Fault.{number}
use Rattle.tasks.specs.Task.{within, is_there, rises, lowest}

-- what a reader gives: a value, where all is good, or the number of the first fault
pub data Got (A : Type 0) : Type 0 where
  got : A → Got A
  refused : ℕ → Got A

-- a value that says only that all was looked at
abbrev pub Looked : Type 0
Looked = Unit {0}

abbrev pub and_then : {A B : Type 0} → Got A → (A → Got B) → Got B
and_then (got x) next = next x
and_then (refused f) next = refused f

-- the unit that ends at the place `end`: fault 1 where it is not all there, and fault f where it is there and not good
abbrev pub unit : {A : Type 0} → List ℕ → ℕ → Bool → ℕ → Got A → Got A
unit bs end good f next = cond (nat_le end (length bs)) (cond good next (refused f)) (refused 1)

-- after the last unit nothing may stand
abbrev pub ends : List ℕ → Got Looked
ends bs = cond (length bs == 0) (got tt) (refused 1)

-- m units of w bytes, each looked at in view of the last one, and then the end
unfoldable pub read_each : {A : Type 0} → (A → List ℕ → Got A) → ℕ → A → ℕ → List ℕ → Got Looked
read_each one w last zero bs = ends bs
read_each one w last (suc m) bs = and_then (one last bs) (λ x. read_each one w x m (drop w bs))

-- two bytes, high byte first
abbrev pub word_at : List ℕ → ℕ → ℕ
word_at bs i = at bs i * 256 + at bs (i + 1)

-- of more than `most` bytes it tells the same however many are looked at
abbrev pub Sees : {A : Type 0} → ℕ → (List ℕ → Got A) → Type 0
Sees most read = (n : ℕ) → most < n → (bs : List ℕ) → read (take n bs) ≡ read bs

-- Task: 1, n (2), k (1), m (2), pairs (2, 2 each)

pub record Head : Type 0 where
  pub trains : ℕ
  pub paths : ℕ
  pub pairs : ℕ

abbrev pub read_head : List ℕ → Got Head
read_head bs =
    unit bs 1 (at bs 0 == 1) 1 (
    unit bs 3 (within 1 1024 (word_at bs 1)) 2 (
    unit bs 4 (within 1 64 (at bs 3)) 2 (
    unit bs 6 (within 1 4096 (word_at bs 4)) 2 (
    got record { trains = word_at bs 1; paths = at bs 3; pairs = word_at bs 4 }))))

abbrev pub pair_in : List ℕ → Pair
pair_in bs = record { a = word_at bs 0; e = word_at bs 2 }

-- a train that isn't there is told before the order
abbrev pub read_pair : ℕ → Pair → List ℕ → Got Pair
read_pair n last bs = unit bs 4 (is_there n (pair_in bs)) 2 (cond (rises last (pair_in bs)) (got (pair_in bs)) (refused 3))

abbrev pub read_pairs : ℕ → ℕ → List ℕ → Got Looked
read_pairs n m bs = read_each (read_pair n) 4 lowest m bs

-- the pairs that the bytes say
unfoldable pub pairs_from : ℕ → List ℕ → List Pair
pairs_from zero bs = []
pairs_from (suc m) bs = pair_in bs ∷ pairs_from m (drop 4 bs)

abbrev pub task_in : Head → List ℕ → Task
task_in h bs = record { trains = h.trains; paths = h.paths; pairs = pairs_from h.pairs bs }

abbrev pub read_task : List ℕ → Got Task
read_task bs =
    and_then (read_head bs) (λ h. and_then (read_pairs h.trains h.pairs (drop 6 bs)) (λ _. got (task_in h (drop 6 bs))))

-- Plan: 2, n (2), paths (1 each); n is the task's

abbrev pub read_path : ℕ → Looked → List ℕ → Got Looked
read_path k last bs = unit bs 1 (nat_lt (at bs 0) k) 2 (got tt)

abbrev pub read_paths : ℕ → ℕ → List ℕ → Got Looked
read_paths k n bs = read_each (read_path k) 1 tt n bs

abbrev pub read_plan_head : ℕ → List ℕ → Got Looked
read_plan_head n bs = unit bs 1 (at bs 0 == 2) 1 (unit bs 3 (word_at bs 1 == n) 1 (got tt))

abbrev pub read_plan : Task → List ℕ → Got Plan
read_plan t bs =
    and_then (read_plan_head t.trains bs) (λ _. and_then (read_paths t.paths t.trains (drop 3 bs)) (λ _. got (drop 3 bs)))

-- An answer of the code, as what a reader gives
abbrev pub gives : {X A : Type 0} → (X → A) → Result X Fault → Got A
gives view (Ok x) = got (view x)
gives view (Err f) = refused (number f)

abbrev pub looks : Result Looked Fault → Got Looked
looks = gives (λ x. x)

-- The answer is what is given; only where that is a value memory may be wanting
abbrev pub Meets : {X A : Type 0} → (X → A) → Result X Fault → Got A → Type 0
Meets {A} view r g = (gives view r ≡ g) ⊎ ((r ≡ Err Memory) × ((x : A) × (g ≡ got x)))
