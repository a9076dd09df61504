-- Soundness of the asker's steps over whole runs, against any planner: a function of all that was on the line, to any bytes. Where no plan fits it passes in few
-- ways to ask, or two texts of one digest are at hand. H is any function in the place of SHA-256. Assumes nothing.
use Rattle.std.specs.Prelude.{◌≡◌, ℕ, ◌+◌, ◌-◌, ◌*◌, ◌^◌, ◌≤◌, Bool, true, false, ◌&&◌, T, ◌⊎◌, List, length}
use Rattle.paths.specs.Plan.{Task, Plan, fits}
use Rattle.paths.specs.Cheat.{asks, count}
use Rattle.tasks.specs.Task.{sound}
use Rattle.boxes.specs.Binding.{collides}
use Rattle.lots.specs.Lots.{question_in, in_turn}
use Rattle.words.specs.Writing.{is_got}
use Rattle.round.specs.Line.{Other, Ran}
use Rattle.round.specs.Over.{Outcome, content, not_content, fault, task_fault}
use Rattle.asking.specs.Run.{asking}
use Rattle.soundness.specs.Questioned.{asking_on, questions_in}
use Rattle.soundness.specs.Texts.{met, find}

abbrev pub is_content : Outcome → Bool
is_content (content r) = true
is_content (not_content n) = false
is_content (fault f n) = false
is_content (task_fault f) = false

-- the planner passes: the asker is content with all rounds
abbrev pub passes : Ran → Bool
passes x = is_content x.over.outcome

-- drawn bytes that suffice for the questions of r rounds
abbrev pub serves : Task → ℕ → List ℕ → Bool
serves t r drawn = is_got (in_turn (question_in t) r drawn)

abbrev pub pairs_of : Task → ℕ
pairs_of t = length t.pairs

abbrev pub NoPlan : Task → Type 0
NoPlan t = (p : Plan) → T (fits t p) → ⊥

-- what is said of each planner, and each task for which no plan fits
abbrev pub Against : ((List ℕ → List ℕ) → Other → Task → Type 0) → Type 0
Against Says = (H : List ℕ → List ℕ) (other : Other) (t : Task) → sound t ≡ true → NoPlan t → Says H other t

-- Of the m ^ r ways to ask, it passes in at most (m - 1) ^ r and in those along which two texts of one digest are at hand, by r times all m questions.
abbrev pub SoundAlong : Type 0
SoundAlong =
    Against (λ H other t. (r : ℕ) →
    count (λ is. passes (asking_on H other t r is)) (asks (pairs_of t) r)
    ≤ (pairs_of t - 1) ^ r + count (λ is. collides H (met H other t r is)) (asks (pairs_of t) r))

-- Two texts of one digest are at hand from all ways to ask, or it passes in at most (m - 1) ^ r of them.
abbrev pub Sound : Type 0
Sound =
    Against (λ H other t. (r : ℕ) →
    (collides H (find H other t r) ≡ true) ⊎ (count (λ is. passes (asking_on H other t r is)) (asks (pairs_of t) r) ≤ (pairs_of t - 1) ^ r))

-- Of all rows of so many bytes, how many make the asker content who draws its questions from them; how many suffice for r rounds, whatever values are passed
-- over and bytes left over; and along how many of these two texts of one digest are at hand
abbrev pub passing : (List ℕ → List ℕ) → Other → Task → ℕ → ℕ → ℕ
passing H other t r size = count (λ drawn. passes (asking H other t r drawn)) (asks 256 size)

abbrev pub serving : Task → ℕ → ℕ → ℕ
serving t r size = count (serves t r) (asks 256 size)

abbrev pub breaking : (List ℕ → List ℕ) → Other → Task → ℕ → ℕ → ℕ
breaking H other t r size = count (λ drawn. serves t r drawn && collides H (met H other t r (questions_in t r drawn))) (asks 256 size)

-- The same as shares of the rows that suffice: passing / serving ≤ ((m - 1) / m) ^ r + breaking / serving.
abbrev pub SoundAlongDrawn : Type 0
SoundAlongDrawn =
    Against (λ H other t. (r size : ℕ) →
    pairs_of t ^ r * passing H other t r size ≤ (pairs_of t - 1) ^ r * serving t r size + pairs_of t ^ r * breaking H other t r size)

abbrev pub SoundDrawn : Type 0
SoundDrawn =
    Against (λ H other t. (r size : ℕ) →
    (collides H (find H other t r) ≡ true) ⊎ (pairs_of t ^ r * passing H other t r size ≤ (pairs_of t - 1) ^ r * serving t r size))

-- it passes in at most one of 2 ^ 40 of the rows that suffice, and in those along which two texts of one digest are at hand
abbrev pub Rare : (List ℕ → List ℕ) → Other → Task → ℕ → Type 0
Rare H other t r = (size : ℕ) → 2 ^ 40 * passing H other t r size ≤ serving t r size + 2 ^ 40 * breaking H other t r size

-- 40 rounds for each pair are enough, since then ((m - 1) / m) ^ r is at most 1 / 2 ^ 40.
abbrev pub SoundAlongEnough : Type 0
SoundAlongEnough = Against (λ H other t. Rare H other t (40 * pairs_of t))

abbrev pub SoundEnough : Type 0
SoundEnough =
    Against (λ H other t. (size : ℕ) →
    let r = 40 * pairs_of t in
    (collides H (find H other t r) ≡ true) ⊎ (2 ^ 40 * passing H other t r size ≤ serving t r size))

-- So many rounds are enough for this task.
abbrev pub EnoughFor : Task → ℕ → Type 0
EnoughFor t r = NoPlan t → (H : List ℕ → List ℕ) (other : Other) → Rare H other t r
