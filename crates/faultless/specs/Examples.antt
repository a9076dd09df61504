-- The asker's runs against five planners, computed, with an H that is quickly computed. Assumes nothing.
use Rattle.std.specs.Prelude.{◌≡◌, ℕ, ◌+◌, true, cond, List, [], ◌∷◌, ◌++◌, reverse, length, take, replicate, None, ◌==◌}
use Rattle.paths.specs.Plan.{at}
use Rattle.paths.specs.Misses.{duo, trio}
use Rattle.tasks.specs.Reading.{refused}
use Rattle.tasks.specs.Task.{sound}
use Rattle.tasks.specs.Writing.{task_bytes}
use Rattle.words.specs.Said.{boxes, opened}
use Rattle.words.specs.Reading.{long_at}
use Rattle.words.specs.Writing.{said_bytes}
use Rattle.round.specs.Over.{content, fault, task_fault}
use Rattle.round.specs.Line.{sent, heard, Other, Ran}
use Rattle.asking.specs.Run.{asking}
use Rattle.judging.specs.Verdict.{content_all, not_handed, Verdict, other_words, judged}
use Rattle.judging.specs.Verdict as told
use Rattle.judging.specs.Judging.{verdict}
use Rattle.faultless.specs.Transcript.{transcript}

-- the last 32 bytes, backwards
abbrev pub last_bytes : List ℕ → List ℕ
last_bytes x = take 32 (reverse x ++ replicate 32 0)

-- the Boxes of round n, and the Opened that shows these numbers: all chances are zeros, and so are all boxes
abbrev pub boxes_word : ℕ → List ℕ
boxes_word n = said_bytes (boxes n (replicate 64 0))

abbrev pub opened_word : ℕ → ℕ → List ℕ
opened_word n y = said_bytes (opened n (record { train = 0; number = 0; chance = replicate 32 0 }) (record { train = 1; number = y; chance = replicate 32 0 }))

-- a planner of two trains that says these words for the Task, and for the Boxes and the Opened of round n
abbrev pub planner_with : List ℕ → (ℕ → List ℕ) → (ℕ → List ℕ) → Other
planner_with first closes opens [] = first
planner_with first closes opens (heard w ∷ line) = closes 0
planner_with first closes opens (sent w ∷ line) = cond (at w 0 == 4) (opens (long_at w 1)) (closes (long_at w 1 + 1))

abbrev pub run_with : List ℕ → (ℕ → List ℕ) → (ℕ → List ℕ) → Ran
run_with first closes opens = asking last_bytes (planner_with first closes opens) duo 2 (replicate 8 0)

-- an asker that is content with a planner; with one that shows the same number twice in round 1; that opens round 0 again; that closes round 0 again; and one that is
-- told another task
abbrev pub pleased : Ran
pleased = run_with (task_bytes duo) boxes_word (λ n. opened_word n 1)

abbrev pub same_twice : Ran
same_twice = run_with (task_bytes duo) boxes_word (λ n. opened_word n (cond (n == 0) 1 0))

abbrev pub opened_again : Ran
opened_again = run_with (task_bytes duo) boxes_word (λ n. opened_word 0 1)

abbrev pub closed_again : Ran
closed_again = run_with (task_bytes duo) (λ n. boxes_word 0) (λ n. opened_word n 1)

abbrev pub misled : Ran
misled = run_with (task_bytes trio) boxes_word (λ n. opened_word n 1)

-- what is told of the words of one run with the digest of another
abbrev pub told_with : Ran → Ran → Verdict
told_with x y = verdict last_bytes duo None [] x.over.digest (transcript duo y)

-- What is told of each run, and of one whose words are brought with the digest of another.
pub record Examples : Type 0 where
  pub task : sound duo ≡ true
  pub all : (pleased.over.outcome ≡ content 2) × (told_with pleased pleased ≡ judged 2 content_all not_handed)
  pub not_all : (same_twice.over.outcome ≡ fault 10 1) × (told_with same_twice same_twice ≡ judged 2 (told.not_content 1 (refused 10)) not_handed)
  pub unopened : (opened_again.over.outcome ≡ fault 6 1) × (told_with opened_again opened_again ≡ judged 2 (told.not_content 1 (refused 1)) not_handed)
  pub unclosed : (closed_again.over.outcome ≡ fault 6 1) × (told_with closed_again closed_again ≡ judged 1 content_all not_handed)
  pub other_task : (misled.over.outcome ≡ task_fault 4) × (told_with misled misled ≡ judged 0 content_all not_handed)
  pub words : (length (transcript duo pleased) ≡ 8) × (length (transcript duo opened_again) ≡ 7) × (length (transcript duo closed_again) ≡ 4)
  pub other : told_with same_twice pleased ≡ other_words
