-- How bytes are read as a word, whatever is awaited: by the form of its kind, unit by unit, to the first fault. Assumes nothing.
use Rattle.std.specs.Prelude.{ℕ, ◌+◌, ◌*◌, Bool, true, cond, ◌&&◌, List, length, take, drop, ◌==◌, nat_le}
use Rattle.paths.specs.Plan.{Task, at}
use Rattle.tasks.specs.Reading.{Got, got, refused, and_then, word_at, read_task, read_plan}
use Rattle.boxes.specs.Box.{Opening}
use Rattle.words.specs.Said.{Said, task, plan, boxes, ask, opened, end}

-- four bytes, high byte first
abbrev pub long_at : List ℕ → ℕ → ℕ
long_at bs i = word_at bs i * 65536 + word_at bs (i + 2)

-- a word in which nothing but fault 1 can be told, so that it makes no difference which unit tells it: so many bytes, and good
abbrev pub exactly : ℕ → Bool → Said → List ℕ → Got Said
exactly size good w bs = cond (length bs == size && good) (got w) (refused 1)

-- Task, and Plan: n is the task's
abbrev pub read_task_word : List ℕ → Got Said
read_task_word bs = and_then (read_task bs) (λ _. got (task bs))

abbrev pub read_plan_word : Task → List ℕ → Got Said
read_plan_word t bs = and_then (read_plan t bs) (λ p. got (plan p))

-- Boxes: 3, round (4), n (2), digests (32 each); n is the task's
abbrev pub read_boxes : ℕ → List ℕ → Got Said
read_boxes n bs = exactly (7 + 32 * n) (word_at bs 5 == n) (boxes (long_at bs 1) (drop 7 bs)) bs

-- Ask: 4, round (4), pair (2)
abbrev pub read_ask : List ℕ → Got Said
read_ask bs = exactly 7 true (ask (long_at bs 1) (word_at bs 5)) bs

-- Opened: 5, round (4), two openings: train (2), number (1), chance (32)
abbrev pub opening_at : List ℕ → ℕ → Opening
opening_at bs i = record { train = word_at bs i; number = at bs (i + 2); chance = take 32 (drop (i + 3) bs) }

abbrev pub read_opened : List ℕ → Got Said
read_opened bs = exactly 75 true (opened (long_at bs 1) (opening_at bs 5) (opening_at bs 40)) bs

-- End: 6, round (4), 1 content or 0 not
abbrev pub read_end : List ℕ → Got Said
read_end bs = exactly 6 (nat_le (at bs 5) 1) (end (long_at bs 1) (at bs 5 == 1)) bs

-- any word of a showing of the task t; where there is no kind it counts as 0, which is unknown
abbrev pub read_word : Task → List ℕ → Got Said
read_word t bs =
    let kind = at bs 0 in
    cond (kind == 1) (read_task_word bs) (
    cond (kind == 2) (read_plan_word t bs) (
    cond (kind == 3) (read_boxes t.trains bs) (
    cond (kind == 4) (read_ask bs) (
    cond (kind == 5) (read_opened bs) (
    cond (kind == 6) (read_end bs) (
    refused 1))))))
