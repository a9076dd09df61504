-- Words as bytes, and which words are those of a task. Assumes nothing.
use Rattle.std.specs.Prelude.{ℕ, ◌*◌, ◌/◌, Bool, true, false, cond, ◌&&◌, List, [], ◌∷◌, ◌++◌, length, drop, ◌==◌, nat_le, nat_lt}
use Rattle.paths.specs.Plan.{Task}
use Rattle.tasks.specs.Reading.{Got, got, refused, read_task}
use Rattle.tasks.specs.Writing.{Inverse, word_bytes, plan_bytes, is_plan}
use Rattle.boxes.specs.Box.{Opening}
use Rattle.words.specs.Said.{Said, task, plan, boxes, ask, opened, end}
use Rattle.words.specs.Reading.{read_word}

-- four bytes, high byte first
abbrev pub long_bytes : ℕ → List ℕ
long_bytes x = word_bytes (x / 65536) ++ word_bytes x

-- what stands before the digests of n trains in the Boxes of a round
abbrev pub boxes_head : ℕ → ℕ → List ℕ
boxes_head r n = (3 ∷ long_bytes r) ++ word_bytes n

abbrev pub opening_bytes : Opening → List ℕ
opening_bytes o = word_bytes o.train ++ (o.number ∷ o.chance)

abbrev pub said_bytes : Said → List ℕ
said_bytes (task bs) = bs
said_bytes (plan p) = plan_bytes p
said_bytes (boxes r ds) = (3 ∷ long_bytes r) ++ (word_bytes (length ds / 32) ++ ds)
said_bytes (ask r i) = (4 ∷ long_bytes r) ++ word_bytes i
said_bytes (opened r x y) = (5 ∷ long_bytes r) ++ (opening_bytes x ++ opening_bytes y)
said_bytes (end r content) = (6 ∷ long_bytes r) ++ (cond content 1 0 ∷ [])

abbrev pub is_got : {A : Type 0} → Got A → Bool
is_got (got x) = true
is_got (refused f) = false

abbrev pub is_round : ℕ → Bool
is_round r = nat_lt r 4294967296

abbrev pub is_opening : Opening → Bool
is_opening o = nat_lt o.train 65536 && length o.chance == 32

-- the words that can be said in a showing of the task t
abbrev pub is_said : Task → Said → Bool
is_said t (task bs) = is_got (read_task bs)
is_said t (plan p) = is_plan t p
is_said t (boxes r ds) = is_round r && length ds == 32 * t.trains
is_said t (ask r i) = is_round r && nat_lt i 65536
is_said t (opened r x y) = is_round r && (is_opening x && is_opening y)
is_said t (end r content) = is_round r

-- what is read is exactly what is written, for all six kinds at once
abbrev pub WordLaw : Task → Type 0
WordLaw t = Inverse (read_word t) said_bytes (is_said t)

-- bytes written to the front of memory that is lent: all of them or, where there is no room, none; and how many
pub data Wrote : Type 0 where
  wrote : ℕ → List ℕ → Wrote
  no_room : List ℕ → Wrote

abbrev pub write : List ℕ → List ℕ → Wrote
write bs out = cond (nat_le (length bs) (length out)) (wrote (length bs) (bs ++ drop (length bs) out)) (no_room out)
