-- How far a word is to be read from a stream before it is looked at again: never beyond its end. Assumes nothing.
use Rattle.std.specs.Prelude.{◌≡◌, ℕ, ◌+◌, ◌*◌, ◌<◌, ◌≤◌, Bool, true, cond, List, ◌++◌, length, take, ◌==◌, nat_lt}
use Rattle.paths.specs.Plan.{Task, at}
use Rattle.tasks.specs.Reading.{Got, Head, got, refused, word_at, read_head}
use Rattle.words.specs.Said.{Said}
use Rattle.words.specs.Reading.{read_word}
use Rattle.words.specs.Writing.{said_bytes, is_said}

-- the end of the field of a task's head that is not all there: of n, of k, or of m
abbrev pub field_end : ℕ → ℕ
field_end there = cond (nat_lt there 3) 3 (cond (nat_lt there 4) 4 6)

-- Task: a head that is read says how many pairs follow, one that is cut wants its next field, and one that is bad wants nothing
abbrev pub behind_head : ℕ → Got Head → ℕ
behind_head there (got h) = 6 + 4 * h.pairs
behind_head there (refused f) = cond (f == 1) (field_end there) there

-- Plan and Boxes: the head, and then to the end of the word if its n is the task's
abbrev pub behind_count : ℕ → ℕ → Bool → ℕ → ℕ
behind_count there head good end = cond (nat_lt there head) head (cond good end there)

-- where there is no kind it counts as 0; of an unknown kind nothing is wanted but the kind
abbrev pub next_stop : Task → List ℕ → ℕ
next_stop t bs =
    let kind = at bs 0 in
    let there = length bs in
    cond (kind == 1) (behind_head there (read_head bs)) (
    cond (kind == 2) (behind_count there 3 (word_at bs 1 == t.trains) (3 + t.trains)) (
    cond (kind == 3) (behind_count there 7 (word_at bs 5 == t.trains) (7 + 32 * t.trains)) (
    cond (kind == 4) 7 (
    cond (kind == 5) 75 (
    cond (kind == 6) 6
    1)))))

-- What stopping there gives. Of a good word that is not all there more is wanted, but no byte beyond its end, and of one that is all there nothing more. Where
-- nothing more is wanted of bytes that are refused, whatever could follow them is refused alike. And no word is longer than 32775 bytes.
pub record Stops (t : Task) : Type 0 where
  pub cut : (w : Said) → is_said t w ≡ true → (j : ℕ) → j < length (said_bytes w) → (j < next_stop t (take j (said_bytes w))) × (next_stop t (take j (said_bytes w)) ≤ length (said_bytes w))
  pub whole : (w : Said) → is_said t w ≡ true → next_stop t (said_bytes w) ≡ length (said_bytes w)
  pub settled : (bs more : List ℕ) (f : ℕ) → next_stop t bs ≤ length bs → read_word t bs ≡ refused f → read_word t (bs ++ more) ≡ refused f
  pub few : (bs : List ℕ) → length bs ≤ 32775 → next_stop t bs ≤ 32775
