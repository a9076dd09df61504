-- The lengths of the texts that are hashed: they tell box texts, task texts and the two kinds of round texts apart. Assumes nothing.
use Rattle.std.specs.Prelude.{◌≡◌, ℕ, ◌+◌, ◌*◌, ◌≤◌, ◌⊎◌, List, ◌++◌, length}

-- what a text is hashed for: a box, a task, a round with an Opened, or a last round without one
pub data Use : Type 0 where
  for_box : Use
  for_task : Use
  for_whole : Use
  for_short : Use

-- a task of n pairs, or a round with n trains, which follows the digest before it
abbrev pub bytes_for : Use → ℕ → ℕ
bytes_for for_box n = 39
bytes_for for_task n = 6 + 4 * n
bytes_for for_whole n = 32 + (95 + 32 * n)
bytes_for for_short n = 32 + (20 + 32 * n)

abbrev pub TextFor : Use → List ℕ → Type 0
TextFor u x = (n : ℕ) × (1 ≤ n) × (length x ≡ bytes_for u n)

-- No text for one use is a text for another.
abbrev pub Apart : Type 0
Apart = (x : List ℕ) (u v : Use) → TextFor u x → TextFor v x → u ≡ v

abbrev pub TaskText : List ℕ → Type 0
TaskText = TextFor for_task

-- the words of a round with some trains, one after the other
abbrev pub RoundText : List ℕ → Type 0
RoundText w = (n : ℕ) × (1 ≤ n) × ((length w ≡ 95 + 32 * n) ⊎ (length w ≡ 20 + 32 * n))

abbrev pub round_text : List ℕ → List ℕ → List ℕ → List ℕ → List ℕ
round_text boxes ask opened end = boxes ++ ask ++ opened ++ end

-- Boxes, Ask, Opened and End of their lengths make the text of a round; the Opened may be wanting.
abbrev pub RoundLong : Type 0
RoundLong =
    (n : ℕ) (boxes ask opened end : List ℕ) → 1 ≤ n → length boxes ≡ 7 + 32 * n → length ask ≡ 7 → (length opened ≡ 75) ⊎ (length opened ≡ 0) →
    length end ≡ 6 → RoundText (round_text boxes ask opened end)
