-- What is taken from a stream for one word: bytes that were wanted, and so none that belongs to the next word. Assumes nothing.
use Rattle.std.specs.Prelude.{◌≡◌, ℕ, ◌<◌, ◌≤◌, true, ◌⊎◌, List, [], ◌++◌, length, take, Option, Some}
use Rattle.std.specs.Io.KnownBytes.{Consumes, IsAtEnd}
use Rattle.paths.specs.Plan.{Task}
use Rattle.words.specs.Said.{Said}
use Rattle.words.specs.Writing.{said_bytes, is_said}
use Rattle.words.specs.Stops.{next_stop}

-- each byte stands before the stop that some of the bytes before it told
abbrev pub Wanted : Task → List ℕ → Type 0
Wanted t bs = (j : ℕ) → j < length bs → (i : ℕ) × (i ≤ j) × (j < next_stop t (take i bs))

-- so of a good word, whatever follows it, nothing but the word is taken
abbrev pub OneWord : Task → Type 0
OneWord t = (w : Said) → is_said t w ≡ true → (bs more rest : List ℕ) → Wanted t bs → bs ++ more ≡ said_bytes w ++ rest → length bs ≤ length (said_bytes w)

-- nothing more is wanted of these bytes, or the input is at its end
abbrev pub Ended : Task → List ℕ → Option (List ℕ) → Type 0
Ended t bs left = (next_stop t bs ≤ length bs) ⊎ IsAtEnd left

-- Of a stream xs that begins with a good word, just the word is kept, and just what stands behind it is left; and of one that ends within a good word, all is kept.
pub record ExactWord (t : Task) (xs kept : List ℕ) (left : Option (List ℕ)) : Type 0 where
  pub whole : (w : Said) → is_said t w ≡ true → (rest : List ℕ) → xs ≡ said_bytes w ++ rest → (kept ≡ said_bytes w) × (left ≡ Some rest)
  pub cut : (w : Said) → is_said t w ≡ true → (missing : List ℕ) → xs ++ missing ≡ said_bytes w → (kept ≡ xs) × (left ≡ Some [])

-- what a reader gave, from where it had `old` left to where it has `new`, is added, and nothing else
abbrev pub Taken : Option (List ℕ) → Option (List ℕ) → List ℕ → List ℕ → Type 0
Taken old new was after = (part : List ℕ) × (after ≡ was ++ part) × Consumes old new part
