-- Eight texts side by side: lane j of each vector belongs to text j.
use Rattle.std.specs.Prelude.{◌≡◌, ℕ, ◌<◌, List, [], length, slice_index, slice_index_or}
use Rattle.sha256.specs.Sha256.{padded, word}

-- lane j of a vector
abbrev pub lane : List ℕ → ℕ → ℕ
lane x j = slice_index x j

-- eight texts of 39 bytes, and a vector with word t of each text's only block
abbrev pub Sized : List (List ℕ) → Type 0
Sized texts = (j : ℕ) → j < 8 → length (slice_index_or texts j []) ≡ 39

abbrev pub WordsAt : List (List ℕ) → ℕ → List ℕ → Type 0
WordsAt texts t x = (j : ℕ) → j < 8 → lane x j ≡ word (padded (slice_index_or texts j [])) t
