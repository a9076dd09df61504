-- What a task that was read guarantees: its numbers are in their ranges, and its pairs stand in strictly rising order. Assumes nothing.
use Rattle.std.specs.Prelude.{ℕ, Bool, true, ◌&&◌, ◌||◌, List, [], ◌∷◌, length, ◌==◌, nat_le, nat_lt}
use Rattle.paths.specs.Plan.{Pair, Task}

abbrev pub within : ℕ → ℕ → ℕ → Bool
within low high x = nat_le low x && nat_le x high

-- the order of pairs: by the first train, then by the second
abbrev pub before : Pair → Pair → Bool
before x y = nat_lt x.a y.a || (x.a == y.a && nat_lt x.e y.e)

-- both trains are there
abbrev pub is_there : ℕ → Pair → Bool
is_there n x = nat_lt x.a n && nat_lt x.e n

-- the lower train comes first, and the pair comes after the last one
abbrev pub rises : Pair → Pair → Bool
rises last x = nat_lt x.a x.e && before last x

unfoldable pub rising : ℕ → Pair → List Pair → Bool
rising n last [] = true
rising n last (x ∷ xs) = is_there n x && rises last x && rising n x xs

-- stands before the first pair, since each pair of two trains comes after it
abbrev pub lowest : Pair
lowest = record { a = 0; e = 0 }

abbrev pub sound : Task → Bool
sound t =
    within 1 1024 t.trains && within 1 64 t.paths && within 1 4096 (length t.pairs) && rising t.trains lowest t.pairs
