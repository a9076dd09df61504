-- What the code draws from bytes, as that of the definitions. Assumes nothing.
use Rattle.std.specs.Prelude.{◌≡◌, ℕ, ◌+◌, ◌*◌, List, drop}
use Rattle.paths.specs.Plan.{at}
use Rattle.paths.specs.Order.{order_of}
use Rattle.lots.specs.declared.had.Had.{Had as CodeHad}
use Rattle.lots.specs.declared.lots.Lot.{Lot as CodeLot}
use Rattle.lots.specs.Lots.{Had, Lot}

-- the value of the four bytes from place i on
abbrev pub value_at : List ℕ → ℕ → ℕ
value_at bs i = ((at bs i * 256 + at bs (i + 1)) * 256 + at bs (i + 2)) * 256 + at bs (i + 3)

abbrev pub had_of : {A B : Type 0} → (A → B) → CodeHad A → Had B
had_of f h = record { what = f h.what; left = h.left.now }

abbrev pub lot_of : CodeLot → Lot
lot_of l = record { order = order_of l.order; chances = l.chances.now }

-- these are the last of the bytes
abbrev pub EndOf : List ℕ → List ℕ → Type 0
EndOf bs left = (k : ℕ) × (left ≡ drop k bs)
