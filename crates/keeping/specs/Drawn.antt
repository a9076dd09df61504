-- The drawn bytes of a showing, round by round. Assumes nothing.
use Rattle.std.specs.Prelude.{◌≡◌, ℕ, Option, Some, None, List, [], ◌∷◌, ◌++◌, map, length, drop}
use Rattle.std.specs.Io.{StartsWith}
use Rattle.tasks.specs.Reading.{Got, got, refused}
use Rattle.lots.specs.Lots.{Had, in_turn}
use Rattle.keeping.specs.declared.drawn.Drawn.{Drawn}

-- what is held for the round, and how much of it the round takes
abbrev pub held : Drawn → List ℕ
held d = d.bytes.items

abbrev pub took : Drawn → ℕ
took d = d.taken

-- what the round leaves over
abbrev pub left_of : Drawn → List ℕ
left_of d = drop (took d) (held d)

-- nothing that was held is lost or used again: what the last round left over is held, and behind it what was read since
abbrev pub GoesOn : Drawn → Drawn → Type 0
GoesOn old new = StartsWith (held new) (left_of old)

-- to draw this takes n of these bytes: all before those that are left over, and none where they are too few
abbrev pub TakesSo : {A : Type 0} → Got (Had A) → List ℕ → ℕ → Type 0
TakesSo (got h) bytes n = drop n bytes ≡ h.left
TakesSo (refused f) bytes n = n ≡ 0

abbrev pub Takes : {A : Type 0} → (List ℕ → Got (Had A)) → Drawn → Type 0
Takes draws d = TakesSo (draws (held d)) (held d) (took d)

-- none, where it is not said how many
abbrev pub or_none : Option ℕ → ℕ
or_none (Some n) = n
or_none None = 0

-- a round: the drawn bytes in it, and what it draws
pub record Round (A : Type 0) : Type 0 where
  pub drawn : Drawn
  pub had : Had A

-- rounds in turn: each goes on from the one before, has bytes that suffice, and takes those of what it draws
unfoldable pub AreRounds : {A : Type 0} → (List ℕ → Got (Had A)) → Drawn → List (Round A) → Type 0
AreRounds draws old [] = Unit {0}
AreRounds draws old (r ∷ rs) = GoesOn old r.drawn × (draws (held r.drawn) ≡ got r.had) × Takes draws r.drawn × AreRounds draws r.drawn rs

-- how the drawn bytes are after them
unfoldable pub after : {A : Type 0} → Drawn → List (Round A) → Drawn
after old [] = old
after old (r ∷ rs) = after r.drawn rs

-- what is read for them: what each holds beyond what was left over
unfoldable pub read_for : {A : Type 0} → Drawn → List (Round A) → List ℕ
read_for old [] = []
read_for old (r ∷ rs) = drop (length (left_of old)) (held r.drawn) ++ read_for r.drawn rs

-- Whatever is read, the rounds draw in turn from one row of bytes: those that were left over before, and then all that are read. And what the last round leaves
-- over is what it leaves over of this row.
abbrev pub OneRow : {A : Type 0} → (List ℕ → Got (Had A)) → Type 0
OneRow {A} draws =
    (old : Drawn) (rs : List (Round A)) → AreRounds draws old rs →
    in_turn draws (length rs) (left_of old ++ read_for old rs) ≡ got record { what = map (λ r. r.had.what) rs; left = left_of (after old rs) }
