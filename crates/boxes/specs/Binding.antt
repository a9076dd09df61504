-- Boxes bind: no box is opened in two ways unless two texts of one digest are at hand. H is any function in the place of SHA-256. Assumes nothing.
use Rattle.std.specs.Prelude.{◌≡◌, ℕ, ◌^◌, ◌<◌, Bool, true, cond, not, ◌&&◌, ◌⊎◌, List, length, Some, None, Option, ◌==◌}
use Rattle.paths.specs.Count.{same_row}
use Rattle.boxes.specs.Box.{box_text, Opening, text_of, opens_box}

abbrev pub TwoTexts : Type 0
TwoTexts = List ℕ × List ℕ

-- two texts that break H: different, and of one digest
abbrev pub collides : (List ℕ → List ℕ) → TwoTexts → Bool
collides H x = not (same_row x.0 x.1) && same_row (H x.0) (H x.1)

abbrev pub same_opening : Opening → Opening → Bool
same_opening x y = x.train == y.train && x.number == y.number && same_row x.chance y.chance

abbrev pub texts_of : ℕ → Opening → Opening → TwoTexts
texts_of round x y = (text_of round x, text_of round y)

-- both open the box, and they are not the same
abbrev pub opened_twice : (List ℕ → List ℕ) → List ℕ → ℕ → Opening → Opening → Bool
opened_twice H digest round x y = not (same_opening x y) && opens_box H digest round x && opens_box H digest round y

abbrev pub collision_of : (List ℕ → List ℕ) → List ℕ → ℕ → Opening → Opening → Option TwoTexts
collision_of H digest round x y = cond (opened_twice H digest round x y) (Some (texts_of round x y)) None

-- A text tells its round, train, number and chance.
abbrev pub TextInjective : Type 0
TextInjective =
    (r s t u n m : ℕ) (c d : List ℕ) → r < 2 ^ 32 → s < 2 ^ 32 → t < 2 ^ 16 → u < 2 ^ 16 →
    box_text r t n c ≡ box_text s u m d → (r ≡ s) × (t ≡ u) × (n ≡ m) × (c ≡ d)

abbrev pub TextLong : Type 0
TextLong = (round train number : ℕ) (chance : List ℕ) → length chance ≡ 32 → length (box_text round train number chance) ≡ 39

-- Two openings of one box are the same, or their texts collide.
abbrev pub Binds : (List ℕ → List ℕ) → Type 0
Binds H =
    (digest : List ℕ) (round : ℕ) (x y : Opening) → x.train < 2 ^ 16 → y.train < 2 ^ 16 →
    opens_box H digest round x ≡ true → opens_box H digest round y ≡ true → (x ≡ y) ⊎ (collides H (texts_of round x y) ≡ true)
