-- The book is a chain of digests: the task's, and after each round one of the digest before it and the round's words. H is any function in the place of SHA-256. Assumes nothing.
use Rattle.std.specs.Prelude.{◌≡◌, ℕ, true, cond, ◌⊎◌, List, [], ◌∷◌, ◌++◌, length}
use Rattle.std.specs.List.{AllByRecursion}
use Rattle.paths.specs.Count.{same_row}
use Rattle.boxes.specs.Binding.{TwoTexts, collides}
use Rattle.book.specs.Lengths.{TaskText, RoundText}

abbrev pub next_digest : (List ℕ → List ℕ) → List ℕ → List ℕ → List ℕ
next_digest H before text = H (before ++ text)

-- the digest after the rounds with these texts, the last round first
unfoldable pub after : (List ℕ → List ℕ) → List ℕ → List (List ℕ) → List ℕ
after H task [] = H task
after H task (w ∷ ws) = next_digest H (after H task ws) w

-- the text that was hashed last
abbrev pub last_text : (List ℕ → List ℕ) → List ℕ → List (List ℕ) → List ℕ
last_text H task [] = task
last_text H task (w ∷ ws) = after H task ws ++ w

-- Of two books, from the end back to the first place where the texts that were hashed differ: these two texts
unfoldable pub breach : (List ℕ → List ℕ) → List ℕ → List (List ℕ) → List ℕ → List (List ℕ) → TwoTexts
breach H a [] b vs = (a, last_text H b vs)
breach H a (w ∷ ws) b [] = (after H a ws ++ w, b)
breach H a (w ∷ ws) b (v ∷ vs) =
    cond (same_row (after H a ws ++ w) (after H b vs ++ v)) (breach H a ws b vs) (after H a ws ++ w, after H b vs ++ v)

abbrev pub Sized : (List ℕ → List ℕ) → Type 0
Sized H = (x : List ℕ) → length (H x) ≡ 32

-- Books of one last digest are the same, task and rounds, or the two texts at their breach collide.
abbrev pub Binds : (List ℕ → List ℕ) → Type 0
Binds H =
    (a b : List ℕ) (ws vs : List (List ℕ)) → TaskText a → TaskText b → AllByRecursion RoundText ws → AllByRecursion RoundText vs →
    after H a ws ≡ after H b vs → (collides H (breach H a ws b vs) ≡ true) ⊎ ((a ≡ b) × (ws ≡ vs))
