-- Words bind: no other words fit a last digest, unless two texts of one digest are at hand. H is any function in the place of SHA-256. Assumes nothing.
use Rattle.std.specs.Prelude.{◌≡◌, ℕ, ◌^◌, ◌≤◌, true, ◌⊎◌, List, map, reverse, length, Option}
use Rattle.paths.specs.Plan.{Task, Plan, fits, all_below}
use Rattle.tasks.specs.Task.{sound}
use Rattle.tasks.specs.Writing.{task_bytes}
use Rattle.boxes.specs.Binding.{collides}
use Rattle.book.specs.Chain.{after, breach}
use Rattle.judging.specs.Verdict.{Content, Redrawn, judged}
use Rattle.cutting.specs.Cutting.{Round, text_of, cut_into, cut}
use Rattle.judging.specs.Judging.{book_of, verdict}
use Rattle.judging.specs.Honest.{Honest}

-- Words whose books have one last digest are the same words, of the same task, or the two texts at the breach of the books collide.
abbrev pub WordsBind : (List ℕ → List ℕ) → Type 0
WordsBind H =
    (t u : Task) → sound t ≡ true → sound u ≡ true → (ws vs : List (List ℕ)) (rs ss : List Round) → cut t ws ≡ cut_into rs → cut u vs ≡ cut_into ss →
    book_of H t rs ≡ book_of H u ss →
    (collides H (breach H (task_bytes t) (reverse (map text_of rs)) (task_bytes u) (reverse (map text_of ss))) ≡ true) ⊎ ((t ≡ u) × (ws ≡ vs))

-- Nobody can be blamed by other words: whatever is told of words beyond that they don't fit the last digest of an honest planner's book, they are its words, or
-- the two texts at the breach of the books collide.
abbrev pub NoOtherWords : (List ℕ → List ℕ) → Type 0
NoOtherWords H =
    (t : Task) → sound t ≡ true → (p : Plan) → fits t p ≡ true → (drawn : List ℕ) → all_below 256 drawn ≡ true → (ws texts : List (List ℕ)) (c : Content) →
    Honest H t p 0 drawn ws texts c → length texts ≤ 2 ^ 24 →
    (vs : List (List ℕ)) (rs : List Round) → cut t vs ≡ cut_into rs → (q : Option Plan) (handed : List ℕ) (n : ℕ) (d : Content) (r : Redrawn) →
    verdict H t q handed (after H (task_bytes t) (reverse texts)) vs ≡ judged n d r →
    (collides H (breach H (task_bytes t) (reverse texts) (task_bytes t) (reverse (map text_of rs))) ≡ true) ⊎ (ws ≡ vs)
