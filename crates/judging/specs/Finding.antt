-- What is told at the end of a whole run: of findings the first. H is any function in the place of SHA-256. Assumes nothing.
use Rattle.std.specs.Prelude.{◌≡◌, ℕ, true, List, length, Some, Option}
use Rattle.paths.specs.Plan.{Task, Plan}
use Rattle.tasks.specs.Task.{sound}
use Rattle.cutting.specs.Cutting.{Round, cut_into, cut}
use Rattle.judging.specs.Verdict.{Content, Redrawn, judged}
use Rattle.judging.specs.Contents.{Tells}
use Rattle.judging.specs.Redrawing.{Finds}
use Rattle.judging.specs.Steps.{begin, tells}

-- of these rounds: how many they are; of the asker's content the first finding; and so of the plan and the drawn bytes, if there is a plan
pub record FirstsTold (H : List ℕ → List ℕ) (t : Task) (p : Option Plan) (drawn : List ℕ) (rs : List Round) (n : ℕ) (c : Content) (d : Redrawn) : Type 0 where
  pub many : length rs ≡ n
  pub content : Tells H t 0 rs c
  pub redrawn : (q : Plan) → p ≡ Some q → Finds H t q 0 drawn rs d

-- Whatever words are taken, one by one: where they are judged they are rounds, and what is told is the first that is to be told of them.
abbrev pub FirstCounts : (List ℕ → List ℕ) → Type 0
FirstCounts H =
    (t : Task) → sound t ≡ true → (p : Option Plan) (drawn digest : List ℕ) (ws : List (List ℕ)) (n : ℕ) (c : Content) (d : Redrawn) →
    tells H (begin H t p) drawn digest ws ≡ judged n c d → (rs : List Round) × (cut t ws ≡ cut_into rs) × FirstsTold H t p drawn rs n c d
