-- An honest planner can't be blamed, whatever the asker does. H is any function in the place of SHA-256. Assumes nothing.
use Rattle.std.specs.Prelude.{◌≡◌, ℕ, ◌+◌, ◌^◌, ◌≤◌, true, ◌⊎◌, List, [], map, reverse, Some, None, Option}
use Rattle.paths.specs.Plan.{Task, Plan, fits, all_below}
use Rattle.tasks.specs.Reading.{got}
use Rattle.tasks.specs.Task.{sound}
use Rattle.tasks.specs.Writing.{task_bytes}
use Rattle.boxes.specs.Binding.{collides}
use Rattle.book.specs.Chain.{breach}
use Rattle.round.specs.Over.{Outcome, content, not_content, fault, task_fault}
use Rattle.round.specs.Line.{Other, SaysBytes, Ran}
use Rattle.planning.specs.Run.{showing}
use Rattle.judging.specs.Verdict.{Content, content_all, Redrawn, not_handed, agrees, Verdict, judged}
use Rattle.judging.specs.Verdict as told
use Rattle.cutting.specs.Cutting.{text_of, Cut, cut_into, fault_in, cut}
use Rattle.judging.specs.Judging.{verdict}
use Rattle.blameless.specs.Transcript.{transcript}

-- what is told of an honest planner whose run ended so, with this finding of the plan and the drawn bytes: how many rounds were closed, and whether the asker was
-- content with them; where it wasn't, the opening was good. A run of the planner never ends with a fault of the Task
abbrev pub told_of : Outcome → Redrawn → Verdict
told_of (content r) d = judged r content_all d
told_of (not_content n) d = judged (n + 1) (told.not_content n (got tt)) d
told_of (fault f n) d = judged n content_all d
told_of (task_fault f) d = judged 0 content_all d

-- the texts of the rounds that words are cut into, the last first
abbrev pub texts_in : Cut → List (List ℕ)
texts_in (cut_into rs) = reverse (map text_of rs)
texts_in (fault_in f n) = []

-- a run of a planner with this task, plan and drawn bytes
pub record Cleared (H : List ℕ → List ℕ) (t : Task) (p : Plan) (drawn : List ℕ) (x : Ran) : Type 0 where
  -- its transcript fits its book's last digest, what is told is what happened, and its plan and drawn bytes give these words
  pub handed : verdict H t (Some p) drawn x.over.digest (transcript x) ≡ told_of x.over.outcome agrees
  -- so it is, but for the last, if neither is handed over
  pub unhanded : (any : List ℕ) → verdict H t None any x.over.digest (transcript x) ≡ told_of x.over.outcome not_handed
  -- whoever brings words, of whatever task, that are judged with this digest, brings this transcript of this task, or the two texts at the breach of the books
  -- collide
  pub no_other : (u : Task) → sound u ≡ true → (q : Option Plan) (given : List ℕ) (ws : List (List ℕ)) (n : ℕ) (c : Content) (d : Redrawn) →
      verdict H u q given x.over.digest ws ≡ judged n c d →
      (collides H (breach H (task_bytes t) (texts_in (cut t (transcript x))) (task_bytes u) (texts_in (cut u ws))) ≡ true) ⊎ ((t ≡ u) × (transcript x ≡ ws))

-- Whatever bytes the asker says, and whatever is drawn: a planner whose plan fits is cleared.
abbrev pub Blameless : (List ℕ → List ℕ) → Type 0
Blameless H =
    (t : Task) → sound t ≡ true → (p : Plan) → fits t p ≡ true → (r : ℕ) → r ≤ 2 ^ 24 → (other : Other) → SaysBytes other →
    (drawn : List ℕ) → all_below 256 drawn ≡ true → Cleared H t p drawn (showing H other t p r drawn)
