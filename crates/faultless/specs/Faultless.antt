-- An asker's words always pass, whatever the planner does. H is any function in the place of SHA-256. Assumes nothing.
use Rattle.std.specs.Prelude.{◌≡◌, ℕ, ◌+◌, ◌^◌, ◌≤◌, true, cond, List, [], ◌∷◌, Some, None}
use Rattle.paths.specs.Plan.{Task, Plan}
use Rattle.tasks.specs.Reading.{refused}
use Rattle.tasks.specs.Task.{sound}
use Rattle.words.specs.Reading.{read_word}
use Rattle.round.specs.Over.{Outcome, content, not_content, fault, task_fault}
use Rattle.round.specs.Line.{Event, sent, heard, Other, SaysBytes, Ran}
use Rattle.asking.specs.Asking.{is_opened_of}
use Rattle.asking.specs.Conduct.{is_end1}
use Rattle.asking.specs.Run.{asking}
use Rattle.judging.specs.Verdict.{content_all, Redrawn, not_handed, Verdict, judged}
use Rattle.judging.specs.Verdict as told
use Rattle.judging.specs.Judging.{verdict}
use Rattle.faultless.specs.Transcript.{transcript}

-- What is told of an asker who stopped with fault f in round n, after this line, the last first: an End that says 0 closed the round, and the judge finds the same
-- fault, or that there is no Opened where none of this round came; without such an End only the rounds before are told of
abbrev pub told_at : Task → ℕ → ℕ → List Event → Redrawn → Verdict
told_at t f n [] d = judged n content_all d
told_at t f n (heard w ∷ line) d = judged n content_all d
told_at t f n (sent e ∷ []) d = judged n content_all d
told_at t f n (sent e ∷ sent w ∷ line) d = judged n content_all d
told_at t f n (sent e ∷ heard w ∷ line) d =
    cond (is_end1 e) (judged n content_all d) (judged (n + 1) (told.not_content n (refused (cond (is_opened_of n (read_word t w)) f 1))) d)

-- of an asker whose run ended so, with this finding of the plan and the drawn bytes: where it was content with all rounds, that it was. A run of the asker never ends
-- with an asker who isn't content but by a fault
abbrev pub told_of : Task → Outcome → List Event → Redrawn → Verdict
told_of t (content r) line d = judged r content_all d
told_of t (fault f n) line d = told_at t f n line d
told_of t (task_fault f) line d = judged 0 content_all d
told_of t (not_content n) line d = judged 0 content_all d

-- what the asker recorded in a run, its words and its book's last digest, is told as what happened, if no plan and drawn bytes are handed over
pub record Passes (H : List ℕ → List ℕ) (t : Task) (x : Ran) : Type 0 where
  pub unhanded : (any : List ℕ) → verdict H t None any x.over.digest (transcript t x) ≡ told_of t x.over.outcome x.line not_handed
  -- and so it is, with some finding of them, if any are
  pub handed : (p : Plan) (given : List ℕ) → (d : Redrawn) × (verdict H t (Some p) given x.over.digest (transcript t x) ≡ told_of t x.over.outcome x.line d)

-- Whatever bytes the planner says, and whatever is drawn.
abbrev pub Faultless : (List ℕ → List ℕ) → Type 0
Faultless H =
    (t : Task) → sound t ≡ true → (r : ℕ) → r ≤ 2 ^ 24 → (other : Other) → SaysBytes other → (drawn : List ℕ) → Passes H t (asking H other t r drawn)
