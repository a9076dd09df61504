-- The asker's run where its questions are given, in the place of drawn bytes. H is any function in the place of SHA-256. Assumes nothing.
use Rattle.std.specs.Prelude.{◌≡◌, ℕ, zero, suc, ◌<◌, List, [], ◌∷◌, length}
use Rattle.paths.specs.Plan.{Task}
use Rattle.tasks.specs.Reading.{Got, got, refused}
use Rattle.lots.specs.Lots.{Had, question_in, in_turn}
use Rattle.round.specs.Line.{Event, heard, Other, Ran}
use Rattle.round.specs.Over.{fault, Leads, on, out}
use Rattle.asking.specs.Asking.{Ready, meet}
use Rattle.asking.specs.Run.{boxed, asking}

-- a round for each question, by the asker's own steps; fault 11 where the questions end before the rounds do
unfoldable pub run_on : (List ℕ → List ℕ) → Other → List ℕ → Leads Ready → List Event → Ran
run_on H other [] (out o) line = record { line = line; over = o }
run_on H other [] (on s) line = record { line = line; over = record { outcome = fault 11 s.round; digest = s.digest } }
run_on H other (i ∷ is) (out o) line = record { line = line; over = o }
run_on H other (i ∷ is) (on s) line = let g = boxed H other line record { ready = s; pair = i } in run_on H other is g.to g.line

-- the whole run of an asker who wants to see r rounds of task t, and asks these questions
abbrev pub asking_on : (List ℕ → List ℕ) → Other → Task → ℕ → List ℕ → Ran
asking_on H other t r is =
    let word = other [] in
    run_on H other is (meet H record { task = t; rounds = r } word) (heard word ∷ [])

-- one more question before those drawn from the bytes left over
abbrev pub then_more : Got (Had ℕ) → (List ℕ → List ℕ) → List ℕ
then_more (got h) more = h.what ∷ more h.left
then_more (refused f) more = []

-- the questions of r rounds that drawn bytes give: fewer, where the bytes don't suffice
unfoldable pub questions_in : Task → ℕ → List ℕ → List ℕ
questions_in t zero drawn = []
questions_in t (suc r) drawn = then_more (question_in t drawn) (questions_in t r)

-- The run over drawn bytes is the run over the questions that they give: all that are drawn in turn, or too few.
pub record Questioned (H : List ℕ → List ℕ) (other : Other) (t : Task) (r : ℕ) (drawn : List ℕ) : Type 0 where
  pub same : asking H other t r drawn ≡ asking_on H other t r (questions_in t r drawn)
  pub all : (h : Had (List ℕ)) → in_turn (question_in t) r drawn ≡ got h → questions_in t r drawn ≡ h.what
  pub few : (f : ℕ) → in_turn (question_in t) r drawn ≡ refused f → length (questions_in t r drawn) < r

abbrev pub RunsOn : Type 0
RunsOn = (H : List ℕ → List ℕ) (other : Other) (t : Task) (r : ℕ) (drawn : List ℕ) → Questioned H other t r drawn
