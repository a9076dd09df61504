-- The asker's run of a showing against another side that may say anything. H is any function in the place of SHA-256. Assumes nothing.
use Rattle.std.specs.Prelude.{ℕ, zero, suc, List, [], ◌∷◌}
use Rattle.paths.specs.Plan.{Task}
use Rattle.tasks.specs.Reading.{Got, got, refused}
use Rattle.lots.specs.Lots.{Had, question_in}
use Rattle.round.specs.Line.{Event, sent, heard, Other, Ran}
use Rattle.round.specs.Over.{fault, Leads, on, out}
use Rattle.asking.specs.Asking.{Ready, Drawn, Asked, meet, draw, question, test, settle}

-- what it leads to, and the line
pub record Gone : Type 0 where
  pub to : Leads Ready
  pub line : List Event

abbrev pub going_on : {A : Type 0} → Leads A → List Event → (A → Gone) → Gone
going_on (on x) line next = next x
going_on (out o) line next = record { to = out o; line = line }

-- the Ask is sent; whatever answer comes, the End is sent
abbrev pub asked : (List ℕ → List ℕ) → Other → List Event → Asked → Gone
asked H other line s =
    let line = sent s.ask ∷ line in
    let x = test H s (other line) in
    record { to = settle H x; line = sent x.end ∷ heard (other line) ∷ line }

abbrev pub boxed : (List ℕ → List ℕ) → Other → List Event → Drawn → Gone
boxed H other line s = let line' = heard (other line) ∷ line in going_on (question s (other line)) line' (asked H other line')

abbrev pub one_round : (List ℕ → List ℕ) → Other → Ready → List ℕ → List Event → Gone
one_round H other s drawn line = going_on (draw s drawn) line (boxed H other line)

-- the drawn bytes that a question leaves over
abbrev pub left_in : Got (Had ℕ) → List ℕ
left_in (got h) = h.left
left_in (refused f) = []

-- So many rounds at most, each with the drawn bytes that the last one left over. As there are as many as the state has yet to go, none is wanting
unfoldable pub run : (List ℕ → List ℕ) → Other → ℕ → List ℕ → Leads Ready → List Event → Ran
run H other zero drawn (out o) line = record { line = line; over = o }
run H other zero drawn (on s) line = record { line = line; over = record { outcome = fault 0 s.round; digest = s.digest } }
run H other (suc left) drawn (out o) line = record { line = line; over = o }
run H other (suc left) drawn (on s) line =
    let g = one_round H other s drawn line in
    run H other left (left_in (question_in s.task drawn)) g.to g.line

-- the whole run of an asker who wants to see r rounds of task t
abbrev pub asking : (List ℕ → List ℕ) → Other → Task → ℕ → List ℕ → Ran
asking H other t r drawn =
    let word = other [] in
    run H other r drawn (meet H record { task = t; rounds = r } word) (heard word ∷ [])
