-- The planner's run of a showing against another side that may say anything. H is any function in the place of SHA-256. Assumes nothing.
use Rattle.std.specs.Prelude.{ℕ, zero, suc, List, [], ◌∷◌}
use Rattle.paths.specs.Plan.{Task, Plan}
use Rattle.round.specs.Line.{Event, sent, heard, Other, Ran}
use Rattle.round.specs.Over.{Leads, on, out}
use Rattle.planning.specs.Planning.{Ready, stops, begin, left_over, close, answer, hear, settle}

-- what it leads to, and the line
pub record Gone : Type 0 where
  pub to : Leads Ready
  pub line : List Event

abbrev pub and_on : {A B : Type 0} → Leads A → (A → Leads B) → Leads B
and_on (on x) next = next x
and_on (out o) next = out o

-- a word is sent where it goes on, and nothing where it ends
abbrev pub sending : {A : Type 0} → Leads A → (A → List ℕ) → List Event → (A → List Event → Gone) → Gone
sending (on x) word line next = next x (sent (word x) ∷ line)
sending (out o) word line next = record { to = out o; line = line }

abbrev pub one_round : (List ℕ → List ℕ) → Other → Ready → List ℕ → List Event → Gone
one_round H other s drawn line =
    sending (close H s drawn) (λ c. c.boxes) line (λ c line.
    sending (answer c (other line)) (λ o. o.opened) (heard (other line) ∷ line) (λ o line.
    record { to = and_on (hear o (other line)) (settle H); line = heard (other line) ∷ line }))

-- at most so many rounds, each from the drawn bytes that the one before left over; a showing has as many as it has to go, so that it ends by itself
unfoldable pub run : (List ℕ → List ℕ) → Other → ℕ → List ℕ → Leads Ready → List Event → Ran
run H other zero drawn (out o) line = record { line = line; over = o }
run H other zero drawn (on s) line = record { line = line; over = stops s 0 }
run H other (suc left) drawn (out o) line = record { line = line; over = o }
run H other (suc left) drawn (on s) line =
    let g = one_round H other s drawn line in
    run H other left (left_over s.task drawn) g.to g.line

-- the whole showing of a plan in r rounds
abbrev pub showing : (List ℕ → List ℕ) → Other → Task → Plan → ℕ → List ℕ → Ran
showing H other t p r drawn = let b = begin H t p r in run H other r drawn b.next (sent b.word ∷ [])
