-- The asker's side, step by step, over the bytes that come. H is any function in the place of SHA-256. Assumes nothing.
use Rattle.std.specs.Prelude.{ℕ, ◌+◌, Bool, false, cond, List, [], drop, ◌==◌, nat_lt}
use Rattle.paths.specs.Count.{same_row}
use Rattle.paths.specs.Plan.{Task}
use Rattle.tasks.specs.Reading.{Got, Looked, got, refused, and_then}
use Rattle.tasks.specs.Writing.{task_bytes}
use Rattle.book.specs.Chain.{next_digest}
use Rattle.book.specs.Lengths.{round_text}
use Rattle.lots.specs.Lots.{question_in}
use Rattle.words.specs.Said.{Said, task, plan, boxes, ask, opened, end}
use Rattle.words.specs.Reading.{read_word}
use Rattle.words.specs.Awaited.{on_boxes}
use Rattle.words.specs.Writing.{said_bytes, is_got}
use Rattle.round.specs.Over.{content, fault, task_fault, Leads, on, out}
use Rattle.round.specs.Round.{test_opened}

-- the Task is awaited: the asker's own task, and how many rounds there are to be
pub record Awaiting : Type 0 where
  pub task : Task
  pub rounds : ℕ

-- before a round: its number, and the book's digest
pub record Ready : Type 0 where
  pub task : Task
  pub rounds : ℕ
  pub round : ℕ
  pub digest : List ℕ

-- the round's question is drawn, and its Boxes are awaited
pub record Drawn : Type 0 where
  pub ready : Ready
  pub pair : ℕ

-- the Boxes came: the word, and the Ask
pub record Asked : Type 0 where
  pub drawn : Drawn
  pub boxes : List ℕ
  pub ask : List ℕ

-- the answer came and was tested: the Opened, or nothing where it is no Opened of this round; the End; and what the test gave
pub record Tested : Type 0 where
  pub asked : Asked
  pub opened : List ℕ
  pub end : List ℕ
  pub test : Got Looked

-- a fault in this round, before there is an answer: nothing is sent, and the book stands as it is
abbrev pub led : {A : Type 0} → Ready → Got A → Leads A
led s (got x) = on x
led s (refused f) = out record { outcome = fault f s.round; digest = s.digest }

-- this round, or the end after the last one
abbrev pub turn : Ready → Leads Ready
turn s = cond (nat_lt s.round s.rounds) (on s) (out record { outcome = content s.rounds; digest = s.digest })

-- tasks are compared by their bytes: another one is fault 4, and another word 6
abbrev pub on_task : List ℕ → Said → Got Looked
on_task own (task bs) = cond (same_row bs own) (got tt) (refused 4)
on_task own (plan p) = refused 6
on_task own (boxes r ds) = refused 6
on_task own (ask r i) = refused 6
on_task own (opened r x y) = refused 6
on_task own (end r c) = refused 6

abbrev pub begun : (List ℕ → List ℕ) → Awaiting → Got Looked → Leads Ready
begun H s (got x) = turn record { task = s.task; rounds = s.rounds; round = 0; digest = H (task_bytes s.task) }
begun H s (refused f) = out record { outcome = task_fault f; digest = H (task_bytes s.task) }

abbrev pub meet : (List ℕ → List ℕ) → Awaiting → List ℕ → Leads Ready
meet H s bs = begun H s (and_then (read_word s.task bs) (on_task (task_bytes s.task)))

-- fault 11 where the drawn bytes don't suffice for the round's question, looked at before its Boxes are read
abbrev pub draw : Ready → List ℕ → Leads Drawn
draw s bytes = led s (and_then (question_in s.task bytes) (λ h. got record { ready = s; pair = h.what }))

-- the Boxes of this round are answered by the question
abbrev pub question : Drawn → List ℕ → Leads Asked
question s bs =
    let r = s.ready in
    led r (and_then (and_then (read_word r.task bs) (on_boxes r.round)) (λ _. got record { drawn = s; boxes = bs; ask = said_bytes (ask r.round s.pair) }))

-- what was read is an Opened of round n
abbrev pub is_opened_of : ℕ → Got Said → Bool
is_opened_of n (got (opened r x y)) = r == n
is_opened_of n (got (task bs)) = false
is_opened_of n (got (plan p)) = false
is_opened_of n (got (boxes r ds)) = false
is_opened_of n (got (ask r i)) = false
is_opened_of n (got (end r c)) = false
is_opened_of n (refused f) = false

-- whatever comes, the End of the round is said: 1 where the asker is content, else 0
abbrev pub test : (List ℕ → List ℕ) → Asked → List ℕ → Tested
test H s bs =
    let r = s.drawn.ready in
    let w = read_word r.task bs in
    let g = and_then w (test_opened H r.task r.round s.drawn.pair (drop 7 s.boxes)) in
    record { asked = s; opened = cond (is_opened_of r.round w) bs []; end = said_bytes (end r.round (is_got g)); test = g }

-- the round is closed in the book; after a refused answer all is over
abbrev pub settled : Ready → List ℕ → Got Looked → Leads Ready
settled r digest (got x) = turn record { task = r.task; rounds = r.rounds; round = r.round + 1; digest = digest }
settled r digest (refused f) = out record { outcome = fault f r.round; digest = digest }

abbrev pub settle : (List ℕ → List ℕ) → Tested → Leads Ready
settle H s =
    let r = s.asked.drawn.ready in
    settled r (next_digest H r.digest (round_text s.asked.boxes s.asked.ask s.opened s.end)) s.test
