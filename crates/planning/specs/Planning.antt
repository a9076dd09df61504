-- The planner's side, step by step, over the bytes that come. H is any function in the place of SHA-256. Assumes nothing.
use Rattle.std.specs.Prelude.{ℕ, ◌+◌, Bool, cond, List, [], nat_lt}
use Rattle.paths.specs.Plan.{Task, Plan}
use Rattle.tasks.specs.Reading.{Got, got, refused, and_then}
use Rattle.tasks.specs.Writing.{task_bytes}
use Rattle.fitting.specs.Pairs.{asked_pair}
use Rattle.fitting.specs.Testing.{tested}
use Rattle.book.specs.Lengths.{round_text}
use Rattle.book.specs.Chain.{next_digest, after}
use Rattle.lots.specs.Lots.{Had, Lot, lot_in}
use Rattle.words.specs.Said.{Said}
use Rattle.words.specs.Reading.{read_word}
use Rattle.words.specs.Awaited.{on_ask as on_this_ask, on_end}
use Rattle.words.specs.Writing.{said_bytes}
use Rattle.round.specs.Over.{Over, content, not_content, fault, Leads, on, out}
use Rattle.round.specs.Round.{boxes_for, opened_for}

-- before a round: what the planner has, how many rounds there are, the number of this one, and the book's digest
pub record Ready : Type 0 where
  pub task : Task
  pub plan : Plan
  pub rounds : ℕ
  pub round : ℕ
  pub digest : List ℕ

-- the round's boxes are closed: its lot, and the Boxes word
pub record Closed : Type 0 where
  pub ready : Ready
  pub lot : Lot
  pub boxes : List ℕ

-- a pair was asked for and is opened: the Ask that came, and the Opened
pub record Opened : Type 0 where
  pub closed : Closed
  pub ask : List ℕ
  pub opened : List ℕ

-- the End came: its bytes, and what it says
pub record Heard : Type 0 where
  pub opened : Opened
  pub end : List ℕ
  pub content : Bool

-- a fault in this round: nothing more is sent, and the book stands as it is
abbrev pub stops : Ready → ℕ → Over
stops s f = record { outcome = fault f s.round; digest = s.digest }

abbrev pub led : {A : Type 0} → Ready → Got A → Leads A
led s (got x) = on x
led s (refused f) = out (stops s f)

-- this round, or the end after the last one
abbrev pub turn : Ready → Leads Ready
turn s = cond (nat_lt s.round s.rounds) (on s) (out record { outcome = content s.rounds; digest = s.digest })

-- what is sent first, and what it leads to
pub record Begun : Type 0 where
  pub word : List ℕ
  pub next : Leads Ready

abbrev pub begin : (List ℕ → List ℕ) → Task → Plan → ℕ → Begun
begin H t p r = record { word = task_bytes t; next = turn record { task = t; plan = p; rounds = r; round = 0; digest = after H (task_bytes t) [] } }

-- a plan that doesn't fit begins nothing, and not even the Task is sent
abbrev pub start : (List ℕ → List ℕ) → Task → Plan → ℕ → Got Begun
start H t p r = and_then (tested t p) (λ _. got (begin H t p r))

-- the drawn bytes that a round's lot leaves over, and none where they were too few for it
abbrev pub left_in : {A : Type 0} → Got (Had A) → List ℕ
left_in (got h) = h.left
left_in (refused f) = []

abbrev pub left_over : Task → List ℕ → List ℕ
left_over t drawn = left_in (lot_in t drawn)

-- fault 11 where the drawn bytes don't suffice for the round, looked at before its Boxes
abbrev pub close : (List ℕ → List ℕ) → Ready → List ℕ → Leads Closed
close H s drawn =
    led s (and_then (lot_in s.task drawn) (λ h. got record { ready = s; lot = h.what; boxes = said_bytes (boxes_for H s.round s.plan h.what) }))

-- the pair that an Ask of this round names: fault 7 where it isn't there
abbrev pub on_ask : Task → ℕ → Said → Got ℕ
on_ask t n x = and_then (on_this_ask n x) (λ i. and_then (asked_pair t i) (λ _. got i))

abbrev pub ask_in : Task → ℕ → List ℕ → Got ℕ
ask_in t n bs = and_then (read_word t bs) (on_ask t n)

abbrev pub answer : Closed → List ℕ → Leads Opened
answer s bs =
    let r = s.ready in
    led r (and_then (ask_in r.task r.round bs) (λ i. got record { closed = s; ask = bs; opened = said_bytes (opened_for r.task r.round r.plan s.lot i) }))

-- what an End of this round says
abbrev pub end_in : Task → ℕ → List ℕ → Got Bool
end_in t n bs = and_then (read_word t bs) (on_end n)

abbrev pub hear : Opened → List ℕ → Leads Heard
hear s bs =
    let r = s.closed.ready in
    led r (and_then (end_in r.task r.round bs) (λ c. got record { opened = s; end = bs; content = c }))

-- the round is closed in the book; an asker who isn't content ends it all
abbrev pub settle : (List ℕ → List ℕ) → Heard → Leads Ready
settle H s =
    let r = s.opened.closed.ready in
    let digest = next_digest H r.digest (round_text s.opened.closed.boxes s.opened.ask s.opened.opened s.end) in
    cond s.content
    (turn record { task = r.task; plan = r.plan; rounds = r.rounds; round = r.round + 1; digest = digest })
    (out record { outcome = not_content r.round; digest = digest })
