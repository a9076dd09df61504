-- What an asker that is unaware of digests sees, told without a plan and without boxes: a function of the task, the asker and the lots alone. Only the lots that go with those of a run are
-- told by its plan. H is any function in the place of SHA-256. Assumes nothing.
use Rattle.std.specs.Prelude.{◌≡◌, ℕ, zero, suc, ◌+◌, ◌^◌, ◌≤◌, Bool, true, false, T, List, [], ◌∷◌, length}
use Rattle.paths.specs.Plan.{Task, Good, Plan, at, fits}
use Rattle.paths.specs.Show.{pair_at}
use Rattle.paths.specs.Cheat.{count, asks}
use Rattle.paths.specs.Pairing.{by_question}
use Rattle.paths.specs.Simulated.{pretend}
use Rattle.tasks.specs.Reading.{Got, got, refused}
use Rattle.tasks.specs.Writing.{task_bytes}
use Rattle.lots.specs.Lots.{Lot}
use Rattle.words.specs.Said.{Said, opened}
use Rattle.words.specs.Writing.{boxes_head, said_bytes}
use Rattle.round.specs.Line.{Event, sent, heard, Other}
use Rattle.round.specs.Over.{Outcome, content, not_content, fault}
use Rattle.round.specs.Round.{part_of}
use Rattle.planning.specs.Planning.{ask_in, end_in}
use Rattle.planning.specs.Run.{showing}
use Rattle.secrecy.specs.View.{unaware, View, view_of}
use Rattle.secrecy.specs.Lots.{show_lots, lots_in, asked, Lots, pair_lot}

-- what is told: all that the asker sees, and which pairs it asked for
pub record Told : Type 0 where
  pub seen : View
  pub asked : List ℕ

abbrev pub ends : Outcome → List Event → Told
ends o line = record { seen = record { line = line; outcome = o }; asked = [] }

-- a question that is answered, and what is told then
abbrev pub by_ask : Got ℕ → ℕ → List Event → (ℕ → Told) → Told
by_ask (got i) n line next = let x = next i in record { seen = x.seen; asked = i ∷ x.asked }
by_ask (refused f) n line next = ends (fault f n) line

abbrev pub by_end : Got Bool → ℕ → List Event → Told → Told
by_end (got true) n line next = next
by_end (got false) n line next = ends (not_content n) line
by_end (refused f) n line next = ends (fault f n) line

-- So many rounds from round n on, each with the next lot, and fault 11 where there is none: of the Boxes only what stands before the digests, then the asker's word;
-- after a question for pair i the Opened that is given for it, and the asker's word again. The line is the last first
unfoldable pub telling : (ℕ → Lot → ℕ → Said) → Other → Task → ℕ → ℕ → List Lot → List Event → Told
telling given f t zero n ls line = ends (content n) line
telling given f t (suc left) n [] line = ends (fault 11 n) line
telling given f t (suc left) n (l ∷ ls) line =
    let closed = sent (boxes_head n t.trains) ∷ line in
    let put = heard (f closed) ∷ closed in
    by_ask (ask_in t n (f closed)) n put (λ i.
    let shown = sent (said_bytes (given n l i)) ∷ put in
    let ended = heard (f shown) ∷ shown in
    by_end (end_in t n (f shown)) n ended (telling given f t left (n + 1) ls ended))

-- without a plan: in answer to a question the first two numbers of the lot's order, under its chances for the two trains
abbrev pub opened_anyhow : Task → ℕ → Lot → ℕ → Said
opened_anyhow t n l i =
    let a = (pair_at t i).a in
    let e = (pair_at t i).e in
    opened n (record { train = a; number = at l.order 0; chance = part_of l.chances a }) (record { train = e; number = at l.order 1; chance = part_of l.chances e })

abbrev pub simulation : Other → Task → ℕ → List Lot → Told
simulation f t r ls = telling (opened_anyhow t) f t r 0 ls (sent (task_bytes t) ∷ [])

-- all that the asker sees so, of a showing in r rounds
abbrev pub simulated : Other → Task → ℕ → List Lot → View
simulated f t r ls = (simulation f t r ls).seen

-- the lots of the simulation that go with lots for plan p, and the other way round: each as if the other plan were that of its question
abbrev pub to_simulated : (List ℕ → List ℕ) → Other → Task → Plan → ℕ → List Lot → List Lot
to_simulated H f t p r ls = by_question (λ i. pair_lot t p (pretend t i) i) (asked H (unaware f) t p r ls) ls

abbrev pub from_simulated : Other → Task → Plan → ℕ → List Lot → List Lot
from_simulated f t p r ls = by_question (λ i. pair_lot t (pretend t i) p i) (simulation f t r ls).asked ls

-- What an asker that doesn't look into the digests sees of plan p is what is told without a plan, with lots paired off one to one; and whatever is tested of it, it passes
-- for as many rows of drawn bytes as what is told without a plan
pub record SimulatedRuns (H : List ℕ → List ℕ) (t : Task) (p : Plan) (f : Other) (r : ℕ) : Type 0 where
  pub same : (ls : List Lot) → view_of (show_lots H (unaware f) t p r ls) ≡ simulated f t r (to_simulated H f t p r ls)
  pub there_fits : (ls : List Lot) → Lots t ls → Lots t (to_simulated H f t p r ls)
  pub back_fits : (ls : List Lot) → Lots t ls → Lots t (from_simulated f t p r ls)
  pub as_many : (ls : List Lot) → length (to_simulated H f t p r ls) ≡ length ls
  pub back_there : (ls : List Lot) → Lots t ls → from_simulated f t p r (to_simulated H f t p r ls) ≡ ls
  pub there_back : (ls : List Lot) → Lots t ls → to_simulated H f t p r (from_simulated f t p r ls) ≡ ls
  pub as_often : (test : View → Bool) (many : ℕ) →
      count (λ bs. test (view_of (showing H (unaware f) t p r bs))) (asks 256 many) ≡ count (λ bs. test (simulated f t r (lots_in t r bs))) (asks 256 many)

-- So it is of any plan that fits.
abbrev pub Simulates : (List ℕ → List ℕ) → Type 0
Simulates H = (t : Task) → Good t → t.paths ≤ 2 ^ 32 → (p : Plan) → T (fits t p) → (f : Other) (r : ℕ) → SimulatedRuns H t p f r

-- A showing of plan p in r rounds shows such an asker what is told without a plan.
abbrev pub ToldWithout : (List ℕ → List ℕ) → Task → Plan → ℕ → Type 0
ToldWithout H t p r = T (fits t p) → (f : Other) → SimulatedRuns H t p f r
