-- What is properly asked for is opened so that it is accepted. Assumes nothing.
use Rattle.std.proofs.Common.{◌≡◌, ℕ, zero, suc, ◌+◌, ◌^◌, ◌<◌, ◌≤◌, Bool, true, false, T, List, [], ◌∷◌, reverse, length, sym, refl, ap, ◌∙◌, subst, zero-add, arith}
use mathlib.Core.List.{reverse_aux}
use Rattle.std.proofs.lemmas.List.{reverse-reverse}
use Rattle.std.proofs.lemmas.Bool.{lt-ltb, le-ltb}
use Rattle.paths.specs.Plan.{Task, Plan, fits, all_below}
use Rattle.tasks.specs.Reading.{Got, got, refused, and_then}
use Rattle.tasks.specs.Task.{sound}
use Rattle.tasks.specs.Writing.{task_bytes}
use Rattle.book.specs.Chain.{Sized, after}
use Rattle.boxes.specs.Box.{boxes_of}
use Rattle.lots.specs.Lots.{Had, Lot, lot_in}
use Rattle.lots.specs.Laws.{LotHad}
use Rattle.lots.proofs.Chances.{below-drop}
use Rattle.words.specs.Said.{ask}
use Rattle.words.specs.Reading.{read_word}
use Rattle.words.specs.Writing.{said_bytes}
use Rattle.round.specs.Round.{held, boxes_for, opened_for}
use Rattle.round.specs.Line.{Event, sent, heard, Other, Ran}
use Rattle.round.specs.Over.{on}
use Rattle.planning.specs.Planning.{Ready, Closed, Opened, turn, on_ask, ask_in, end_in, answer, hear, settle}
use Rattle.planning.specs.Run.{and_on}
use Rattle.joined.specs.Side.{says, hears, against}
use Rattle.joined.specs.Sides.{goes, plans}
use Rattle.joined.specs.Answered.{Accepted, AnsweredHere, Answered, Completes}
use Rattle.joined.proofs.Sides.{sides_run, plans-out}
use Rattle.joined.proofs.Written.{ask_had, asked_for, lot_had, task-reads, boxes-reads, opened-reads, accepted}

module _ (H : List ℕ → List ℕ) (sized : Sized H) (t : Task) (good : sound t ≡ true) (p : Plan) (fp : fits t p ≡ true) (r : ℕ) (few : r ≤ 2 ^ 32) (other : Other) where
  abbrev state : ℕ → List ℕ → Ready
  state n digest = record { task = t; plan = p; rounds = r; round = n; digest = digest }

  -- what follows on the line is answered
  record Went (line : List Event) (ran : Ran) : Type 0 where
    rest : List Event
    is : ran.line ≡ reverse_aux rest line
    well : Answered H t rest

  abbrev Goes : ℕ → Type 0
  Goes left = (n : ℕ) (drawn digest : List ℕ) (line : List Event) → n + left ≡ r → T (all_below 256 drawn) → Went line (against other (plans H left drawn (turn (state n digest))) line)

  module _ (left n : ℕ) (digest : List ℕ) (line : List Event) (less : n < r) (count : n + suc left ≡ r) (more : Goes left) (drawn : List ℕ) (h : Had Lot) (had : LotHad t drawn h) (below : T (all_below 256 h.left)) where
    abbrev closed : Closed
    closed = record { ready = state n digest; lot = h.what; boxes = said_bytes (boxes_for H n p h.what) }

    abbrev digests : List ℕ
    digests = boxes_of H n 0 (held p h.what.order) h.what.chances

    -- the Boxes of this round, and then these bytes
    here : (w : List ℕ) (rest : List Event) → ((i : ℕ) → read_word t w ≡ got (ask n i) → i < length t.pairs → Accepted H t n i digests rest) →
        AnsweredHere H t (sent closed.boxes) (heard w ∷ rest)
    here w rest opens m i ds b a k =
        let e = boxes-reads H sized t good p fp r few n h.what less in
        let m-is : n ≡ m = cc in
        let ds-is : digests ≡ ds = cc in
        subst (λ xs. Accepted H t m i xs rest) ds-is (subst (λ x. Accepted H t x i digests rest) m-is (opens i (a ∙ ap (λ x. got (ask x i)) (sym m-is)) k))

    module _ (w : List ℕ) (i : ℕ) (asks : ask_in t n w ≡ got i) where
      there : i < length t.pairs
      there = (ask_had t n i (read_word t w) asks).1

      abbrev opened : Opened
      opened = record { closed = closed; ask = w; opened = said_bytes (opened_for t n p h.what i) }

      opened_read : read_word t opened.opened ≡ got (opened_for t n p h.what i)
      opened_read = opened-reads H sized t good p fp r few n h.what had.chances i less there

      -- the pair is opened, these bytes are heard, and what follows is answered
      abbrev events : List ℕ → List Event → List Event
      events v rest = sent closed.boxes ∷ heard w ∷ sent opened.opened ∷ heard v ∷ rest

      round_well : (v : List ℕ) (rest : List Event) → Answered H t rest → Answered H t (events v rest)
      unfolding Answered against
      round_well v rest well = (here w (sent opened.opened ∷ heard v ∷ rest) opens, (tt, ((λ m j ds b. cc (b, opened_read)), (tt, well))))
        where
          opens : (j : ℕ) → read_word t w ≡ got (ask n j) → j < length t.pairs → Accepted H t n j digests (sent opened.opened ∷ heard v ∷ rest)
          opens j a k =
              let e = (ask_had t n i (read_word t w) asks).0 in
              let j-is : i ≡ j = cc in
              subst (λ x. Accepted H t n x digests (sent opened.opened ∷ heard v ∷ rest)) j-is
              (opened_for t n p h.what i, opened_read, accepted H sized t good p fp r few drawn h had n i there)

      abbrev before : List Event
      before = sent opened.opened ∷ heard w ∷ sent closed.boxes ∷ line

      by_end : (v : List ℕ) (g : Got Bool) → end_in t n v ≡ g → Went line (against other (plans H left h.left (and_on (hear opened v) (settle H))) (heard v ∷ before))
      unfolding Answered against
      by_end v (refused f) e = rw (e, plans-out) (record { rest = events v []; is = refl; well = round_well v [] tt })
      by_end v (got false) e = rw (e, plans-out) (record { rest = events v []; is = refl; well = round_well v [] tt })
      by_end v (got true) e = let g = more (n + 1) h.left _ (heard v ∷ before) (omega arith) below in rw e (record { rest = events v g.rest; is = g.is; well = round_well v g.rest g.well })

    by_ask : (w : List ℕ) (g : Got ℕ) → ask_in t n w ≡ g →
        Went line (against other (goes (answer closed w) (λ o. says o.opened (hears (λ v. plans H left h.left (and_on (hear o v) (settle H)))))) (heard w ∷ sent closed.boxes ∷ line))
    unfolding Answered against
    by_ask w (refused f) e =
        let well : Answered H t (sent closed.boxes ∷ heard w ∷ []) = (here w [] (λ i a k. cc (ap (λ x. and_then x (on_ask t n)) a ∙ asked_for t n i k, e)), (tt, tt)) in
        rw e (record { rest = sent closed.boxes ∷ heard w ∷ []; is = refl; well = well })
    by_ask w (got i) e = rw e (by_end w i e (other (sent (said_bytes (opened_for t n p h.what i)) ∷ heard w ∷ sent closed.boxes ∷ line)) _ refl)

  by_lot : (left n : ℕ) (drawn digest : List ℕ) (line : List Event) → n + suc left ≡ r → T (all_below 256 drawn) → Goes left → (g : Got (Had Lot)) → lot_in t drawn ≡ g →
      Went line (against other (plans H (suc left) drawn (on (state n digest))) line)
  unfolding Answered against plans
  by_lot left n drawn digest line c below more (refused f) e = rw e (record { rest = []; is = refl; well = tt })
  by_lot left n drawn digest line c below more (got h) e =
      let had = lot_had H sized t good p fp r few drawn below h e in
      let rest : T (all_below 256 h.left) = rw had.rest.1 (below-drop 256 had.rest.0 drawn below) in
      rw e (by_ask left n digest line (omega arith) c more drawn h had rest (other (sent (said_bytes (boxes_for H n p h.what)) ∷ line)) _ refl)

  all_well : (left : ℕ) → Goes left
  unfolding Answered against plans
  all_well zero n drawn digest line c below = rw (le-ltb n r (omega arith)) (record { rest = []; is = refl; well = tt })
  all_well (suc left) n drawn digest line c below = rw (lt-ltb n r (omega arith)) (by_lot left n drawn digest line c below (all_well left) (lot_in t drawn) refl)

  -- the Task is no Boxes
  first : (rest : List Event) → AnsweredHere H t (sent (task_bytes t)) rest
  first [] = tt
  first (sent w ∷ rest) = tt
  first (heard w ∷ rest) = λ m i ds b. cc (b, task-reads H sized t good p fp r few)

pub completes : Completes
unfolding Answered against
completes H sized t good p fp r few other drawn below =
    let w = all_well H sized t good p fp r few other r 0 drawn (after H (task_bytes t) []) (sent (task_bytes t) ∷ []) (zero-add r) below in
    let e = ap (λ x. x.line) ((sides_run H).planner_runs other t p r drawn) ∙ w.is in
    subst (Answered H t) (sym (ap reverse e ∙ reverse-reverse (sent (task_bytes t) ∷ w.rest))) (first H sized t good p fp r few other w.rest, w.well)
