-- The run over drawn bytes is the run over the lots that they give. Assumes nothing.
use Rattle.std.proofs.Common.{◌≡◌, ℕ, zero, suc, ◌<◌, Bool, true, false, cond, ltb, List, ◌∷◌, length, refl, ap, ◌∙◌, subst, arith}
use Rattle.paths.specs.Plan.{Task}
use Rattle.drawing.specs.Drawing.{Drawn, drew, short}
use Rattle.tasks.specs.Reading.{Got, got, refused, and_then}
use Rattle.lots.specs.Lots.{Had, Lot, had_by, order_in, chances_in, lot_in, in_turn, each_as}
use Rattle.words.specs.Writing.{said_bytes}
use Rattle.round.specs.Round.{opened_for}
use Rattle.round.specs.Line.{Event, sent, heard, Other}
use Rattle.round.specs.Over.{Over, Leads, on, out}
use Rattle.planning.specs.Planning.{Ready, Closed, Opened, turn, ask_in, end_in, hear, settle}
use Rattle.planning.specs.Run.{and_on, run}
use Rattle.secrecy.specs.Lots.{close_lot, open_lot, run_lots, and_lots, lots_in, ByLots}

-- where nothing more is done
pub lots-out : (H : List ℕ → List ℕ) (other : Other) (left : ℕ) (o : Over) (ls : List Lot) (line : List Event) → run_lots H other left (out o) ls line ≡ record { line = line; over = o }
unfolding run_lots
lots-out H other zero o ls line = refl
lots-out H other (suc left) o ls line = refl

-- a state of this task
abbrev OfTask : Task → Leads Ready → Type 0
OfTask t (on s) = s.task ≡ t
OfTask t (out o) = Unit {0}

-- a lot is refused by fault 11 alone
had_short : {A : Type 0} (read : List ℕ → A) (d : Drawn) (f : ℕ) → had_by read d ≡ refused f → f ≡ 11
had_short read (drew ds left) f e = cc
had_short read short f e = cc

pub lot-short : (t : Task) (bs : List ℕ) (f : ℕ) → lot_in t bs ≡ refused f → f ≡ 11
lot-short t bs f e = go (order_in t.paths bs) refl e
  where
    chances : (b : Bool) (x : Had Lot) → cond b (got x) (refused 11) ≡ refused f → f ≡ 11
    chances true x q = cc
    chances false x q = cc

    go : (g : Got (Had (List ℕ))) → order_in t.paths bs ≡ g → and_then g (λ o. chances_in t.trains o.what o.left) ≡ refused f → f ≡ 11
    go (got o) q k = chances _ _ k
    go (refused j) q k = let a = had_short _ _ j q in cc

-- the state once pair i is opened
abbrev pub opened_by : Closed → List ℕ → ℕ → Opened
opened_by c w i = let r = c.ready in record { closed = c; ask = w; opened = said_bytes (opened_for r.task r.round r.plan c.lot i) }

module _ (H : List ℕ → List ℕ) (other : Other) (t : Task) where
  run_out : (left : ℕ) (bs : List ℕ) (o : Over) (line : List Event) → run H other left bs (out o) line ≡ record { line = line; over = o }
  unfolding run
  run_out zero bs o line = refl
  run_out (suc left) bs o line = refl

  turn-task : (s : Ready) → s.task ≡ t → OfTask t (turn s)
  turn-task s e = go (ltb s.round s.rounds) _
    where
      go : (b : Bool) (o : Over) → OfTask t (cond b (on s) (out o))
      go true o = e
      go false o = tt

  heard-task : (o : Opened) (w : List ℕ) → o.closed.ready.task ≡ t → OfTask t (and_on (hear o w) (settle H))
  heard-task o w e = go (end_in o.closed.ready.task o.closed.ready.round w) refl
    where
      go : (g : Got Bool) → end_in o.closed.ready.task o.closed.ready.round w ≡ g → OfTask t (and_on (hear o w) (settle H))
      go (got true) q = rw q (turn-task _ e)
      go (got false) q = rw q tt
      go (refused f) q = rw q tt

  open_task : (c : Closed) (line : List Event) → c.ready.task ≡ t → OfTask t (open_lot H other c line).to
  open_task c line e = go (ask_in c.ready.task c.ready.round (other line)) refl
    where
      go : (g : Got ℕ) → ask_in c.ready.task c.ready.round (other line) ≡ g → OfTask t (open_lot H other c line).to
      go (got i) q = let o = opened_by c (other line) i in rw q (heard-task o (other (sent o.opened ∷ heard (other line) ∷ line)) e)
      go (refused f) q = rw q tt

  abbrev Goes : ℕ → Type 0
  Goes left = (a : Leads Ready) → OfTask t a → (bs : List ℕ) (line : List Event) → run H other left bs a line ≡ run_lots H other left a (lots_in t left bs) line

  by_lot : (left : ℕ) → Goes left → (s : Ready) → s.task ≡ t → (bs : List ℕ) (line : List Event) (g : Got (Had Lot)) → lot_in t bs ≡ g →
      run H other (suc left) bs (on s) line ≡ run_lots H other (suc left) (on s) (lots_in t (suc left) bs) line
  unfolding run run_lots lots_in
  by_lot left more s e bs line (got h) q =
      let k : lot_in s.task bs ≡ got h = rw e q in
      rw (q, k) (more _ (open_task (close_lot H s h.what) _ e) h.left _)
  by_lot left more s e bs line (refused f) q =
      let k : lot_in s.task bs ≡ refused 11 = rw e (q ∙ ap refused (lot-short t bs f q)) in
      rw (q, k) (run_out left _ _ _)

  by_lots : (left : ℕ) → Goes left
  unfolding run run_lots lots_in
  by_lots zero (out o) e bs line = refl
  by_lots zero (on s) e bs line = refl
  by_lots (suc left) (out o) e bs line = refl
  by_lots (suc left) (on s) e bs line = by_lot left (by_lots left) s e bs line (lot_in t bs) refl

-- as many lots as rounds, or fewer
abbrev Counts : ℕ → List Lot → Got (Had (List Lot)) → Type 0
Counts r ls (got h) = ls ≡ h.what
Counts r ls (refused f) = length ls < r

count-more : (r : ℕ) (l : Lot) (ls : List Lot) (g : Got (Had (List Lot))) → Counts r ls g → Counts (suc r) (l ∷ ls) (each_as (λ xs. l ∷ xs) g)
count-more r l ls (got h) e = ap (λ xs. l ∷ xs) e
count-more r l ls (refused f) e = omega arith

counts : (t : Task) (r : ℕ) (bs : List ℕ) → Counts r (lots_in t r bs) (in_turn (lot_in t) r bs)
unfolding in_turn lots_in
counts t zero bs = refl
counts t (suc r) bs = go (lot_in t bs) (λ left. counts t r left)
  where
    go : (g : Got (Had Lot)) → ((left : List ℕ) → Counts r (lots_in t r left) (in_turn (lot_in t) r left)) →
        Counts (suc r) (and_lots g (lots_in t r)) (and_then g (λ h. each_as (λ xs. h.what ∷ xs) (in_turn (lot_in t) r h.left)))
    go (got h) more = count-more r h.what _ _ (more h.left)
    go (refused f) more = omega arith

pub by_lots-all : ByLots
by_lots-all t r bs =
    record {
      run = λ H other p. by_lots H other t r _ (turn-task H other t _ refl) bs _;
      enough = λ h e. subst (Counts r (lots_in t r bs)) e (counts t r bs);
      fewer = λ f e. subst (Counts r (lots_in t r bs)) e (counts t r bs);
    }
