-- The planner opens boxes of the coin that it draws. Assumes nothing.
use Rattle.std.proofs.Common.{◌≡◌, ℕ, ◌<◌, ltb, List, [], length, sym, refl, ap, ◌∙◌, arith}
use Rattle.std.proofs.lemmas.Bool.{ltb-true}
use Rattle.paths.specs.Plan.{Task}
use Rattle.tasks.specs.Reading.{Got, got, refused, and_then}
use Rattle.tasks.proofs.Units.{cond-got, then_got}
use Rattle.fitting.specs.Pairs.{asked_pair}
use Rattle.lots.specs.Lots.{Had, Lot, lot_in, coin_of_lot, each_as}
use Rattle.lots.proofs.Coins.{lot_coin, lots_had}
use Rattle.words.specs.Awaited.{on_ask as on_this_ask}
use Rattle.words.specs.Reading.{read_word}
use Rattle.words.specs.Writing.{said_bytes}
use Rattle.round.specs.Over.{Leads, on, out}
use Rattle.round.specs.Round.{boxes_for, opened_for}
use Rattle.round.proofs.Opens.{opens_by_lot}
use Rattle.planning.specs.Planning.{Opened, led, on_ask, ask_in}
use Rattle.planning.specs.Opens.{DrawnAnswer, AnswersAreDrawn}

abbrev opened_in : Leads Opened → List ℕ
opened_in (on o) = o.opened
opened_in (out o) = []

-- a question that was taken is for a pair that is there
pub asked-there : (t : Task) (n i : ℕ) (w : List ℕ) → ask_in t n w ≡ got i → i < length t.pairs
asked-there t n i w e =
    let x = then_got (read_word t w) (on_ask t n) i e in
    let j = then_got (on_this_ask n x.0) (λ j. and_then (asked_pair t j) (λ _. got j)) i x.2 in
    let p = then_got (asked_pair t j.0) (λ _. got j.0) i j.2 in
    let same : j.0 ≡ i = cc p.2 in
    omega (arith, ltb-true _ _ (cond-got (ltb j.0 (length t.pairs)) 7 _ p.0 p.1).0)

pub answers_drawn : AnswersAreDrawn
answers_drawn H s good few bs b w o e = by_lot (lot_in s.task bs) refl
  where
    by_ask : (h : Had Lot) → lot_in s.task bs ≡ got h → (g : Got ℕ) → ask_in s.task s.round w ≡ g →
        led s (and_then g (λ i. got record { closed = record { ready = s; lot = h.what; boxes = said_bytes (boxes_for H s.round s.plan h.what) }; ask = w; opened = said_bytes (opened_for s.task s.round s.plan h.what i) })) ≡ on o →
        DrawnAnswer s bs w o
    by_ask h l (refused f) a q = cc
    by_ask h l (got i) a q =
        let z : o.opened ≡ said_bytes (opened_for s.task s.round s.plan h.what i) = sym (ap opened_in q) in
        record {
          pair = i;
          asked = a;
          coin = record { what = coin_of_lot s.task h.what; left = h.left };
          draws = sym (lot_coin s.task bs b) ∙ ap (each_as (coin_of_lot s.task)) l;
          opens = rw z (opens_by_lot s.task good s.plan h.what (lots_had s.task few bs b h l).chances s.round i (asked-there s.task s.round i w a));
        }

    by_lot : (g : Got (Had Lot)) → lot_in s.task bs ≡ g → DrawnAnswer s bs w o
    by_lot (refused f) l = let q = rw l at e in cc
    by_lot (got h) l = by_ask h l (ask_in s.task s.round w) refl (rw l at e)
