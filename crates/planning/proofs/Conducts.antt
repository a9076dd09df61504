-- The planner's run keeps to its conduct. Assumes nothing.
use Rattle.std.proofs.Common.{◌≡◌, ℕ, zero, suc, ◌+◌, ◌*◌, ◌<◌, true, false, leb, ◌⊎◌, List, [], ◌∷◌, ◌++◌, reverse, length, refl, ap, ◌∙◌, inl, inr, append-nil, zero-add, arith}
use mathlib.Core.List.{reverse_aux}
use Rattle.std.proofs.lemmas.Bool.{cases_Bool, lt-ltb, le-ltb}
use Rattle.paths.specs.Plan.{Task, Plan}
use Rattle.tasks.specs.declared.task.Task.{Task as CodeTask}
use Rattle.tasks.specs.declared.plan.Plan.{Plan as CodePlan}
use Rattle.tasks.specs.Model.{task_of, plan_of}
use Rattle.drawing.specs.Drawing.{Drawn, drew, short}
use Rattle.tasks.specs.Reading.{Got, got, refused}
use Rattle.tasks.specs.Writing.{task_bytes}
use Rattle.book.specs.Chain.{after}
use Rattle.lots.specs.Lots.{Had, Lot, had_by, order_in, chances_in, lot_in}
use Rattle.words.specs.Said.{ask, end}
use Rattle.words.specs.Writing.{said_bytes, WordLaw}
use Rattle.words.proofs.Laws.{word_law}
use Rattle.round.specs.Over.{Over, out}
use Rattle.planning.specs.Planning.{Ready, Closed, Opened, turn, left_over, answer, hear, settle}
use Rattle.round.specs.Line.{Event, sent, heard, Other, SaysBytes, Ran}
use Rattle.planning.specs.Run.{Gone, and_on, sending, one_round, run}
use Rattle.planning.specs.Conduct.{boxes_word, opened_word, text, From, all_rounds, drawn_out, no_ask, no_pair, no_end, end0, end1, Conduct}
use Rattle.planning.proofs.Awaited.{AskHeard, asks, asks_none, asks_not, EndHeard, ends, ends_not, ask-heard, end-heard}

-- a lot is refused by fault 11 alone
had_short : {A : Type 0} (read : List ℕ → A) (d : Drawn) (f : ℕ) → had_by read d ≡ refused f → f ≡ 11
had_short read (drew ds left) f e = cc
had_short read short f e = cc

lot-short : (t : Task) (bs : List ℕ) (f : ℕ) → lot_in t bs ≡ refused f → f ≡ 11
lot-short t bs f e = go (order_in t.paths bs) refl
  where
    chances : (o : Had (List ℕ)) → (leb (32 * t.trains) (length o.left) ≡ true) ⊎ (leb (32 * t.trains) (length o.left) ≡ false) → chances_in t.trains o.what o.left ≡ refused f → f ≡ 11
    chances o (inl b) q = let r = rw b at q in cc
    chances o (inr b) q = let s : chances_in t.trains o.what o.left ≡ refused 11 = rw b refl in cc

    go : (g : Got (Had (List ℕ))) → order_in t.paths bs ≡ g → f ≡ 11
    go (got o) q = chances o (cases_Bool _) (rw q at e)
    go (refused j) q = let a = had_short _ _ j q in let b = rw q at e in cc

reverse_onto : {A : Type 0} (xs line ys : List A) → reverse_aux (reverse_aux xs line) ys ≡ reverse_aux line (xs ++ ys)
reverse_onto [] line ys = refl
reverse_onto (x ∷ xs) line ys = reverse_onto xs (x ∷ line) ys

run_out : (H : List ℕ → List ℕ) (other : Other) (left : ℕ) (drawn : List ℕ) (o : Over) (line : List Event) → run H other left drawn (out o) line ≡ record { line = line; over = o }
unfolding run
run_out H other zero drawn o line = refl
run_out H other (suc left) drawn o line = refl

module _ (H : List ℕ → List ℕ) (t : Task) (p : Plan) (r : ℕ) (law : WordLaw t) (other : Other) (bytes : SaysBytes other) where
  abbrev state : ℕ → List (List ℕ) → Ready
  state n ws = record { task = t; plan = p; rounds = r; round = n; digest = after H (task_bytes t) ws }

  -- after the line so far comes what can be there from round n on
  record Went (n : ℕ) (drawn : List ℕ) (ws : List (List ℕ)) (line : List Event) (ran : Ran) : Type 0 where
    rest : List Event
    is : ran.line ≡ reverse_aux rest line
    from : From H t p r n drawn ws rest ran.over

  -- the rounds that are left, from this one on, do so
  abbrev Goes : ℕ → Type 0
  Goes left = (n : ℕ) (drawn : List ℕ) (ws : List (List ℕ)) (line : List Event) → n + left ≡ r → Went n drawn ws line (run H other left drawn (turn (state n ws)) line)

  module _ (left n : ℕ) (ws : List (List ℕ)) (line : List Event) (less : n < r) (count : n + suc left ≡ r) (more : Goes left) (drawn : List ℕ) (h : Had Lot) (lot : lot_in t drawn ≡ got h) where
    abbrev closed : Closed
    closed = record { ready = state n ws; lot = h.what; boxes = boxes_word H t p r n h.what }

    module _ (i : ℕ) (there : i < length t.pairs) where
      abbrev opened : Opened
      opened = record { closed = closed; ask = said_bytes (ask n i); opened = opened_word H t p r n h.what i }

      abbrev before : List Event
      before = sent opened.opened ∷ heard opened.ask ∷ sent closed.boxes ∷ line

      by_end : (w : List ℕ) → EndHeard t n w → Went n drawn ws line (run H other left h.left (and_on (hear opened w) (settle H)) (heard w ∷ before))
      unfolding after
      by_end w (ends_not f q e) = rw (e, run_out) (record { rest = _; is = refl; from = no_end n drawn ws h i w f (less, lot) there q })
      by_end w (ends false s e) = rw (e, s, run_out) (record { rest = _; is = refl; from = end0 n drawn ws h i (less, lot) there })
      by_end w (ends true s e) =
          let g = more (n + 1) h.left (text H t p r n h.what i true ∷ ws) (heard (said_bytes (end n true)) ∷ before) (omega arith) in
          rw (e, s) (record { rest = _; is = g.is; from = end1 n drawn ws h i g.rest _ (less, lot) there g.from })

    abbrev asked : List ℕ → Gone
    asked w =
        sending (answer closed w) (λ o. o.opened) (heard w ∷ sent closed.boxes ∷ line) (λ o line.
        record { to = and_on (hear o (other line)) (settle H); line = heard (other line) ∷ line })

    by_ask : (w : List ℕ) → AskHeard t n w → Went n drawn ws line (run H other left h.left (asked w).to (asked w).line)
    by_ask w (asks_not f q e) = rw (e, run_out) (record { rest = _; is = refl; from = no_ask n drawn ws h w f (less, lot) q })
    by_ask w (asks_none i l s e) = rw (e, s, run_out) (record { rest = _; is = refl; from = no_pair n drawn ws h i (less, lot) l })
    by_ask w (asks i l s e) = rw (e, s) (by_end i l _ (end-heard t n _ law (bytes _)))

  by_lot : (left n : ℕ) (drawn : List ℕ) (ws : List (List ℕ)) (line : List Event) → n + suc left ≡ r → Goes left → (g : Got (Had Lot)) → lot_in t drawn ≡ g →
      Went n drawn ws line (run H other left (left_over t drawn) (one_round H other (state n ws) drawn line).to (one_round H other (state n ws) drawn line).line)
  by_lot left n drawn ws line c more (refused f) e =
      let q = lot-short t drawn f e in
      rw (e, run_out, q) (record { rest = []; is = refl; from = drawn_out n drawn ws (omega arith) (e ∙ ap refused q) })
  by_lot left n drawn ws line c more (got h) e = rw e (by_ask left n ws line (omega arith) c more drawn h e _ (ask-heard t n _ law (bytes _)))

  goes : (left : ℕ) → Goes left
  unfolding run
  goes zero n drawn ws line c =
      let e : n ≡ r = omega arith in
      rw (e, le-ltb r r (omega arith)) (record { rest = []; is = refl; from = all_rounds drawn ws })
  goes (suc left) n drawn ws line c = rw (lt-ltb n r (omega arith)) (by_lot left n drawn ws line c (goes left) (lot_in t drawn) refl)

pub conduct : (H : List ℕ → List ℕ) (t : Task) (p : Plan) (r : ℕ) → t.trains < 65536 → Conduct H t p r
conduct H t p r few other bytes drawn =
    let w = goes H t p r (word_law t few) other bytes r 0 drawn [] (sent (task_bytes t) ∷ []) (zero-add r) in
    (w.rest, ap reverse w.is ∙ (reverse_onto w.rest (sent (task_bytes t) ∷ []) [] ∙ ap (λ xs. sent (task_bytes t) ∷ xs) (append-nil w.rest)), w.from)

-- of a task and a plan of the code
pub conduct_of : (t : CodeTask) (p : CodePlan) (r : ℕ) (H : List ℕ → List ℕ) → Conduct H (task_of t) (plan_of p) r
conduct_of t p r H = conduct H (task_of t) (plan_of p) r (omega (arith, t.few_trains))
