-- Both sides joined by a faithful line. Assumes nothing.
use Rattle.std.proofs.Common.{◌≡◌, ℕ, zero, suc, ◌+◌, ◌^◌, ◌<◌, ◌≤◌, true, T, List, [], ◌∷◌, ◌++◌, reverse, length, drop, sym, refl, ap, ◌∙◌, zero-add, arith}
use mathlib.Core.List.{reverse_aux}
use Rattle.std.proofs.lemmas.List.{reverse-reverse}
use Rattle.std.proofs.lemmas.Bool.{lt-ltb, le-ltb, eq-eqb}
use Rattle.paths.specs.Count.{same_row}
use Rattle.paths.specs.Plan.{Task, Plan, fits, all_below}
use Rattle.drawing.specs.Drawing.{Drawn, drew, short, coin_moduli, coin_of}
use Rattle.tasks.specs.Reading.{Got, got, refused, and_then}
use Rattle.tasks.specs.Task.{sound}
use Rattle.tasks.specs.Writing.{task_bytes}
use Rattle.tasks.proofs.TaskLaws.{guarantees}
use Rattle.book.specs.Chain.{Sized, after}
use Rattle.paths.proofs.Same.{same_itself}
use Rattle.lots.specs.Lots.{Had, Lot, drawn, had_by, each_as, lot_in, question_in, in_turn}
use Rattle.lots.specs.Laws.{LotHad}
use Rattle.lots.proofs.Chances.{below-drop}
use Rattle.lots.proofs.Coins.{lot_coin, questions_had}
use Rattle.words.specs.Said.{task, boxes, ask, end}
use Rattle.words.specs.Reading.{read_word}
use Rattle.words.specs.Writing.{said_bytes}
use Rattle.round.specs.Line.{Event, sent, heard, Ran}
use Rattle.round.specs.Over.{Over, content, on}
use Rattle.round.specs.Round.{test_opened}
use Rattle.planning.specs.Planning as planning
use Rattle.planning.specs.Run.{and_on}
use Rattle.planning.specs.Conduct.{boxes_word, opened_word, text}
use Rattle.asking.specs.Asking as asking
use Rattle.asking.specs.Asking.{is_opened_of}
use Rattle.asking.proofs.Refusals.{too_few}
use Rattle.joined.specs.Side.{Side, says, hears, as_other, joined, given, exchanged}
use Rattle.joined.specs.Sides.{goes, plans, planner, asks, asker}
use Rattle.joined.specs.Joined.{round_on, Goes, all_rounds, planner_lacks, asker_lacks, both_lack, content_round, Together, Joins}
use Rattle.joined.proofs.Sides.{joined_is, sides_run}
use Rattle.joined.proofs.Written.{lot_had, task-reads, ask-reads, end_reads, boxes-reads, opened-reads, accepted}

-- too few bytes for a lot are fault 11
lot-short : (t : Task) (bs : List ℕ) → T (all_below 256 bs) → (f : ℕ) → lot_in t bs ≡ refused f → f ≡ 11
lot-short t bs below f e = go (drawn (coin_moduli t) bs) (rw e at (lot_coin t bs below))
  where
    go : (d : Drawn) → refused f ≡ had_by (coin_of t) d → f ≡ 11
    go (drew ds left) q = cc
    go short q = cc

-- two sides that say one word each in turn, twice
in_turn_lem : (b a o e : List ℕ) (p₁ p₂ a₁ a₂ : List ℕ → Side) {plan plan' asker asker' : Side} → plan ≡ says b (hears p₁) → asker ≡ hears a₁ → a₁ b ≡ says a (hears a₂) →
    p₁ a ≡ says o (hears p₂) → a₂ o ≡ says e asker' → p₂ e ≡ plan' → (line its_line : List Event) →
    (joined plan asker line ≡ joined plan' asker' (heard e ∷ sent o ∷ heard a ∷ sent b ∷ line)) ×
    (joined asker plan its_line ≡ joined asker' plan' (sent e ∷ heard o ∷ sent a ∷ heard b ∷ its_line))
unfolding joined given
in_turn_lem b a o e p₁ p₂ a₁ a₂ x y u v w z line its_line = (rw (x, y, u, v, w, z) refl, rw (x, y, u, v, w, z) refl)

module _ (H : List ℕ → List ℕ) (sized : Sized H) (t : Task) (good : sound t ≡ true) (p : Plan) (fp : fits t p ≡ true) (r : ℕ) (few : r ≤ 2 ^ 32) where
  abbrev planner_at : ℕ → List (List ℕ) → planning.Ready
  planner_at n ws = record { task = t; plan = p; rounds = r; round = n; digest = after H (task_bytes t) ws }

  abbrev asker_at : ℕ → List (List ℕ) → asking.Ready
  asker_at n ws = record { task = t; rounds = r; round = n; digest = after H (task_bytes t) ws }

  abbrev drew_at : ℕ → ℕ → List (List ℕ) → asking.Drawn
  drew_at n i ws = record { ready = asker_at n ws; pair = i }

  -- The steps of a round, by what the words are read as
  module _ (n i : ℕ) (ws : List (List ℕ)) (w : List ℕ) where
    asks_then : (ds : List ℕ) → read_word t w ≡ got (boxes n ds) → asking.question (drew_at n i ws) w ≡ on record { drawn = drew_at n i ws; boxes = w; ask = said_bytes (ask n i) }
    asks_then ds e = rw (e, eq-eqb n n refl) refl

    answers_then : (l : Lot) (bs : List ℕ) → i < length t.pairs → read_word t w ≡ got (ask n i) →
        let c : planning.Closed = record { ready = planner_at n ws; lot = l; boxes = bs } in
        planning.answer c w ≡ on record { closed = c; ask = w; opened = opened_word H t p r n l i }
    answers_then l bs k e = rw (e, eq-eqb n n refl, lt-ltb i _ k) refl

    tests_then : (bs a : List ℕ) → is_opened_of n (read_word t w) ≡ true → and_then (read_word t w) (test_opened H t n i (drop 7 bs)) ≡ got tt →
        let s : asking.Asked = record { drawn = drew_at n i ws; boxes = bs; ask = a } in
        asking.test H s w ≡ record { asked = s; opened = w; end = said_bytes (end n true); test = got tt }
    tests_then bs a k e = rw (k, e) refl

    hears_then : (l : Lot) (bs a o : List ℕ) → read_word t w ≡ got (end n true) →
        let s : planning.Opened = record { closed = record { ready = planner_at n ws; lot = l; boxes = bs }; ask = a; opened = o } in
        planning.hear s w ≡ on record { opened = s; end = w; content = true }
    hears_then l bs a o e = rw (e, eq-eqb n n refl) refl

  -- A round in which both drew
  module _ (left n : ℕ) (ws : List (List ℕ)) (less : n < r) (drawn its-drawn : List ℕ) (h : Had Lot) (q : Had ℕ) (lot : lot_in t drawn ≡ got h) (question : question_in t its-drawn ≡ got q) (had : LotHad t drawn h) (there : q.what < length t.pairs) where
    abbrev boxes_w : List ℕ
    boxes_w = boxes_word H t p r n h.what

    abbrev ask_w : List ℕ
    ask_w = said_bytes (ask n q.what)

    abbrev opened_w : List ℕ
    opened_w = opened_word H t p r n h.what q.what

    abbrev end_w : List ℕ
    end_w = said_bytes (end n true)

    abbrev closed : planning.Closed
    closed = record { ready = planner_at n ws; lot = h.what; boxes = boxes_w }

    abbrev opened' : planning.Opened
    opened' = record { closed = closed; ask = ask_w; opened = opened_w }

    abbrev asked : asking.Asked
    asked = record { drawn = drew_at n q.what ws; boxes = boxes_w; ask = ask_w }

    abbrev later : List (List ℕ)
    later = text H t p r n h.what q.what true ∷ ws

    abbrev on_end : planning.Opened → List ℕ → Side
    on_end o v = plans H left h.left (and_on (planning.hear o v) (planning.settle H))

    abbrev on_ask : List ℕ → Side
    on_ask w = goes (planning.answer closed w) (λ o. says o.opened (hears (on_end o)))

    abbrev on_opened : asking.Asked → List ℕ → Side
    on_opened a v = says (asking.test H a v).end (asks H left q.left (asking.settle H (asking.test H a v)))

    abbrev on_boxes : List ℕ → Side
    on_boxes w = goes (asking.question asked.drawn w) (λ a. says a.ask (hears (on_opened a)))

    round-joined :
        let plan = plans H (suc left) drawn (on (planner_at n ws)) in
        let asker = asks H (suc left) its-drawn (on (asker_at n ws)) in
        let plan' = plans H left h.left (planning.turn (planner_at (n + 1) later)) in
        let asker' = asks H left q.left (asking.turn (asker_at (n + 1) later)) in
        (line its_line : List Event) →
        (joined plan asker line ≡ joined plan' asker' (reverse_aux (round_on H t p r n h.what q.what) line)) ×
        (joined asker plan its_line ≡ joined asker' plan' (reverse_aux (exchanged (round_on H t p r n h.what q.what)) its_line))
    unfolding plans asks after
    round-joined =
        let opened_read = opened-reads H sized t good p fp r few n h.what had.chances q.what less there in
        let is-opened = ap (is_opened_of n) opened_read ∙ eq-eqb n n refl in
        let passes = ap (λ g. and_then g (test_opened H t n q.what (drop 7 boxes_w))) opened_read ∙ accepted H sized t good p fp r few drawn h had n q.what there in
        in_turn_lem boxes_w ask_w opened_w end_w on_ask (on_end opened') on_boxes (on_opened asked)
        (rw lot refl)
        (rw question refl)
        (ap (λ x. goes x (λ a. says a.ask (hears (on_opened a)))) (asks_then n q.what ws boxes_w _ (boxes-reads H sized t good p fp r few n h.what less)))
        (ap (λ x. goes x (λ o. says o.opened (hears (on_end o)))) (answers_then n q.what ws ask_w h.what boxes_w there (ask-reads H sized t good p fp r few n q.what less there)))
        (ap (λ (x : asking.Tested). says x.end (asks H left q.left (asking.settle H x))) (tests_then n q.what ws opened_w boxes_w ask_w is-opened passes))
        (ap (λ x. plans H left h.left (and_on x (planning.settle H))) (hears_then n q.what ws end_w h.what boxes_w ask_w opened_w (end_reads H sized t good p fp r few n true less)))

  -- after what was on both lines comes what goes on from round n
  record Went (n : ℕ) (drawn its-drawn : List ℕ) (ws : List (List ℕ)) (line its_line : List Event) (planned asked : Ran) : Type 0 where
    rest : List Event
    its_rest : List Event
    is : planned.line ≡ reverse_aux rest line
    its : asked.line ≡ reverse_aux its_rest its_line
    goes_on : Goes H t p r n drawn its-drawn ws rest planned.over its_rest asked.over

  abbrev More : ℕ → Type 0
  More left =
      (n : ℕ) (drawn its-drawn : List ℕ) (ws : List (List ℕ)) (line its_line : List Event) → n + left ≡ r → T (all_below 256 drawn) →
      let plan = plans H left drawn (planning.turn (planner_at n ws)) in
      let asker = asks H left its-drawn (asking.turn (asker_at n ws)) in
      Went n drawn its-drawn ws line its_line (joined plan asker line) (joined asker plan its_line)

  module _ (left n : ℕ) (drawn its-drawn : List ℕ) (ws : List (List ℕ)) (line its_line : List Event) (count : n + suc left ≡ r) (below : T (all_below 256 drawn)) (more : More left) where
    abbrev Here : Type 0
    Here =
        let plan = plans H (suc left) drawn (on (planner_at n ws)) in
        let asker = asks H (suc left) its-drawn (on (asker_at n ws)) in
        Went n drawn its-drawn ws line its_line (joined plan asker line) (joined asker plan its_line)

    less : n < r
    less = omega arith

    both_drew : (h : Had Lot) (q : Had ℕ) → lot_in t drawn ≡ got h → question_in t its-drawn ≡ got q → Here
    both_drew h q lot question =
        let had = lot_had H sized t good p fp r few drawn below h lot in
        let there = (questions_had t (guarantees t good).some_pair (omega (arith, (guarantees t good).few_pairs)) its-drawn q question).pair in
        let rest : T (all_below 256 h.left) = rw had.rest.1 (below-drop 256 had.rest.0 drawn below) in
        let e = round-joined left n ws less drawn its-drawn h q lot question had there line its_line in
        let events = round_on H t p r n h.what q.what in
        let w = more (n + 1) h.left q.left (later left n ws less drawn its-drawn h q lot question had there) (reverse_aux events line) (reverse_aux (exchanged events) its_line) (omega arith) rest in
        rw (e.0, e.1) (record {
          rest = events ++ w.rest;
          its_rest = exchanged events ++ w.its_rest;
          is = w.is;
          its = w.its;
          goes_on = content_round n drawn its-drawn ws h q w.rest w.its_rest _ _ less lot question w.goes_on;
        })

    by_draws : (g : Got (Had Lot)) → lot_in t drawn ≡ g → (k : Got (Had ℕ)) → question_in t its-drawn ≡ k → Here
    unfolding plans asks joined given
    by_draws (got h) lot (got q) question = both_drew h q lot question
    by_draws (refused f) lot (got q) question =
        let none = lot ∙ ap refused (lot-short t drawn below f lot) in
        rw (none, question) (record { rest = []; its_rest = heard [] ∷ []; is = refl; its = refl; goes_on = planner_lacks n drawn its-drawn ws q less none question })
    by_draws (got h) lot (refused f) question =
        let none = question ∙ ap refused (too_few t its-drawn f question) in
        rw (lot, none) (record { rest = _; its_rest = []; is = refl; its = refl; goes_on = asker_lacks n drawn its-drawn ws h less lot none })
    by_draws (refused f) lot (refused j) question =
        let none = lot ∙ ap refused (lot-short t drawn below f lot) in
        let none' = question ∙ ap refused (too_few t its-drawn j question) in
        rw (none, none') (record { rest = []; its_rest = []; is = refl; its = refl; goes_on = both_lack n drawn its-drawn ws less none none' })

  all_rounds_lem : (left : ℕ) → More left
  unfolding plans asks joined
  all_rounds_lem zero n drawn its-drawn ws line its_line c below =
      let e : n ≡ r = omega arith in
      rw (e, le-ltb r r (omega arith)) (record { rest = []; its_rest = []; is = refl; its = refl; goes_on = all_rounds drawn its-drawn ws })
  all_rounds_lem (suc left) n drawn its-drawn ws line its_line c below =
      rw (lt-ltb n r (omega arith)) (by_draws left n drawn its-drawn ws line its_line c below (all_rounds_lem left) _ refl _ refl)

  -- both books are of the same rounds
  same-rounds : {n : ℕ} {drawn its-drawn : List ℕ} {ws : List (List ℕ)} {line its_line : List Event} {o o' : Over} → Goes H t p r n drawn its-drawn ws line o its_line o' →
      (rounds : List (List ℕ)) × (o.digest ≡ after H (task_bytes t) rounds) × (o'.digest ≡ after H (task_bytes t) rounds)
  same-rounds (all_rounds drawn its-drawn ws) = (ws, refl, refl)
  same-rounds (planner_lacks n drawn its-drawn ws q k e f) = (ws, refl, refl)
  same-rounds (asker_lacks n drawn its-drawn ws h k e f) = (ws, refl, refl)
  same-rounds (both_lack n drawn its-drawn ws k e f) = (ws, refl, refl)
  same-rounds (content_round n drawn its-drawn ws h q line its_line o o' k e f more) = same-rounds more

  -- drawn bytes that are enough for the rounds that are left

  each-got : {A B : Type 0} (f : A → B) (g : Got (Had A)) (x : Had B) → each_as f g ≡ got x → (y : Had A) × (g ≡ got y)
  each-got f (got y) x e = (y, refl)
  each-got f (refused n) x e = cc

  more-in_turn : {A : Type 0} (one : List ℕ → Got (Had A)) (left : ℕ) (bs : List ℕ) (h : Had A) (xs : Had (List A)) → one bs ≡ got h → in_turn one (suc left) bs ≡ got xs →
      (ys : Had (List A)) × (in_turn one left h.left ≡ got ys)
  unfolding in_turn
  more-in_turn one left bs h xs e k = each-got _ _ xs (rw e at k)

  none-in_turn : {A P : Type 0} (one : List ℕ → Got (Had A)) (n left : ℕ) (bs : List ℕ) (xs : Had (List A)) → n < r → n + left ≡ r → one bs ≡ refused 11 → in_turn one left bs ≡ got xs → P
  unfolding in_turn
  none-in_turn one n zero bs xs k c e j = absurd (omega arith)
  none-in_turn one n (suc left) bs xs k c e j = let z = rw e at j in cc

  abbrev Content : List Event → Over → List Event → Over → Type 0
  Content line o its_line o' = (o.outcome ≡ content r) × (o' ≡ o) × (its_line ≡ exchanged line)

  all_content_lem : {n : ℕ} {drawn its-drawn : List ℕ} {ws : List (List ℕ)} {line its_line : List Event} {o o' : Over} → Goes H t p r n drawn its-drawn ws line o its_line o' →
      (left : ℕ) → n + left ≡ r → (xs : Had (List Lot)) (ys : Had (List ℕ)) → in_turn (lot_in t) left drawn ≡ got xs → in_turn (question_in t) left its-drawn ≡ got ys → Content line o its_line o'
  all_content_lem (all_rounds drawn its-drawn ws) left c xs ys x y = (refl, refl, refl)
  all_content_lem (planner_lacks n drawn its-drawn ws q k e f) left c xs ys x y = none-in_turn (lot_in t) n left drawn xs k c e x
  all_content_lem (asker_lacks n drawn its-drawn ws h k e f) left c xs ys x y = none-in_turn (question_in t) n left its-drawn ys k c f y
  all_content_lem (both_lack n drawn its-drawn ws k e f) left c xs ys x y = none-in_turn (lot_in t) n left drawn xs k c e x
  all_content_lem (content_round n drawn its-drawn ws h q line its_line o o' k e f more) zero c xs ys x y = absurd (omega arith)
  all_content_lem (content_round n drawn its-drawn ws h q line its_line o o' k e f more) (suc left) c xs ys x y =
      let x' = more-in_turn (lot_in t) left drawn h xs e x in
      let y' = more-in_turn (question_in t) left its-drawn q ys f y in
      let z = all_content_lem more left (omega arith) x'.0 y'.0 x'.1 y'.1 in
      (z.0, z.1, ap (λ ls. exchanged (round_on H t p r n h.what q.what) ++ ls) z.2)

  exchanged-back : (xs line : List Event) → exchanged (reverse_aux xs line) ≡ reverse_aux (exchanged xs) (exchanged line)
  exchanged-back [] line = refl
  exchanged-back (x ∷ xs) line = exchanged-back xs (x ∷ line)

  -- The whole, from the Task on

  together : {drawn its-drawn : List ℕ} {planned asked x y : Ran} → planned ≡ x → asked ≡ y → Went 0 drawn its-drawn [] (sent (task_bytes t) ∷ []) (heard (task_bytes t) ∷ []) x y →
      Together H t p r drawn its-drawn planned asked
  together e f w =
      rw (e, f) (record {
        line = w.rest;
        its_line = w.its_rest;
        line_is = ap reverse w.is ∙ reverse-reverse (sent (task_bytes t) ∷ w.rest);
        its_line_is = ap reverse w.its ∙ reverse-reverse (heard (task_bytes t) ∷ w.its_rest);
        goes = w.goes_on;
        rounds = (same-rounds w.goes_on).0;
        book = (same-rounds w.goes_on).1;
        its_book = (same-rounds w.goes_on).2;
        enough = λ lots questions x y.
            let z = all_content_lem w.goes_on r (zero-add r) lots questions x y in
            let back = exchanged-back w.rest (sent (task_bytes t) ∷ []) in
            (z.0, z.1, w.its ∙ (ap (λ ls. reverse_aux ls (heard (task_bytes t) ∷ [])) z.2 ∙ (sym back ∙ ap exchanged (sym w.is))));
      })

  meets : (w : List ℕ) → read_word t w ≡ got (task w) → same_row w (task_bytes t) ≡ true → asking.meet H record { task = t; rounds = r } w ≡ asking.turn (asker_at 0 [])
  unfolding after
  meets w e same = rw (e, same) refl

  met : asking.meet H record { task = t; rounds = r } (task_bytes t) ≡ asking.turn (asker_at 0 [])
  met = meets (task_bytes t) (task-reads H sized t good p fp r few) (same_itself (task_bytes t))

pub joins : Joins
unfolding joined given
joins H sized t good p fp r few drawn its-drawn below =
    let m = met H sized t good p fp r few in
    let plan = planner H t p r drawn in
    let asks-on = asker H t r its-drawn in
    let plan-on = plans H r drawn (planning.turn (planner_at H sized t good p fp r few 0 [])) in
    let planned = (sides_run H).planner_runs (as_other asks-on) t p r drawn ∙ (joined_is plan asks-on ∙ ap (λ x. joined plan-on (asks H r its-drawn x) (sent (task_bytes t) ∷ [])) m) in
    let asked = (sides_run H).asker_runs (as_other plan) t r its-drawn ∙ (joined_is asks-on plan ∙ ap (λ x. joined (asks H r its-drawn x) plan-on (heard (task_bytes t) ∷ [])) m) in
    let w = all_rounds_lem H sized t good p fp r few r 0 drawn its-drawn [] (sent (task_bytes t) ∷ []) (heard (task_bytes t) ∷ []) (zero-add r) below in
    together H sized t good p fp r few planned asked w
