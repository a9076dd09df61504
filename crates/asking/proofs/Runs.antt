-- Every run of the asker is as the protocol says. Assumes nothing.
use Rattle.std.proofs.Common.{◌≡◌, ℕ, zero, suc, ◌+◌, ◌*◌, ◌<◌, Bool, true, false, cond, List, [], ◌∷◌, reverse, length, drop, sym, refl, ap, ◌∙◌, subst, arith}
use mathlib.Core.List.{reverse_aux}
use Rattle.std.proofs.lemmas.List.{reverse-reverse}
use Rattle.std.proofs.lemmas.Bool.{lt-ltb, le-ltb, eq-eqb}
use Rattle.paths.specs.Plan.{Task, all_below}
use Rattle.tasks.specs.declared.task.Task.{Task as CodeTask}
use Rattle.tasks.specs.Model.{task_of}
use Rattle.tasks.specs.Reading.{Got, Looked, got, refused, and_then}
use Rattle.tasks.specs.Task.{sound}
use Rattle.tasks.specs.Writing.{task_bytes}
use Rattle.tasks.proofs.TaskLaws.{guarantees}
use Rattle.boxes.specs.Box.{Opening}
use Rattle.book.specs.Chain.{after, next_digest}
use Rattle.book.specs.Lengths.{round_text}
use Rattle.lots.specs.Lots.{Had, question_in}
use Rattle.words.specs.Said.{boxes, ask, opened, end}
use Rattle.words.specs.Reading.{read_word}
use Rattle.words.specs.Awaited.{on_boxes}
use Rattle.words.specs.Writing.{said_bytes, is_got}
use Rattle.round.specs.Over.{Over, content, fault, task_fault, Leads, on, out}
use Rattle.round.specs.Round.{test_opened}
use Rattle.asking.specs.Asking.{Ready, led, turn, begun, on_task, is_opened_of, settled}
use Rattle.round.specs.Line.{Event, sent, heard, Other, SaysBytes, Ran}
use Rattle.asking.specs.Run.{Gone, going_on, asked, boxed, left_in, run}
use Rattle.round.specs.Contents.{Contents}
use Rattle.asking.specs.Conduct.{NoTask, Whole, no_task, own_task, ends1, Conducted, Conduct, kept, text, ends_by, From, all_rounds, drawn_out, no_boxes, end0, end1}
use Rattle.asking.proofs.Answered.{sound_of}
use Rattle.asking.proofs.Refusals.{too_few, pair_there, task-refused, task-met, own_met, as_said, boxes-refused, boxes-met, refuses}
use Rattle.round.proofs.Contents.{contents}

ends1-back : (events line : List Event) → ends1 (reverse_aux events line) ≡ ends1 events + ends1 line
unfolding ends1
ends1-back [] line = omega arith
ends1-back (sent w ∷ events) line = omega (arith, ends1-back events (sent w ∷ line))
ends1-back (heard w ∷ events) line = ends1-back events (heard w ∷ line)

module _ (H : List ℕ → List ℕ) (t : Task) (good : sound t ≡ true) (r : ℕ) (other : Other) (below : SaysBytes other) where
  few : t.trains < 65536
  few = omega (arith, (guarantees t good).few_trains)

  -- before round n, with these rounds closed
  abbrev ready : ℕ → List (List ℕ) → Ready
  ready n ws = record { task = t; rounds = r; round = n; digest = after H (task_bytes t) ws }

  -- what was on the line is followed by what can be there from round n on
  abbrev Goes : ℕ → List ℕ → List (List ℕ) → List Event → Ran → Type 0
  Goes n drawn ws line x = (events : List Event) × (x.line ≡ reverse_aux events line) × From H t r n drawn ws events x.over

  run_out : (left : ℕ) (drawn : List ℕ) (o : Over) (line : List Event) → run H other left drawn (out o) line ≡ record { line = line; over = o }
  unfolding run
  run_out zero drawn o line = refl
  run_out (suc left) drawn o line = refl

  -- from round n + 1 on all is well
  abbrev Later : ℕ → ℕ → Type 0
  Later left n = (drawn : List ℕ) (ws : List (List ℕ)) (line : List Event) → Goes (n + 1) drawn ws line (run H other left drawn (turn (ready (n + 1) ws)) line)

  -- Round n
  module _ (left n : ℕ) (k : n < r) (later : Later left n) (drawn : List ℕ) (ws : List (List ℕ)) (line : List Event) where
    -- its question is drawn
    module _ (h : Had ℕ) (q : question_in t drawn ≡ got h) where
      abbrev asks : List ℕ
      asks = said_bytes (ask n h.what)

      -- the Boxes v with digests ds came, and then the answer w
      module _ (ds : List ℕ) (l : length ds ≡ 32 * t.trains) (v : List ℕ) (e : v ≡ said_bytes (boxes n ds)) (w : List ℕ) (b : all_below 256 w ≡ true) where
        abbrev tests : List ℕ → Got Looked
        tests digests = and_then (read_word t w) (test_opened H t n h.what digests)

        abbrev closed : Bool → List ℕ
        closed c = round_text v asks (kept H t n w) (said_bytes (end n c))

        abbrev events : Bool → List Event → List Event
        events c rest = heard v ∷ sent asks ∷ heard w ∷ sent (said_bytes (end n c)) ∷ rest

        content_round_lem : (x y : Opening) → read_word t w ≡ got (opened n x y) → Contents H t n h.what ds x y → (rest : List Event) (o : Over) →
            From H t r (n + 1) h.left (closed true ∷ ws) rest o → From H t r n drawn ws (events true rest) o
        content_round_lem x y read c rest o f =
            let said = as_said t few w b (opened n x y) read in
            let word = said.1 in
            let keeps : kept H t n w ≡ said_bytes (opened n x y) = ap (λ g. cond (is_opened_of n g) w []) read ∙ (ap (λ same. cond same w []) (eq-eqb n n refl) ∙ word) in
            let texts : closed true ≡ text H t n ds h.what (said_bytes (opened n x y)) true = rw (e, keeps) refl in
            let f' = subst (λ z. From H t r (n + 1) h.left (z ∷ ws) rest o) texts f in
            rw (e, word) (end1 n drawn ws h ds x y rest o k q (pair_there t good drawn h q) l c said.0 f')

        answered : (g : Got Looked) → tests ds ≡ g →
            Goes n drawn ws line (run H other left h.left (settled (ready n ws) (next_digest H (after H (task_bytes t) ws) (closed (is_got g))) g) (reverse_aux (events (is_got g) []) line))
        unfolding after
        answered (got u) a =
            let c = contents H t good n h.what ds w a in
            let x = later h.left (closed true ∷ ws) (reverse_aux (events true []) line) in
            (events true x.0, x.1, content_round_lem c.0 c.1 c.2 c.3 x.0 _ x.2)
        answered (refused f) a =
            let o : Over = record { outcome = fault f n; digest = next_digest H (after H (task_bytes t) ws) (closed false) } in
            let last : From H t r n drawn ws (events false []) o = rw e (end0 n drawn ws h ds w f k q (pair_there t good drawn h q) l (refuses H t good n h.what ds w f a)) in
            subst (Goes n drawn ws line) (sym (run_out left h.left o (reverse_aux (events false []) line))) (events false [], refl, last)

        -- the digests are what stands behind the head
        pub tested : Goes n drawn ws line (run H other left h.left (settled (ready n ws) (next_digest H (after H (task_bytes t) ws) (closed (is_got (tests (drop 7 v))))) (tests (drop 7 v))) (reverse_aux (events (is_got (tests (drop 7 v))) []) line))
        tested = answered (tests (drop 7 v)) (ap tests (sym (ap (drop 7) e)))

      -- its Boxes came
      abbrev came : List ℕ → Got Looked → Gone
      came v g =
          going_on (led (ready n ws) (and_then g (λ _. got record { drawn = record { ready = ready n ws; pair = h.what }; boxes = v; ask = asks }))) (heard v ∷ line) (asked H other (heard v ∷ line))

      boxes_came : (v : List ℕ) → all_below 256 v ≡ true → (g : Got Looked) → and_then (read_word t v) (on_boxes n) ≡ g →
          Goes n drawn ws line (run H other left h.left (came v g).to (came v g).line)
      boxes_came v b (got u) a =
          let m = boxes-met t few v b n a in
          let before : List Event = sent asks ∷ heard v ∷ line in
          tested m.0 m.2 v m.1 (other before) (below before)
      boxes_came v b (refused f) a =
          subst (Goes n drawn ws line) (sym (run_out left h.left (ends_by H t (fault f n) ws) (heard v ∷ line)))
          (heard v ∷ [], refl, no_boxes n drawn ws h v f k q (boxes-refused t few v b n f a))

    -- the question is drawn, or the bytes are too few
    abbrev begins : Got (Had ℕ) → Gone
    begins g = going_on (led (ready n ws) (and_then g (λ h. got record { ready = ready n ws; pair = h.what }))) line (boxed H other line)

    drawing : (g : Got (Had ℕ)) → question_in t drawn ≡ g → Goes n drawn ws line (run H other left (left_in g) (begins g).to (begins g).line)
    drawing (got h) q = boxes_came h q (other line) (below line) (and_then (read_word t (other line)) (on_boxes n)) refl
    drawing (refused f) q =
        let eleven = too_few t drawn f q in
        subst (Goes n drawn ws line) (sym (run_out left [] (ends_by H t (fault f n) ws) line))
        ([], refl, rw eleven (drawn_out n drawn ws k (q ∙ ap refused eleven)))

  pub from : (left n : ℕ) → n + left ≡ r → (drawn : List ℕ) (ws : List (List ℕ)) (line : List Event) → Goes n drawn ws line (run H other left drawn (turn (ready n ws)) line)
  unfolding run
  from zero n e drawn ws line =
      let same : n ≡ r = omega arith in
      subst (λ goes. Goes n drawn ws line (run H other zero drawn (cond goes (on (ready n ws)) (out (ends_by H t (content r) ws))) line)) (sym (le-ltb n r (omega arith)))
      ([], refl, subst (λ m. From H t r m drawn ws [] (ends_by H t (content r) ws)) (sym same) (all_rounds drawn ws))
  from (suc left) n e drawn ws line =
      let k : n < r = omega arith in
      subst (λ goes. Goes n drawn ws line (run H other (suc left) drawn (cond goes (on (ready n ws)) (out (ends_by H t (content r) ws))) line)) (sym (lt-ltb n r k))
      (drawing left n k (from left (n + 1) (omega arith)) drawn ws line (question_in t drawn) refl)

  -- The asker is content at the end exactly if an End that says 1 was sent in each of the rounds that were left
  pub record Counted (n : ℕ) (events : List Event) (o : Over) : Type 0 where
    pub content_then : o.outcome ≡ content r → n + ends1 events ≡ r
    pub then_content : n + ends1 events ≡ r → o.outcome ≡ content r

  early : (n : ℕ) (events : List Event) (o : Over) (f m : ℕ) → n < r → ends1 events ≡ 0 → o.outcome ≡ fault f m → Counted n events o
  early n events o f m k e h = record { content_then = λ q. cc; then_content = λ q. absurd (omega arith) }

  counted : {n : ℕ} {drawn : List ℕ} {ws : List (List ℕ)} {events : List Event} {o : Over} → From H t r n drawn ws events o → Counted n events o
  unfolding ends1
  counted (all_rounds drawn ws) = record { content_then = λ q. omega arith; then_content = λ q. refl }
  counted (drawn_out n drawn ws k q) = early n [] _ 11 n k refl refl
  counted (no_boxes n drawn ws h w f k q b) = early n (heard w ∷ []) _ f n k refl refl
  counted (end0 n drawn ws h ds w f k q p l b) = early n _ _ f n k refl refl
  counted (end1 n drawn ws h ds x y rest o k q p l c said more) =
      let m = counted more in
      record { content_then = λ q. omega (arith, m.content_then q); then_content = λ q. m.then_content (omega (arith, q)) }

  -- The whole run, by what the first word is

  abbrev starts : Got Looked → Leads Ready
  starts g = begun H record { task = t; rounds = r } g

  begins_well : (drawn word : List ℕ) → all_below 256 word ≡ true → (g : Got Looked) → and_then (read_word t word) (on_task (task_bytes t)) ≡ g →
      Conducted H t r drawn word (run H other r drawn (starts g) (heard word ∷ []))
  unfolding after ends1
  begins_well drawn word b (got u) a =
      let own = task-met t few word b a in
      let x = from r 0 (omega arith) drawn [] (heard word ∷ []) in
      let o = (run H other r drawn (turn (ready 0 [])) (heard word ∷ [])).over in
      let c = counted x.2 in
      let ends = ap ends1 x.1 ∙ ends1-back x.0 (heard word ∷ []) in
      let back = ap reverse x.1 ∙ reverse-reverse (heard word ∷ x.0) in
      record {
        line = subst (λ z. Whole H t r drawn z o) (sym (back ∙ ap (λ z. heard z ∷ x.0) own)) (own_task x.0 o x.2);
        content_then = λ q. (own, omega (arith, ends, c.content_then q));
        then_content = λ p q. c.then_content (omega (arith, ends, q));
      }
  begins_well drawn word b (refused f) a =
      let no = task-refused t few word b f a in
      subst (Conducted H t r drawn word) (sym (run_out r drawn (ends_by H t (task_fault f) []) (heard word ∷ [])))
      (record {
        line = no_task word f no;
        content_then = λ q. cc;
        then_content = λ p q. absurd (own_met t good f (subst (λ z. NoTask t z f) p no));
      })

pub conduct : (H : List ℕ → List ℕ) (t : Task) → sound t ≡ true → (r : ℕ) → Conduct H t r
conduct H t good r other below drawn = begins_well H t good r other below drawn (other []) (below []) (and_then (read_word t (other [])) (on_task (task_bytes t))) refl

-- of a task of the code
pub conduct_of : (t : CodeTask) (r : ℕ) (H : List ℕ → List ℕ) → Conduct H (task_of t) r
conduct_of t r H = conduct H (task_of t) (sound_of t) r
