-- An asker's words pass. Assumes nothing.
use Rattle.std.proofs.Common.{◌≡◌, ℕ, suc, ◌+◌, ◌*◌, ◌^◌, ◌<◌, ◌≤◌, Bool, true, false, cond, List, [], ◌∷◌, map, reverse, length, drop, Some, None, Option, sym, refl, ap, ◌∙◌, zero-add, arith}
use mathlib.Core.List.{reverse_aux}
use Rattle.std.proofs.lemmas.List.{reverse-reverse}
use Rattle.std.proofs.lemmas.Bool.{lt-ltb, eq-eqb, eqb-true, and_from, false≢true}
use Rattle.paths.specs.Plan.{Task, Plan}
use Rattle.paths.specs.Show.{pair_at}
use Rattle.paths.specs.Count.{same_row}
use Rattle.paths.proofs.Same.{same_decides}
use Rattle.tasks.specs.Reading.{Got, Looked, got, refused, and_then}
use Rattle.tasks.specs.Task.{sound}
use Rattle.tasks.specs.Writing.{task_bytes}
use Rattle.tasks.proofs.TaskLaws.{guarantees}
use Rattle.fitting.specs.Pairs.{asked_pair}
use Rattle.boxes.specs.Box.{Opening}
use Rattle.book.specs.Chain.{after}
use Rattle.words.specs.Said.{Said, task, plan, boxes, ask, opened, end}
use Rattle.words.specs.Reading.{read_word}
use Rattle.words.specs.Writing.{said_bytes, is_said, is_round, WordLaw}
use Rattle.words.proofs.Laws.{word_law}
use Rattle.round.specs.Over.{Over, fault}
use Rattle.round.specs.Round.{test_opened}
use Rattle.round.specs.Contents.{Contents}
use Rattle.round.proofs.Contents.{accepts}
use Rattle.round.specs.Line.{Event, sent, heard, Ran}
use Rattle.asking.specs.Asking.{is_opened_of}
use Rattle.asking.specs.Conduct.{NotContent, unread, bad, kept, text, ends_by, From, all_rounds, drawn_out, no_boxes, end0, end1, Whole, no_task, own_task}
use Rattle.asking.proofs.Runs.{conduct}
use Rattle.cutting.specs.Cutting.{Round, text_of, for_boxes, cut_into, also_round, cut_from}
use Rattle.cutting.proofs.Cuts.{round_with, cut-whole, cut_short_lem}
use Rattle.judging.specs.Verdict.{content_all, not_content, Redrawn, not_handed, judged, first_of}
use Rattle.judging.specs.Judging.{look, if_content, content_from, redrawn_from, left_over, book_of, judge, verdict}
use Rattle.faultless.specs.Transcript.{words_from, transcript}
use Rattle.faultless.specs.Faultless.{told_at, told_of, Passes, Faultless}

-- what is an Opened of round n
opened_is : (n : ℕ) (v : Said) → is_opened_of n (got v) ≡ true → (x y : Opening) × (v ≡ opened n x y)
opened_is n (task bs) e = absurd (false≢true e)
opened_is n (plan p) e = absurd (false≢true e)
opened_is n (boxes r ds) e = absurd (false≢true e)
opened_is n (ask r i) e = absurd (false≢true e)
opened_is n (opened r x y) e = (x, y, ap (λ m. opened m x y) (eqb-true r n e))
opened_is n (end r c) e = absurd (false≢true e)

module _ (H : List ℕ → List ℕ) (t : Task) where
  -- Of what was on the line from round n on, with the rounds with these texts closed before, and this line: the rounds that its words are cut into have the book that
  -- the asker has, and of them is told what happened
  record Told (n : ℕ) (ws : List (List ℕ)) (events : List Event) (o : Over) (line : List Event) : Type 0 where
    rounds : List Round
    cuts : cut_from t n for_boxes (words_from t n events) ≡ cut_into rounds
    book : o.digest ≡ after H (task_bytes t) (reverse_aux (map text_of rounds) ws)
    tells : (d : Redrawn) → judged (n + length rounds) (content_from H t n rounds) d ≡ told_of t o.outcome (reverse_aux events line) d

  -- no round is closed
  none : (n : ℕ) (ws : List (List ℕ)) (events : List Event) (o : Over) (line : List Event) → words_from t n events ≡ [] → o.digest ≡ after H (task_bytes t) ws →
      ((d : Redrawn) → judged n content_all d ≡ told_of t o.outcome (reverse_aux events line) d) → Told n ws events o line
  unfolding cut_from content_from
  none n ws events o line e b tells =
      record { rounds = []; cuts = ap (cut_from t n for_boxes) e; book = b; tells = λ d. ap (λ m. judged m content_all d) (omega arith) ∙ tells d }

  -- of these words, whatever is handed over
  judges : (events : List Event) (o : Over) (line : List Event) (m : Told 0 [] events o line) (q : Option Plan) (given : List ℕ) →
      verdict H t q given o.digest (words_from t 0 events) ≡ told_of t o.outcome (reverse_aux events line) (redrawn_from H t q 0 given m.rounds)
  judges events o line m q given =
      let same : same_row (book_of H t m.rounds) o.digest ≡ true = (same_decides _ _).1 (sym m.book) in
      let d = redrawn_from H t q 0 given m.rounds in
      ap (judge H t q given o.digest) m.cuts ∙ rw same (ap (λ k. judged k (content_from H t 0 m.rounds) d) (sym (zero-add (length m.rounds))) ∙ m.tells d)

  none_handed : (n : ℕ) (any : List ℕ) (rs : List Round) → redrawn_from H t None n any rs ≡ not_handed
  unfolding redrawn_from
  none_handed n any [] = refl
  none_handed n any (r ∷ rs) = none_handed (n + 1) (left_over t any) rs

  -- after this line nothing more is told than of the rounds before
  abbrev Quiet : List Event → Type 0
  Quiet line = (f n : ℕ) (d : Redrawn) → judged n content_all d ≡ told_at t f n line d

  module _ (good : sound t ≡ true) (r : ℕ) (few : r ≤ 2 ^ 24) where
    law : WordLaw t
    law = word_law t (omega (arith, (guarantees t good).few_trains))

    -- round n, whose Boxes had these digests, and where pair i was asked for
    module _ (n : ℕ) (k : n < 2 ^ 24) (i : ℕ) (there : i < length t.pairs) (ds : List ℕ) (long : length ds ≡ 32 * t.trains) where
      is_round_lem : is_round n ≡ true
      is_round_lem = lt-ltb n 4294967296 (omega arith)

      boxes_read : read_word t (said_bytes (boxes n ds)) ≡ got (boxes n ds)
      boxes_read = law.reads (boxes n ds) (and_from _ _ is_round_lem (eq-eqb _ _ long))

      ask_read : read_word t (said_bytes (ask n i)) ≡ got (ask n i)
      ask_read = law.reads (ask n i) (and_from _ _ is_round_lem (lt-ltb i 65536 (omega (arith, (guarantees t good).few_pairs))))

      end_read : (c : Bool) → read_word t (said_bytes (end n c)) ≡ got (end n c)
      end_read c = law.reads (end n c) is_round_lem

      -- as it is closed with this Opened, or none, and an End that says c
      abbrev closed : List ℕ → Bool → Round
      closed o c = round_with t n k (said_bytes (boxes n ds)) ds (said_bytes (ask n i)) i boxes_read ask_read (said_bytes (end n c)) o c

      abbrev events : List ℕ → Bool → List Event → List Event
      events w c rest = heard (said_bytes (boxes n ds)) ∷ sent (said_bytes (ask n i)) ∷ heard w ∷ sent (said_bytes (end n c)) ∷ rest

      look_is : (o : List ℕ) (c : Bool) (g : Got Looked) → and_then (read_word t o) (test_opened H t n i ds) ≡ g → look H t n (closed o c) ≡ g
      look_is o c g e =
          let asked : asked_pair t i ≡ got (pair_at t i) = rw (lt-ltb i (length t.pairs) there) refl in
          ap (λ a. and_then a (λ _. and_then (read_word t o) (test_opened H t n i ds))) asked ∙ e

      words_are : (w : List ℕ) (c : Bool) (rest : List Event) (is : Bool) → is_opened_of n (read_word t w) ≡ is →
          words_from t n (events w c rest) ≡
          said_bytes (boxes n ds) ∷ said_bytes (ask n i) ∷ cond is (w ∷ said_bytes (end n c) ∷ words_from t (n + 1) rest) (said_bytes (end n c) ∷ words_from t (n + 1) rest)
      unfolding words_from
      words_are w c rest is s =
          let e = said_bytes (end n c) in
          ap (λ b. said_bytes (boxes n ds) ∷ said_bytes (ask n i) ∷ cond b (w ∷ e ∷ words_from t (n + 1) rest) (e ∷ words_from t (n + 1) rest)) s

      module _ (ws : List (List ℕ)) (line : List Event) where
        -- a refused answer; it is kept if it is an Opened of the round
        refuses : (w : List ℕ) (f : ℕ) (is : Bool) → is_opened_of n (read_word t w) ≡ is →
            cut_from t n for_boxes (words_from t n (events w false [])) ≡ cut_into (closed (cond is w []) false ∷ []) →
            look H t n (closed (cond is w []) false) ≡ refused (cond is f 1) →
            Told n ws (events w false []) (ends_by H t (fault f n) (text H t n ds i (kept H t n w) false ∷ ws)) line
        unfolding content_from
        refuses w f is s cuts looked =
            record {
              rounds = closed (cond is w []) false ∷ [];
              cuts = cuts;
              book = ap (λ b. after H (task_bytes t) (text H t n ds i (cond b w []) false ∷ ws)) s;
              tells = λ d. ap (λ g. judged (n + 1) (not_content n g) d) looked ∙ ap (λ b. judged (n + 1) (not_content n (refused (cond b f 1))) d) (sym s);
            }

        not_opened : (w : List ℕ) (f : ℕ) → is_opened_of n (read_word t w) ≡ false →
            Told n ws (events w false []) (ends_by H t (fault f n) (text H t n ds i (kept H t n w) false ∷ ws)) line
        unfolding cut_from words_from
        not_opened w f s =
            let cuts = cut_short_lem t n k (said_bytes (boxes n ds)) ds (said_bytes (ask n i)) i boxes_read ask_read (said_bytes (end n false)) (end_read false) [] in
            refuses w f false s (ap (cut_from t n for_boxes) (words_are w false [] false s) ∙ cuts) (look_is [] false (refused 1) refl)

        badly_opened : (w : List ℕ) (f : ℕ) (x y : Opening) → read_word t w ≡ got (opened n x y) → test_opened H t n i ds (opened n x y) ≡ refused f →
            Told n ws (events w false []) (ends_by H t (fault f n) (text H t n ds i (kept H t n w) false ∷ ws)) line
        unfolding cut_from words_from
        badly_opened w f x y read e =
            let s : is_opened_of n (read_word t w) ≡ true = ap (is_opened_of n) read ∙ eq-eqb n n refl in
            let cuts = cut-whole t n k (said_bytes (boxes n ds)) ds (said_bytes (ask n i)) i boxes_read ask_read (said_bytes (end n false)) w x y false read (end_read false) [] in
            refuses w f true s (ap (cut_from t n for_boxes) (words_are w false [] true s) ∙ cuts)
            (look_is w false (refused f) (ap (λ g. and_then g (test_opened H t n i ds)) read ∙ e))

        refused_so : (w : List ℕ) (f : ℕ) → NotContent H t n i ds w f →
            Told n ws (events w false []) (ends_by H t (fault f n) (text H t n ds i (kept H t n w) false ∷ ws)) line
        refused_so w f (unread f' e) = not_opened w f (ap (is_opened_of n) e)
        refused_so w f (bad v f' read other e) = by (is_opened_of n (got v)) refl
          where
            by : (is : Bool) → is_opened_of n (got v) ≡ is → Told n ws (events w false []) (ends_by H t (fault f n) (text H t n ds i (kept H t n w) false ∷ ws)) line
            by false s = not_opened w f (ap (is_opened_of n) read ∙ s)
            by true s =
                let q = opened_is n v s in
                badly_opened w f q.0 q.1 (read ∙ ap got q.2) (ap (test_opened H t n i ds) (sym q.2) ∙ e)

        -- an answer that contents
        contents : (x y : Opening) → is_said t (opened n x y) ≡ true → Contents H t n i ds x y → (rest : List Event) (o : Over) →
            Told (n + 1) (text H t n ds i (said_bytes (opened n x y)) true ∷ ws) rest o (reverse_aux (events (said_bytes (opened n x y)) true []) line) →
            Told n ws (events (said_bytes (opened n x y)) true rest) o line
        unfolding content_from
        contents x y said c rest o m =
            let w = said_bytes (opened n x y) in
            let read = law.reads (opened n x y) said in
            let words = words_are w true rest true (ap (is_opened_of n) read ∙ eq-eqb n n refl) in
            let cuts = cut-whole t n k (said_bytes (boxes n ds)) ds (said_bytes (ask n i)) i boxes_read ask_read (said_bytes (end n true)) w x y true read (end_read true) (words_from t (n + 1) rest) in
            let looked = look_is w true (got tt) (ap (λ g. and_then g (test_opened H t n i ds)) read ∙ accepts H t good n i ds x y c) in
            record {
              rounds = closed w true ∷ m.rounds;
              cuts = ap (cut_from t n for_boxes) words ∙ (cuts ∙ ap (also_round (closed w true)) m.cuts);
              book = m.book;
              tells = λ d.
                  ap (λ g. judged (n + suc (length m.rounds)) (first_of (if_content n g) (content_from H t (n + 1) m.rounds)) d) looked
                  ∙ (ap (λ j. judged j (content_from H t (n + 1) m.rounds) d) (omega arith) ∙ m.tells d);
            }

    told : (n : ℕ) (drawn : List ℕ) (ws : List (List ℕ)) (es : List Event) (o : Over) (line : List Event) → Quiet line → From H t r n drawn ws es o →
        Told n ws es o line
    unfolding words_from
    told n drawn ws es o line quiet (all_rounds d v) = none n ws es o line refl refl (λ d. refl)
    told n drawn ws es o line quiet (drawn_out n' d v k q) = none n ws es o line refl refl (quiet 11 n)
    told n drawn ws es o line quiet (no_boxes n' d v h w f k q b) = none n ws es o line refl refl (λ d. refl)
    told n drawn ws es o line quiet (end0 n' d v h ds w f k q there long why) = refused_so n (omega arith) h.what there ds long ws line w f why
    told n drawn ws es o line quiet (end1 n' d v h ds x y rest o' k q there long c said more) =
        contents n (omega arith) h.what there ds long ws line x y said c rest o (told (n + 1) h.left _ rest o _ (λ f m d. refl) more)

    begun : (drawn : List ℕ) (line : List Event) (o : Over) → Whole H t r drawn line o → (w : List ℕ) × (es : List Event) × (line ≡ heard w ∷ es) × Told 0 [] es o (heard w ∷ [])
    unfolding words_from
    begun drawn line o (no_task w f why) = (w, [], refl, none 0 [] [] o (heard w ∷ []) refl refl (λ d. refl))
    begun drawn line o (own_task es o' from) = (task_bytes t, es, refl, told 0 drawn [] es o (heard (task_bytes t) ∷ []) (λ f m d. refl) from)

    passes : (drawn : List ℕ) (x : Ran) → Whole H t r drawn (reverse x.line) x.over → Passes H t x
    passes drawn x whole =
        let g = begun drawn (reverse x.line) x.over whole in
        let line : reverse_aux g.1 (heard g.0 ∷ []) ≡ x.line = ap reverse (sym g.2) ∙ reverse-reverse x.line in
        let told_so : (q : Option Plan) (given : List ℕ) →
        verdict H t q given x.over.digest (transcript t x) ≡ told_of t x.over.outcome x.line (redrawn_from H t q 0 given g.3.rounds) =
        λ q given.
        ap (λ l. verdict H t q given x.over.digest (words_from t 0 (drop 1 l))) g.2 ∙ (judges g.1 x.over (heard g.0 ∷ []) g.3 q given
        ∙ ap (λ l. told_of t x.over.outcome l (redrawn_from H t q 0 given g.3.rounds)) line) in
        record {
          unhanded = λ any. told_so None any ∙ ap (told_of t x.over.outcome x.line) (none_handed 0 any g.3.rounds);
          handed = λ p given. (redrawn_from H t (Some p) 0 given g.3.rounds, told_so (Some p) given);
        }

pub faultless : (H : List ℕ → List ℕ) → Faultless H
faultless H t good r few other bytes drawn = passes H t good r few drawn _ (conduct H t good r other bytes drawn).line
