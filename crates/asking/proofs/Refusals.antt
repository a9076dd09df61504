-- What is refused and what is not, in the protocol's words. Assumes nothing.
use Rattle.std.proofs.Common.{◌≡◌, ℕ, ◌*◌, ◌%◌, ◌^◌, ◌<◌, Bool, true, false, cond, not, ◌&&◌, eqb, ltb, ◌⊎◌, List, [], ◌∷◌, length, sym, refl, ap, ◌∙◌, subst, inl, inr, mod-lt, arith}
use Rattle.std.proofs.lemmas.List.{get_or_past}
use Rattle.std.proofs.lemmas.Bool.{cases_Bool, eqb-true, eqb-false, ltb-true, ltb-false, lt-ltb, eq-eqb, ne_eqb, and_parts, false≢true}
use Rattle.paths.specs.Plan.{Task, at, all_below}
use Rattle.paths.specs.Show.{pair_at}
use Rattle.paths.specs.Count.{same_row}
use Rattle.paths.proofs.Rows.{pairs-at}
use Rattle.drawing.specs.Drawing.{Drawn, drew, short, limit, draw, values_of}
use Rattle.tasks.specs.Reading.{Got, Looked, got, refused, and_then}
use Rattle.tasks.specs.Task.{sound, lowest}
use Rattle.tasks.specs.Writing.{task_bytes}
use Rattle.tasks.proofs.TaskLaws.{guarantees, task_law}
use Rattle.tasks.proofs.Units.{cond-got, then_got}
use Rattle.boxes.specs.Box.{Opening}
use Rattle.paths.proofs.Same.{same_decides}
use Rattle.lots.specs.Lots.{Had, on_bytes, drawn, had_by, question_in}
use Rattle.words.specs.Said.{Said, task, plan, boxes, ask, opened, end}
use Rattle.words.specs.Reading.{read_word}
use Rattle.words.specs.Awaited.{on_boxes}
use Rattle.words.specs.Writing.{said_bytes, is_got, is_said, is_round}
use Rattle.words.proofs.Laws.{word_law}
use Rattle.round.specs.Round.{opens_in, content_with, test_opened}
use Rattle.round.specs.Contents.{Contents}
use Rattle.round.proofs.Contents.{accepts}
use Rattle.asking.specs.Asking.{on_task}
use Rattle.asking.specs.Conduct.{NotAwaited, no_word, other_word, NoBoxes, NoTask, no_task_word, other_task, NotContent, unread, bad}

-- too few bytes are fault 11
pub too_few : (t : Task) (bs : List ℕ) (f : ℕ) → question_in t bs ≡ refused f → f ≡ 11
too_few t bs f e = go (drawn (length t.pairs ∷ []) bs) e
  where
    go : (d : Drawn) → had_by (λ ds. at ds 0) d ≡ refused f → f ≡ 11
    go (drew ds left) e = cc
    go short e = cc

-- the number that is drawn is a pair's
abbrev Below : ℕ → Drawn → Type 0
Below s (drew ds left) = at ds 0 < s
Below s short = Unit {0}

draw-below : (n s : ℕ) → 0 < s → (vs : List ℕ) → Below s (draw n (s ∷ []) vs)
unfolding draw
draw-below n s k [] = tt
draw-below n s k (v ∷ vs) = go (ltb v (limit n s)) (draw-below n s k vs)
  where
    go : (b : Bool) → Below s (draw n (s ∷ []) vs) → Below s (cond b (drew ((v % s) ∷ []) vs) (draw n (s ∷ []) vs))
    go true more = mod-lt v k
    go false more = more

pub pair_there : (t : Task) → sound t ≡ true → (bs : List ℕ) (h : Had ℕ) → question_in t bs ≡ got h → h.what < length t.pairs
pair_there t good bs h = go (draw (2 ^ 32) (length t.pairs ∷ []) (values_of 256 bs)) (draw-below _ _ (guarantees t good).some_pair _)
  where
    go : (d : Drawn) → Below (length t.pairs) d → had_by (λ ds. at ds 0) (on_bytes bs d) ≡ got h → h.what < length t.pairs
    go (drew ds left) b e = let k : at ds 0 ≡ h.what = cc in omega (arith, b, k)
    go short b e = cc

-- a word that isn't awaited is fault 6
elsewhere : (t : Task) (w : List ℕ) (Awaited : Said → Type 0) (x : Said) (f : ℕ) → read_word t w ≡ got x → (Awaited x → ⊥) → ◌≡◌ {A = Got Looked} (refused 6) (refused f) →
    NotAwaited t w Awaited f
elsewhere t w Awaited x f e n h = let k : 6 ≡ f = cc in subst (NotAwaited t w Awaited) k (other_word x e n)

module _ (t : Task) (few : t.trains < 65536) (w : List ℕ) (below : all_below 256 w ≡ true) where
  -- what was read is what is written so
  pub as_said : (x : Said) → read_word t w ≡ got x → (is_said t x ≡ true) × (w ≡ said_bytes x)
  as_said x e = (word_law t few).only w x below e

  -- The Task: what is read as a task has the same bytes
  compared : (f : ℕ) (bs : List ℕ) → read_word t w ≡ got (task bs) → (b : Bool) → same_row bs (task_bytes t) ≡ b → ◌≡◌ {A = Got Looked} (cond b (got tt) (refused 4)) (refused f) → NoTask t w f
  compared f bs e true s h = cc
  compared f bs e false s h =
      let k : 4 ≡ f = cc in
      let same : w ≡ bs = (as_said (task bs) e).1 in
      subst (NoTask t w) k (other_task (e ∙ ap (λ v. got (task v)) (sym same)) (λ own. false≢true (sym s ∙ (same_decides bs (task_bytes t)).1 (sym same ∙ own))))

  pub task-refused : (f : ℕ) → and_then (read_word t w) (on_task (task_bytes t)) ≡ refused f → NoTask t w f
  task-refused f = go (read_word t w) refl
    where
      go : (g : Got Said) → read_word t w ≡ g → and_then g (on_task (task_bytes t)) ≡ refused f → NoTask t w f
      go (refused x) e h = no_task_word f (no_word f (e ∙ cc h))
      go (got (task bs)) e h = compared f bs e (same_row bs (task_bytes t)) refl h
      go (got (plan p)) e h = no_task_word f (elsewhere t w _ (plan p) f e (λ q. cc q.1) h)
      go (got (boxes r ds)) e h = no_task_word f (elsewhere t w _ (boxes r ds) f e (λ q. cc q.1) h)
      go (got (ask r i)) e h = no_task_word f (elsewhere t w _ (ask r i) f e (λ q. cc q.1) h)
      go (got (opened r x y)) e h = no_task_word f (elsewhere t w _ (opened r x y) f e (λ q. cc q.1) h)
      go (got (end r c)) e h = no_task_word f (elsewhere t w _ (end r c) f e (λ q. cc q.1) h)

  pub task-met : and_then (read_word t w) (on_task (task_bytes t)) ≡ got tt → w ≡ task_bytes t
  task-met = go (read_word t w) refl
    where
      go : (g : Got Said) → read_word t w ≡ g → and_then g (on_task (task_bytes t)) ≡ got tt → w ≡ task_bytes t
      go (refused x) e h = cc
      go (got (task bs)) e h = (as_said (task bs) e).1 ∙ (same_decides bs (task_bytes t)).0 (cond-got (same_row bs (task_bytes t)) 4 (got tt) tt h).0
      go (got (plan p)) e h = cc
      go (got (boxes r ds)) e h = cc
      go (got (ask r i)) e h = cc
      go (got (opened r x y)) e h = cc
      go (got (end r c)) e h = cc

  -- The Boxes of round n
  module _ (n : ℕ) where
    in_round : (f r : ℕ) (ds : List ℕ) → read_word t w ≡ got (boxes r ds) → (b : Bool) → eqb r n ≡ b → ◌≡◌ {A = Got Looked} (cond b (got tt) (refused 6)) (refused f) → NoBoxes t n w f
    in_round f r ds e true s h = cc
    in_round f r ds e false s h = elsewhere t w _ (boxes r ds) f e (λ q. let k : r ≡ n = cc q.1 in eqb-false r n s k) h

    pub boxes-refused : (f : ℕ) → and_then (read_word t w) (on_boxes n) ≡ refused f → NoBoxes t n w f
    boxes-refused f = go (read_word t w) refl
      where
        go : (g : Got Said) → read_word t w ≡ g → and_then g (on_boxes n) ≡ refused f → NoBoxes t n w f
        go (refused x) e h = no_word f (e ∙ cc h)
        go (got (task bs)) e h = elsewhere t w _ (task bs) f e (λ q. cc q.1) h
        go (got (plan p)) e h = elsewhere t w _ (plan p) f e (λ q. cc q.1) h
        go (got (boxes r ds)) e h = in_round f r ds e (eqb r n) refl h
        go (got (ask r i)) e h = elsewhere t w _ (ask r i) f e (λ q. cc q.1) h
        go (got (opened r x y)) e h = elsewhere t w _ (opened r x y) f e (λ q. cc q.1) h
        go (got (end r c)) e h = elsewhere t w _ (end r c) f e (λ q. cc q.1) h

    -- the Boxes, by their digests
    boxes-round : (r : ℕ) (ds : List ℕ) → read_word t w ≡ got (boxes r ds) → on_boxes n (boxes r ds) ≡ got tt → (ds : List ℕ) × (w ≡ said_bytes (boxes n ds)) × (length ds ≡ 32 * t.trains)
    boxes-round r ds e h =
        let k = eqb-true r n (cond-got (eqb r n) 6 (got tt) tt h).0 in
        let s = as_said (boxes r ds) e in
        (ds, s.1 ∙ ap (λ m. said_bytes (boxes m ds)) k, eqb-true _ _ (and_parts (is_round r) (eqb (length ds) (32 * t.trains)) s.0).1)

    pub boxes-met : and_then (read_word t w) (on_boxes n) ≡ got tt → (ds : List ℕ) × (w ≡ said_bytes (boxes n ds)) × (length ds ≡ 32 * t.trains)
    boxes-met = go (read_word t w) refl
      where
        go : (g : Got Said) → read_word t w ≡ g → and_then g (on_boxes n) ≡ got tt → (ds : List ℕ) × (w ≡ said_bytes (boxes n ds)) × (length ds ≡ 32 * t.trains)
        go (refused x) e h = cc
        go (got (task bs)) e h = cc
        go (got (plan p)) e h = cc
        go (got (boxes r ds)) e h = boxes-round r ds e h
        go (got (ask r i)) e h = cc
        go (got (opened r x y)) e h = cc
        go (got (end r c)) e h = cc

-- the asker's own task is not refused
pub own_met : (t : Task) → sound t ≡ true → (f : ℕ) → NoTask t (task_bytes t) f → ⊥
own_met t good f = go
  where
    read : read_word t (task_bytes t) ≡ got (task (task_bytes t))
    read = (word_law t (omega (arith, (guarantees t good).few_trains))).reads (task (task_bytes t)) (ap is_got (task_law.reads t good))

    go : {f : ℕ} → NoTask t (task_bytes t) f → ⊥
    go (no_task_word g (no_word f e)) = cc (e, read)
    go (no_task_word g (other_word x e n)) = n (task_bytes t, cc (e, read))
    go (other_task e n) = n refl

-- The answer: it is accepted exactly where it contents the asker
module _ (H : List ℕ → List ℕ) (t : Task) (good : sound t ≡ true) (n i : ℕ) (ds : List ℕ) where
  pub refuses : (w : List ℕ) (f : ℕ) → and_then (read_word t w) (test_opened H t n i ds) ≡ refused f → NotContent H t n i ds w f
  refuses w f = go (read_word t w) refl
    where
      go : (g : Got Said) → read_word t w ≡ g → and_then g (test_opened H t n i ds) ≡ refused f → NotContent H t n i ds w f
      go (refused x) e h = unread f (e ∙ cc h)
      go (got v) e h = bad v f e (λ x y q c. let a = accepts H t good n i ds x y c in cc (ap (test_opened H t n i ds) q, h)) h
