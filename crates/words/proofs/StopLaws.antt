-- Stops of a stream: of a good word within it, and where nothing more is wanted of a bad one its fault stays.
use Rattle.std.proofs.Common.{◌≡◌, ℕ, zero, suc, ◌+◌, ◌*◌, ◌/◌, ◌<◌, ◌≤◌, Bool, true, false, cond, ◌&&◌, eqb, leb, ◌⊎◌, List, [], ◌∷◌, ◌++◌, length, take, drop, sym, refl, ap, ◌∙◌, inl, inr, append-nil, mul-one, arith, length-append, length-drop}
use Rattle.std.proofs.lemmas.Bool.{true≢false, and_right, eq-eqb, cases_lt, cases_eq, cases_Bool, le-leb, lt-ltb, le-ltb}
use Rattle.std.proofs.lemmas.Bool.Decides.{nat_tests}
use Rattle.std.proofs.lemmas.List.{get_or_append_left, length-take-le, take-append-drop, get_or-take, drop-append-le}
use Rattle.paths.specs.Plan.{Task, Plan, at}
use Rattle.tasks.specs.Reading.{Got, Head, Looked, got, refused, and_then, read_head, read_pair, read_pairs, read_task, read_path, read_paths, read_plan_head, read_plan, task_in, word_at}
use Rattle.tasks.specs.Task.{lowest}
use Rattle.tasks.proofs.Units.{unit_got}
use Rattle.tasks.proofs.PairLaws.{pair_local, word_sees}
use Rattle.tasks.proofs.PlanLaws.{path_local}
use Rattle.tasks.proofs.TaskLaws.{head_few}
use Rattle.tasks.proofs.Words.{word_back}
use Rattle.words.specs.Said.{Said, task, plan, boxes, ask, opened, end}
use Rattle.words.specs.Reading.{exactly, long_at, opening_at, read_boxes, read_word}
use Rattle.words.specs.Writing.{said_bytes, is_said}
use Rattle.words.specs.Stops.{Stops, field_end, behind_head, behind_count, next_stop}
use Rattle.words.proofs.Lengths.{plan-length, boxes-length, opened-length}
use Rattle.words.proofs.Grows.{after_head, then_stays, each-stays, head_firm, head_whole, task-length}
use Rattle.words.proofs.Laws.{by_kind, unknown_kind, exact_cut, picked, task-there, task_kind}

field_more : (there : ℕ) → there < 6 → (there < field_end there) × (field_end there ≤ 6)
field_more there h = (grind (arith, nat_tests), grind (arith, nat_tests))

-- a count that is good, once it is there
module _ (there head size : ℕ) (good : Bool) where
  count-more : head ≤ size → there < size → (head ≤ there → good ≡ true) → (there < behind_count there head good size) × (behind_count there head good size ≤ size)
  count-more h l g =
      elim (cases_lt there head) [
        | inl s ↦ rw (lt-ltb there head s) (s, h)
        | inr s ↦ rw (le-ltb there head s, g s) (l, omega arith)
      ]

  count-all : head ≤ there → good ≡ true → behind_count there head good size ≡ size
  count-all s g = rw (le-ltb there head s, g) refl

word-take : (j : ℕ) (bs : List ℕ) (i : ℕ) → i + 2 ≤ j → word_at (take j bs) i ≡ word_at bs i
word-take j bs i h = rw (get_or-take j bs i 0 (omega arith), get_or-take j bs (i + 1) 0 (omega arith)) refl

task-stop : (t : Task) (bs : List ℕ) (g : Got Head) → eqb (at bs 0) 1 ≡ true → read_head bs ≡ g → next_stop t bs ≡ behind_head (length bs) g
task-stop t bs g k e = picked (eqb (at bs 0) 1) (behind_head (length bs) (read_head bs)) _ k ∙ ap (behind_head (length bs)) e

-- Good words

module _ (t : Task) (few : t.trains ≤ 1024) where
  abbrev Cut : Said → ℕ → Type 0
  Cut w j = (j < next_stop t (take j (said_bytes w))) × (next_stop t (take j (said_bytes w)) ≤ length (said_bytes w))

  plan-count : (p : List ℕ) → is_said t (plan p) ≡ true → word_at (said_bytes (plan p)) 1 ≡ t.trains
  plan-count p h = let l = plan-length t p h in word_back (length p) (omega arith) ∙ omega arith

  boxes-count : (r : ℕ) (ds : List ℕ) → is_said t (boxes r ds) ≡ true → word_at (said_bytes (boxes r ds)) 5 ≡ t.trains
  boxes-count r ds h = let l = boxes-length t r ds h in word_back (length ds / 32) (omega arith) ∙ omega arith

  cut : (w : Said) → is_said t w ≡ true → (j : ℕ) → j < length (said_bytes w) → Cut w j
  cut w h zero l = (omega arith, l)
  cut (task []) h (suc j) l = absurd (omega arith)
  cut (task (k ∷ bs)) h (suc j) l =
      let p = task-there (k ∷ bs) h in
      let q = task-length (k ∷ bs) p.0 p.1 in
      let xs = k ∷ take j bs in
      let kind = task_kind (k ∷ bs) h in
      let n : length xs ≡ suc j = length-take-le (suc j) (k ∷ bs) (omega arith) in
      let e : read_head (xs ++ drop j bs) ≡ got q.0 = ap (λ ys. read_head (k ∷ ys)) (take-append-drop j bs) ∙ q.1 in
      elim (head_firm xs (drop j bs)) [
        | inl s ↦
            let six : length xs < 6 = elim (cases_lt (length xs) 6) [ inl m ↦ m | inr m ↦ absurd (head_whole xs m kind s) ] in
            let m = field_more (length xs) six in
            rw (task-stop t xs (refused 1) kind s) (omega arith, omega arith)
        | inr s ↦ rw (task-stop t xs (got q.0) kind (sym s ∙ e)) (omega (arith, q.2), omega (arith, q.2))
      ]
  cut (plan p) h (suc j) l =
      let bs = said_bytes (plan p) in
      let n = length-take-le (suc j) bs (omega arith) in
      let c = count-more (length (take (suc j) bs)) 3 (3 + t.trains) (eqb (word_at (take (suc j) bs) 1) t.trains) (omega arith) (omega (arith, plan-length t p h)) (λ s. eq-eqb _ _ (word-take (suc j) bs 1 (omega arith) ∙ plan-count p h)) in
      (omega (arith, c.0), omega (arith, c.1, plan-length t p h))
  cut (boxes r ds) h (suc j) l =
      let bs = said_bytes (boxes r ds) in
      let n = length-take-le (suc j) bs (omega arith) in
      let c = count-more (length (take (suc j) bs)) 7 (7 + 32 * t.trains) (eqb (word_at (take (suc j) bs) 5) t.trains) (omega arith) (omega (arith, boxes-length t r ds h)) (λ s. eq-eqb _ _ (word-take (suc j) bs 5 (omega arith) ∙ boxes-count r ds h)) in
      (omega (arith, c.0), omega (arith, c.1, boxes-length t r ds h))
  cut (ask r i) h (suc j) l = (omega arith, omega arith)
  cut (opened r x y) h (suc j) l = let n = opened-length t r x y h in (omega arith, omega arith)
  cut (end r c) h (suc j) l = (omega arith, omega arith)

  whole : (w : Said) → is_said t w ≡ true → next_stop t (said_bytes w) ≡ length (said_bytes w)
  whole (task bs) h =
      let p = task-there bs h in
      let q = task-length bs p.0 p.1 in
      task-stop t bs (got q.0) (task_kind bs h) q.1 ∙ sym q.2
  whole (plan p) h = let n = plan-length t p h in count-all _ 3 (3 + t.trains) _ (omega arith) (eq-eqb _ _ (plan-count p h)) ∙ sym n
  whole (boxes r ds) h = let n = boxes-length t r ds h in count-all _ 7 (7 + 32 * t.trains) _ (omega arith) (eq-eqb _ _ (boxes-count r ds h)) ∙ sym n
  whole (ask r i) h = refl
  whole (opened r x y) h = sym (opened-length t r x y h)
  whole (end r c) h = refl

-- Bytes that are refused, of which nothing more is wanted

abbrev Settled : Task → List ℕ → Type 0
Settled t bs = (more : List ℕ) (f : ℕ) → next_stop t bs ≤ length bs → read_word t bs ≡ refused f → read_word t (bs ++ more) ≡ refused f

-- where a reader and what it gives are the same but for the value that is made of it
told : {A B : Type 0} (f : ℕ) (g : Got A) (make : A → B) → and_then g (λ x. got (make x)) ≡ refused f → g ≡ refused f
told f (got x) make e = let z : ◌≡◌ {A = ℕ} 0 1 = cc in absurd (omega arith)
told f (refused n) make e = cc

tells-on : {A B : Type 0} (f : ℕ) (g : Got A) (make : A → B) → g ≡ refused f → and_then g (λ x. got (make x)) ≡ refused f
tells-on f g make e = ap (λ h. and_then h (λ x. got (make x))) e

-- a head that is not refused by 1 is the same with more bytes
head_stays : (bs more : List ℕ) (g : Got Head) → (g ≡ refused 1 → ⊥) → read_head bs ≡ g → read_head (bs ++ more) ≡ g
head_stays bs more g h e = elim (head_firm bs more) [ inl s ↦ absurd (h (sym e ∙ s)) | inr s ↦ s ∙ e ]

task_stays : (bs more : List ℕ) (f : ℕ) (g : Got Head) → read_head bs ≡ g → eqb (at bs 0) 1 ≡ true → behind_head (length bs) g ≤ length bs → read_task bs ≡ refused f → read_task (bs ++ more) ≡ refused f
task_stays bs more f (got h) e k l r =
    let s = head_stays bs more (got h) (λ z. let y : ◌≡◌ {A = ℕ} 0 1 = cc in omega arith) e in
    let p = told f (read_pairs h.trains h.pairs (drop 6 bs)) (λ _. task_in h (drop 6 bs)) (sym (ap (λ x. and_then x (after_head bs)) e) ∙ r) in
    let q = each-stays 4 (read_pair h.trains) (pair_local h.trains) more f lowest h.pairs (drop 6 bs) (simp length-drop (omega arith)) p in
    let d = ap (read_pairs h.trains h.pairs) (drop-append-le 6 bs more (omega arith)) ∙ q in
    ap (λ x. and_then x (after_head (bs ++ more))) s ∙ tells-on f _ (λ _. task_in h (drop 6 (bs ++ more))) d
task_stays bs more f (refused n) e k l r =
    elim (cases_eq n 1) [
      | inl z ↦
          let six : 6 ≤ length bs = elim (cases_lt (length bs) 6) [ inl m ↦ absurd (omega (arith, field_more (length bs) m, simp (eq-eqb n 1 z) at l)) | inr m ↦ m ] in
          absurd (head_whole bs six k (e ∙ ap refused z))
      | inr z ↦
          let s = head_stays bs more (refused n) (λ y. z (cc)) e in
          let q = sym (ap (λ x. and_then x (after_head bs)) e) ∙ r in
          ap (λ x. and_then x (after_head (bs ++ more))) s ∙ cc
    ]

plan_head_stays : (n : ℕ) (bs more : List ℕ) → 3 ≤ length bs → read_plan_head n (bs ++ more) ≡ read_plan_head n bs
plan_head_stays n bs more h =
    let l : 3 ≤ length (bs ++ more) = simp length-append (omega arith) in
    let a = le-leb 1 (length bs) (omega arith) in
    let b = le-leb 1 (length (bs ++ more)) (omega arith) in
    rw (a, b, le-leb 3 (length bs) h, le-leb 3 (length (bs ++ more)) l, get_or_append_left bs more 0 0 (omega arith), word_sees bs more 1 h) refl

plan_head_good : (n : ℕ) (bs : List ℕ) (x : Looked) → read_plan_head n bs ≡ got x → eqb (word_at bs 1) n ≡ true
plan_head_good n bs x e = (unit_got bs 3 (eqb (word_at bs 1) n) 1 (got tt) x (unit_got bs 1 (eqb (at bs 0) 2) 1 _ x e).2).1

-- of a count nothing more is wanted: it is there and not good, or all is there
count-settled : (there head size : ℕ) (good : Bool) → behind_count there head good size ≤ there → (head ≤ there) × ((good ≡ false) ⊎ (size ≤ there))
count-settled there head size good h =
    elim (cases_lt there head) [
      | inl s ↦ absurd (omega (arith, simp (lt-ltb there head s) at h))
      | inr s ↦ (s, elim (cases_Bool good) [ inl g ↦ inr (simp (le-ltb there head s, g) at h) | inr g ↦ inl g ])
    ]

abbrev after_plan_head : Task → List ℕ → Looked → Got Plan
after_plan_head t bs x = and_then (read_paths t.paths t.trains (drop 3 bs)) (λ _. got (drop 3 bs))

module _ (t : Task) (bs more : List ℕ) (f : ℕ) where
  plan-stays : behind_count (length bs) 3 (eqb (word_at bs 1) t.trains) (3 + t.trains) ≤ length bs → read_plan t bs ≡ refused f → read_plan t (bs ++ more) ≡ refused f
  plan-stays l r =
      let c = count-settled (length bs) 3 (3 + t.trains) (eqb (word_at bs 1) t.trains) l in
      ap (λ g. and_then g (after_plan_head t (bs ++ more))) (plan_head_stays t.trains bs more c.0)
      ∙ then_stays f (read_plan_head t.trains bs) (after_plan_head t bs) (after_plan_head t (bs ++ more)) (λ x e p.
      let good = plan_head_good t.trains bs x e in
      let all : 3 + t.trains ≤ length bs = elim c.1 [ inl z ↦ absurd (true≢false (sym good ∙ z)) | inr z ↦ z ] in
      let q = each-stays 1 (read_path t.paths) (path_local t.paths) more f tt t.trains (drop 3 bs) (simp (mul-one, length-drop) (omega arith)) (told f _ (λ _. drop 3 bs) p) in
      tells-on f _ (λ _. drop 3 (bs ++ more)) (ap (read_paths t.paths t.trains) (drop-append-le 3 bs more c.0) ∙ q)) r

-- a word of so many bytes, which are there
module _ (size : ℕ) (good : List ℕ → Bool) (made : List ℕ → Said) (bs : List ℕ) (f : ℕ) where
  exact_one : exactly size (good bs) (made bs) bs ≡ refused f → f ≡ 1
  exact_one e = go (eqb (length bs) size && good bs) e
    where
      go : (b : Bool) → cond b (got (made bs)) (refused 1) ≡ refused f → f ≡ 1
      go true e = let z : ◌≡◌ {A = ℕ} 0 1 = cc in absurd (omega arith)
      go false e = cc

  exact_stays : (more : List ℕ) → size ≤ length bs → exactly size (good bs) (made bs) bs ≡ refused f → exactly size (good (bs ++ more)) (made (bs ++ more)) (bs ++ more) ≡ refused f
  exact_stays [] l e = rw (append-nil bs) e
  exact_stays (y ∷ ys) l e = exact_cut size _ _ (bs ++ y ∷ ys) (λ z. omega (arith, length-append bs (y ∷ ys))) ∙ ap refused (sym (exact_one e))

  -- or what makes it bad is there
  exact_bad : (more : List ℕ) → good (bs ++ more) ≡ false → exactly size (good bs) (made bs) bs ≡ refused f → exactly size (good (bs ++ more)) (made (bs ++ more)) (bs ++ more) ≡ refused f
  exact_bad more g e = ap (λ b. cond b (got (made (bs ++ more))) (refused 1)) (and_right (eqb (length (bs ++ more)) size) (good (bs ++ more)) g) ∙ ap refused (sym (exact_one e))

boxes-stays : (t : Task) (bs more : List ℕ) (f : ℕ) → behind_count (length bs) 7 (eqb (word_at bs 5) t.trains) (7 + 32 * t.trains) ≤ length bs → read_boxes t.trains bs ≡ refused f → read_boxes t.trains (bs ++ more) ≡ refused f
boxes-stays t bs more f l e =
    let c = count-settled (length bs) 7 (7 + 32 * t.trains) (eqb (word_at bs 5) t.trains) l in
    let good : List ℕ → Bool = λ xs. eqb (word_at xs 5) t.trains in
    let made : List ℕ → Said = λ xs. boxes (long_at xs 1) (drop 7 xs) in
    elim c.1 [
      | inl z ↦ exact_bad (7 + 32 * t.trains) good made bs f more (ap (λ x. eqb x t.trains) (word_sees bs more 5 c.0) ∙ z) e
      | inr z ↦ exact_stays (7 + 32 * t.trains) good made bs f more z e
    ]

settled : (t : Task) (bs : List ℕ) → Settled t bs
settled t [] = λ more f l e. absurd (omega arith)
settled t (k ∷ bs) =
    by_kind (λ k. Settled t (k ∷ bs))
    (λ more f l e. tells-on f _ (λ _. task (1 ∷ (bs ++ more))) (task_stays (1 ∷ bs) more f (read_head (1 ∷ bs)) refl refl l (told f (read_task (1 ∷ bs)) (λ _. task (1 ∷ bs)) e)))
    (λ more f l e. tells-on f _ plan (plan-stays t (2 ∷ bs) more f l (told f (read_plan t (2 ∷ bs)) plan e)))
    (λ more f l e. boxes-stays t (3 ∷ bs) more f l e)
    (λ more f l e. exact_stays 7 (λ _. true) (λ xs. ask (long_at xs 1) (word_at xs 5)) (4 ∷ bs) f more l e)
    (λ more f l e. exact_stays 75 (λ _. true) (λ xs. opened (long_at xs 1) (opening_at xs 5) (opening_at xs 40)) (5 ∷ bs) f more l e)
    (λ more f l e. exact_stays 6 (λ xs. leb (at xs 5) 1) (λ xs. end (long_at xs 1) (eqb (at xs 5) 1)) (6 ∷ bs) f more l e)
    (λ k u more f l e. unknown_kind t k (bs ++ more) u ∙ (sym (unknown_kind t k bs u) ∙ e)) k

-- The longest word

head_bound : (bs : List ℕ) (g : Got Head) → read_head bs ≡ g → length bs ≤ 32775 → behind_head (length bs) g ≤ 32775
head_bound bs (got h) e l = omega (arith, head_few bs h e)
head_bound bs (refused f) e l = grind (arith, nat_tests)

count_bound : (there head size : ℕ) (good : Bool) → there ≤ 32775 → head ≤ 32775 → size ≤ 32775 → behind_count there head good size ≤ 32775
count_bound there head size true a b c = grind (arith, nat_tests)
count_bound there head size false a b c = grind (arith, nat_tests)

bound : (t : Task) → t.trains ≤ 1024 → (bs : List ℕ) → length bs ≤ 32775 → next_stop t bs ≤ 32775
bound t few [] = λ l. omega arith
bound t few (k ∷ bs) =
    by_kind (λ k. length (k ∷ bs) ≤ 32775 → next_stop t (k ∷ bs) ≤ 32775)
    (λ l. head_bound (1 ∷ bs) (read_head (1 ∷ bs)) refl l)
    (λ l. count_bound _ 3 (3 + t.trains) _ l (omega arith) (omega arith))
    (λ l. count_bound _ 7 (7 + 32 * t.trains) _ l (omega arith) (omega arith))
    (λ l. omega arith) (λ l. omega arith) (λ l. omega arith)
    (λ k u l. rw (u.not1, u.not2, u.not3, u.not4, u.not5, u.not6) (omega arith)) k

pub stops : (t : Task) → t.trains ≤ 1024 → Stops t
stops t few = record { cut = cut t few; whole = whole t few; settled = settled t; few = bound t few }
