-- Reading and writing tasks are inverse, and a task that was read is sound.
use Rattle.std.proofs.Common.{◌≡◌, ℕ, zero, suc, ◌+◌, ◌*◌, ◌/◌, ◌<◌, ◌≤◌, Bool, true, eqb, ltb, leb, List, [], ◌∷◌, ◌++◌, length, take, drop, sym, refl, ap, ◌∙◌, inl, inr, arith, length-drop}
use Rattle.std.specs.List.{flat_map}
use Rattle.std.proofs.lemmas.Bool.{leb-true, ltb-true, eqb-true, and_parts, and_from, cases_lt, le-leb}
use Rattle.std.proofs.lemmas.List.{get_or_append_left, drop-append-le, take-append-drop}
use Rattle.paths.specs.Plan.{Pair, Task, at, all_below}
use Rattle.tasks.specs.Reading.{Head, Looked, got, refused, and_then, read_head, read_pair, read_pairs, read_task, pairs_from, task_in, word_at}
use Rattle.tasks.specs.Task.{within, lowest, rising, sound}
use Rattle.tasks.specs.Writing.{pair_bytes, head_bytes, task_bytes, Inverse}
use Rattle.tasks.proofs.Units.{unit_got, then_got, unit_good, unit_prefix, each-cut}
use Rattle.tasks.proofs.Words.{word_back, word_high, word_low}
use Rattle.tasks.proofs.PairLaws.{pairs-sound, pairs_written, pairs-only, pair_local, word_sees}

within_least : (low high x : ℕ) → within low high x ≡ true → low ≤ x
within_least low high x e = leb-true low x (and_parts (leb low x) (leb x high) e).0

within_most : (low high x : ℕ) → within low high x ≡ true → x ≤ high
within_most low high x e = leb-true x high (and_parts (leb low x) (leb x high) e).1

abbrev head_in : List ℕ → Head
head_in bs = record { trains = word_at bs 1; paths = at bs 3; pairs = word_at bs 4 }

-- what the bytes of a good head are
record HeadIs (bs : List ℕ) : Type 0 where
  there : 6 ≤ length bs
  kind : eqb (at bs 0) 1 ≡ true
  trains : within 1 1024 (word_at bs 1) ≡ true
  paths : within 1 64 (at bs 3) ≡ true
  pairs : within 1 4096 (word_at bs 4) ≡ true

head_parts : (bs : List ℕ) (h : Head) → read_head bs ≡ got h → HeadIs bs × (head_in bs ≡ h)
head_parts bs h e =
    let p = unit_got bs 1 _ 1 _ h e in
    let q = unit_got bs 3 _ 2 _ h p.2 in
    let r = unit_got bs 4 _ 2 _ h q.2 in
    let s = unit_got bs 6 _ 2 (got (head_in bs)) h r.2 in
    (record { there = s.0; kind = p.1; trains = q.1; paths = r.1; pairs = s.1 }, cc s.2)

pub head_few : (bs : List ℕ) (h : Head) → read_head bs ≡ got h → h.pairs ≤ 4096
head_few bs h e = let p = head_parts bs h e in omega (arith, within_most 1 4096 (word_at bs 4) p.0.pairs, ap (λ (x : Head). x.pairs) p.1)

head_made : (bs : List ℕ) → HeadIs bs → read_head bs ≡ got (head_in bs)
head_made bs i =
    unit_good bs 1 _ 1 _ (omega (arith, i.there)) i.kind
    ∙ (unit_good bs 3 _ 2 _ (omega (arith, i.there)) i.trains
    ∙ (unit_good bs 4 _ 2 _ (omega (arith, i.there)) i.paths
    ∙ unit_good bs 6 _ 2 (got (head_in bs)) i.there i.pairs))

byte_sees : (bs ys : List ℕ) (i : ℕ) (good : ℕ → Bool) → i < length bs → good (at (bs ++ ys) i) ≡ true → good (at bs i) ≡ true
byte_sees bs ys i good h e = ap good (sym (get_or_append_left bs ys 0 i h)) ∙ e

word_sees_good : (bs ys : List ℕ) (i : ℕ) (good : ℕ → Bool) → i + 2 ≤ length bs → good (word_at (bs ++ ys) i) ≡ true → good (word_at bs i) ≡ true
word_sees_good bs ys i good h e = ap good (sym (word_sees bs ys i h)) ∙ e

head_cut : (bs ys : List ℕ) → HeadIs (bs ++ ys) → length bs < 6 → read_head bs ≡ refused 1
head_cut bs ys i h =
    unit_prefix bs 1 _ 1 _ (λ s. (
      byte_sees bs ys 0 (λ x. eqb x 1) (omega arith) i.kind,
      unit_prefix bs 3 _ 2 _ (λ s. (
        word_sees_good bs ys 1 (within 1 1024) (omega arith) i.trains,
        unit_prefix bs 4 _ 2 _ (λ s. (
          byte_sees bs ys 3 (within 1 64) (omega arith) i.paths,
          unit_prefix bs 6 _ 2 (got (head_in bs)) (λ s. absurd (omega arith)),
        )),
      )),
    ))

head_sees : (bs ys : List ℕ) → HeadIs (bs ++ ys) → 6 ≤ length bs → HeadIs bs × (head_in (bs ++ ys) ≡ head_in bs)
head_sees bs ys i h = (
  record {
    there = h;
    kind = byte_sees bs ys 0 (λ x. eqb x 1) (omega arith) i.kind;
    trains = word_sees_good bs ys 1 (within 1 1024) (omega arith) i.trains;
    paths = byte_sees bs ys 3 (within 1 64) (omega arith) i.paths;
    pairs = word_sees_good bs ys 4 (within 1 4096) (omega arith) i.pairs;
  },
  rw (word_sees bs ys 1 (omega arith), get_or_append_left bs ys 0 3 (omega arith), word_sees bs ys 4 (omega arith)) refl,
)

-- what was read: the head, the pairs, and the task
task-parts : (bs : List ℕ) (t : Task) → read_task bs ≡ got t → HeadIs bs × ((y : Looked) × (read_pairs (word_at bs 1) (word_at bs 4) (drop 6 bs) ≡ got y)) × (task_in (head_in bs) (drop 6 bs) ≡ t)
task-parts bs t e =
    let p = then_got (read_head bs) (λ h. and_then (read_pairs h.trains h.pairs (drop 6 bs)) (λ _. got (task_in h (drop 6 bs)))) t e in
    let h = head_parts bs p.0 p.1 in
    let r = then_got (read_pairs p.0.trains p.0.pairs (drop 6 bs)) (λ _. got (task_in p.0 (drop 6 bs))) t p.2 in
    let g : read_pairs (word_at bs 1) (word_at bs 4) (drop 6 bs) ≡ got r.0 = ap (λ (x : Head). read_pairs x.trains x.pairs (drop 6 bs)) h.1 ∙ r.1 in
    let k : task_in (head_in bs) (drop 6 bs) ≡ t = cc (ap (λ (x : Head). task_in x (drop 6 bs)) h.1, r.2) in
    (h.0, (r.0, g), k)

task_made : (bs : List ℕ) (y : Looked) → HeadIs bs → read_pairs (word_at bs 1) (word_at bs 4) (drop 6 bs) ≡ got y → read_task bs ≡ got (task_in (head_in bs) (drop 6 bs))
task_made bs y i e = rw (head_made bs i, e) refl

length_from : (m : ℕ) (bs : List ℕ) → length (pairs_from m bs) ≡ m
unfolding pairs_from
length_from zero bs = refl
length_from (suc m) bs = ap suc (length_from m (drop 4 bs))

pub task-sound : (bs : List ℕ) (t : Task) → read_task bs ≡ got t → sound t ≡ true
task-sound bs t e =
    let p = task-parts bs t e in
    let q = pairs-sound (word_at bs 1) lowest (word_at bs 4) (drop 6 bs) p.1.0 p.1.1 in
    let l : within 1 4096 (length (pairs_from (word_at bs 4) (drop 6 bs))) ≡ true = ap (within 1 4096) (length_from (word_at bs 4) (drop 6 bs)) ∙ p.0.pairs in
    ap sound (sym p.2) ∙ and_from _ _ (and_from _ _ (and_from _ _ p.0.trains p.0.paths) l) q.0

pub task-length : (bs : List ℕ) (t : Task) → read_task bs ≡ got t → length (drop 6 bs) ≡ 4 * length t.pairs
task-length bs t e =
    let p = task-parts bs t e in
    let q = pairs-sound (word_at bs 1) lowest (word_at bs 4) (drop 6 bs) p.1.0 p.1.1 in
    q.1 ∙ ap (λ m. 4 * m) (sym (length_from (word_at bs 4) (drop 6 bs)) ∙ ap (λ (x : Task). length x.pairs) p.2)

-- six bytes of a head are what is written of what they say
head_only : (bs : List ℕ) → HeadIs bs → all_below 256 bs ≡ true → (bs ≡ head_bytes (word_at bs 1) (at bs 3) (word_at bs 4) ++ drop 6 bs) × (all_below 256 (drop 6 bs) ≡ true)
unfolding all_below
head_only [] h b = absurd (omega (arith, h.there))
head_only (x ∷ []) h b = absurd (omega (arith, h.there))
head_only (x ∷ y ∷ []) h b = absurd (omega (arith, h.there))
head_only (x ∷ y ∷ z ∷ []) h b = absurd (omega (arith, h.there))
head_only (x ∷ y ∷ z ∷ u ∷ []) h b = absurd (omega (arith, h.there))
head_only (x ∷ y ∷ z ∷ u ∷ v ∷ []) h b = absurd (omega (arith, h.there))
head_only (x ∷ y ∷ z ∷ u ∷ v ∷ w ∷ bs) h b =
    let c = and_parts (ltb x 256) _ b in
    let d = and_parts (ltb y 256) _ c.1 in
    let e = and_parts (ltb z 256) _ d.1 in
    let f = and_parts (ltb u 256) _ e.1 in
    let g = and_parts (ltb v 256) _ f.1 in
    let i = and_parts (ltb w 256) (all_below 256 bs) g.1 in
    let y' = word_high y z (ltb-true _ _ d.0) (ltb-true _ _ e.0) in
    let z' = word_low y z (ltb-true _ _ e.0) in
    let v' = word_high v w (ltb-true _ _ g.0) (ltb-true _ _ i.0) in
    let w' = word_low v w (ltb-true _ _ i.0) in
    (rw (y', z', v', w', eqb-true x 1 h.kind) refl, i.1)

task-only : (bs : List ℕ) (t : Task) → all_below 256 bs ≡ true → read_task bs ≡ got t → (sound t ≡ true) × (bs ≡ task_bytes t)
task-only bs t b e =
    let p = task-parts bs t e in
    let q = pairs-sound (word_at bs 1) lowest (word_at bs 4) (drop 6 bs) p.1.0 p.1.1 in
    let h = head_only bs p.0 b in
    let d = pairs-only (word_at bs 4) (drop 6 bs) h.1 q.1 in
    let l = length_from (word_at bs 4) (drop 6 bs) in
    let f : List ℕ → ℕ → List ℕ = λ ys m. head_bytes (word_at bs 1) (at bs 3) m ++ ys in
    (task-sound bs t e, h.0 ∙ (ap (λ ys. f ys (word_at bs 4)) (sym d) ∙ (ap (f _) (sym l) ∙ ap task_bytes p.2)))

same-task : (t : Task) (n k : ℕ) (xs : List Pair) → n ≡ t.trains → k ≡ t.paths → xs ≡ t.pairs → record { trains = n; paths = k; pairs = xs } ≡ t
same-task t n k xs e f g = rw (e, f, g) refl

task-reads : (t : Task) → sound t ≡ true → read_task (task_bytes t) ≡ got t
task-reads t s =
    let p = and_parts _ (rising t.trains lowest t.pairs) s in
    let q = and_parts _ (within 1 4096 (length t.pairs)) p.0 in
    let r = and_parts (within 1 1024 t.trains) (within 1 64 t.paths) q.0 in
    let few = within_most 1 1024 t.trains r.0 in
    let n : word_at (task_bytes t) 1 ≡ t.trains = word_back t.trains (omega arith) in
    let m : word_at (task_bytes t) 4 ≡ length t.pairs = word_back (length t.pairs) (omega (arith, within_most 1 4096 (length t.pairs) q.1)) in
    let w = pairs_written t.trains lowest t.pairs (omega arith) p.1 in
    let i : HeadIs (task_bytes t) =
    record {
      there = omega arith;
      kind = refl;
      trains = ap (within 1 1024) n ∙ r.0;
      paths = r.1;
      pairs = ap (within 1 4096) m ∙ q.1;
    } in
    let e : read_pairs (word_at (task_bytes t) 1) (word_at (task_bytes t) 4) (flat_map pair_bytes t.pairs) ≡ got tt =
    ap (λ x. read_pairs x (word_at (task_bytes t) 4) (flat_map pair_bytes t.pairs)) n ∙ (ap (λ x. read_pairs t.trains x (flat_map pair_bytes t.pairs)) m ∙ w.0) in
    let f : pairs_from (word_at (task_bytes t) 4) (flat_map pair_bytes t.pairs) ≡ t.pairs = ap (λ x. pairs_from x (flat_map pair_bytes t.pairs)) m ∙ w.1 in
    task_made (task_bytes t) tt i e ∙ ap got (same-task t _ _ _ n refl f)

task-cut : (bs ys : List ℕ) (t : Task) → read_task (bs ++ ys) ≡ got t → 0 < length ys → read_task bs ≡ refused 1
task-cut bs ys t e h =
    let p = task-parts (bs ++ ys) t e in
    elim (cases_lt (length bs) 6) [
      | inl s ↦ ap (λ g. and_then g (λ h. and_then (read_pairs h.trains h.pairs (drop 6 bs)) (λ _. got (task_in h (drop 6 bs))))) (head_cut bs ys p.0 s)
      | inr s ↦
          let q = head_sees bs ys p.0 s in
          let d : read_pairs (word_at bs 1) (word_at bs 4) (drop 6 bs ++ ys) ≡ got p.1.0 =
          ap (λ (x : Head). read_pairs x.trains x.pairs (drop 6 bs ++ ys)) (sym q.1) ∙ (ap (read_pairs (word_at (bs ++ ys) 1) (word_at (bs ++ ys) 4)) (sym (drop-append-le 6 bs ys s)) ∙ p.1.1) in
          let c = each-cut 4 (read_pair (word_at bs 1)) (pair_local (word_at bs 1)) ys p.1.0 h lowest (word_at bs 4) (drop 6 bs) d in
          rw (head_made bs q.0, c) refl
    ]

task-cuts : (t : Task) → sound t ≡ true → (j : ℕ) → j < length (task_bytes t) → read_task (take j (task_bytes t)) ≡ refused 1
task-cuts t s j h =
    let w = task_bytes t in
    task-cut (take j w) (drop j w) t (ap read_task (take-append-drop j w) ∙ task-reads t s) (simp length-drop (omega arith))

pub task_law : Inverse read_task task_bytes sound
task_law = record { reads = task-reads; only = task-only; cuts = task-cuts }

count_of : (bs : List ℕ) (h : Head) → got (task_in h (drop 6 bs)) ≡ read_task bs → length (drop 6 bs) / 4 ≡ h.pairs
count_of bs h e = omega (arith, task-length bs (task_in h (drop 6 bs)) (sym e), length_from h.pairs (drop 6 bs), length-drop 6 bs)

-- what a sound task guarantees, one by one
pub record Guarantees (t : Task) : Type 0 where
  pub some_train : 1 ≤ t.trains
  pub few_trains : t.trains ≤ 1024
  pub some_path : 1 ≤ t.paths
  pub few_paths : t.paths ≤ 64
  pub some_pair : 1 ≤ length t.pairs
  pub few_pairs : length t.pairs ≤ 4096
  pub rises : rising t.trains lowest t.pairs ≡ true

pub guarantees : (t : Task) → sound t ≡ true → Guarantees t
guarantees t s =
    let p = and_parts _ (rising t.trains lowest t.pairs) s in
    let q = and_parts _ (within 1 4096 (length t.pairs)) p.0 in
    let r = and_parts (within 1 1024 t.trains) (within 1 64 t.paths) q.0 in
    record {
      some_train = within_least 1 1024 _ r.0;
      few_trains = within_most 1 1024 _ r.0;
      some_path = within_least 1 64 _ r.1;
      few_paths = within_most 1 64 _ r.1;
      some_pair = within_least 1 4096 _ q.1;
      few_pairs = within_most 1 4096 _ q.1;
      rises = p.1;
    }

is_within : (low high x : ℕ) → low ≤ x → x ≤ high → within low high x ≡ true
is_within low high x l h = and_from _ _ (le-leb low x l) (le-leb x high h)

pub sound_from : (t : Task) → Guarantees t → sound t ≡ true
sound_from t g =
    and_from _ _
    (and_from _ _
    (and_from _ _ (is_within 1 1024 _ g.some_train g.few_trains) (is_within 1 64 _ g.some_path g.few_paths))
    (is_within 1 4096 _ g.some_pair g.few_pairs))
    g.rises

-- the task that is kept is the one that was read
pub task-kept : (bs : List ℕ) (h : Head) (xs : List Pair) → got (task_in h (drop 6 bs)) ≡ read_task bs → xs ≡ pairs_from (length (drop 6 bs) / 4) (drop 6 bs) → got record { trains = h.trains; paths = h.paths; pairs = xs } ≡ read_task bs
task-kept bs h xs e k = ap (λ ys. got record { trains = h.trains; paths = h.paths; pairs = ys }) (k ∙ ap (λ m. pairs_from m (drop 6 bs)) (count_of bs h e)) ∙ e
