-- What more bytes can change of what was read of a task, and of units one after the other.
use Rattle.std.proofs.Common.{◌≡◌, ℕ, zero, suc, ◌+◌, ◌*◌, ◌<◌, ◌≤◌, Bool, true, false, cond, eqb, ◌⊎◌, List, [], ◌∷◌, ◌++◌, length, drop, sym, refl, ap, ◌∙◌, inl, inr, suc-mul, arith, length-append, length-drop}
use Rattle.std.proofs.lemmas.Bool.{cases_lt, le-leb, ne_eqb}
use Rattle.std.proofs.lemmas.List.{get_or_append_left, drop-append-le}
use Rattle.paths.specs.Plan.{Task, at}
use Rattle.tasks.specs.Reading.{Got, Head, got, refused, and_then, unit, ends, read_each, read_head, read_pairs, read_pair, read_task, task_in, word_at}
use Rattle.tasks.specs.Task.{within, lowest}
use Rattle.tasks.proofs.Units.{Local, unit_got, unit-cut, then_got, each-cut}
use Rattle.tasks.proofs.PairLaws.{pair_local, pairs-sound, word_sees}

-- more bytes change nothing but fault 1
abbrev Firm : {A : Type 0} → Got A → Got A → Type 0
Firm short long = (short ≡ refused 1) ⊎ (long ≡ short)

firm_good : {A : Type 0} (good : Bool) (f : ℕ) (short long : Got A) → Firm short long → Firm (cond good short (refused f)) (cond good long (refused f))
firm_good true f short long h = h
firm_good false f short long h = inr refl

module _ {A : Type 0} (bs ys : List ℕ) where
  -- a unit of which `end` is there looks the same before ys
  unit_firm : (end : ℕ) (good more : Bool) (f : ℕ) (short long : Got A) → (end ≤ length bs → (more ≡ good) × Firm short long) → Firm (unit bs end good f short) (unit (bs ++ ys) end more f long)
  unit_firm end good more f short long h =
      elim (cases_lt (length bs) end) [
        | inl s ↦ inl (unit-cut bs end good f short s)
        | inr s ↦
            let l : end ≤ length (bs ++ ys) = simp length-append (omega arith) in
            rw (le-leb end (length bs) s, le-leb end (length (bs ++ ys)) l, (h s).0) (firm_good good f short long (h s).1)
      ]

pub head_firm : (bs ys : List ℕ) → Firm (read_head bs) (read_head (bs ++ ys))
head_firm bs ys =
    unit_firm bs ys 1 _ _ 1 _ _ (λ s. (
      ap (λ x. eqb x 1) (get_or_append_left bs ys 0 0 s),
      unit_firm bs ys 3 _ _ 2 _ _ (λ s. (
        ap (within 1 1024) (word_sees bs ys 1 s),
        unit_firm bs ys 4 _ _ 2 _ _ (λ s. (
          ap (within 1 64) (get_or_append_left bs ys 0 3 s),
          unit_firm bs ys 6 _ _ 2 _ _ (λ s. (
            ap (within 1 4096) (word_sees bs ys 4 s),
            inr (rw (word_sees bs ys 1 (omega arith), get_or_append_left bs ys 0 3 (omega arith), word_sees bs ys 4 s) refl),
          )),
        )),
      )),
    ))

-- what is known of a head that was read
pub record HeadIs (bs : List ℕ) : Type 0 where
  pub there : 6 ≤ length bs
  pub kind : eqb (at bs 0) 1 ≡ true

pub head_is : (bs : List ℕ) (h : Head) → read_head bs ≡ got h → HeadIs bs
head_is bs h e =
    let p = unit_got bs 1 _ 1 _ h e in
    let q = unit_got bs 3 _ 2 _ h p.2 in
    let r = unit_got bs 4 _ 2 _ h q.2 in
    record { there = (unit_got bs 6 (within 1 4096 (word_at bs 4)) 2 _ h r.2).0; kind = p.1 }

-- a head that is all there and of its kind is read, or has a bad number
two-or-got : {A : Type 0} (good : Bool) (next : Got A) (P : Type 0) → (next ≡ refused 1 → P) → cond good next (refused 2) ≡ refused 1 → P
two-or-got true next P h e = h e
two-or-got false next P h e = let z : ◌≡◌ {A = ℕ} 2 1 = cc in absurd (omega arith)

pub head_whole : (bs : List ℕ) → 6 ≤ length bs → eqb (at bs 0) 1 ≡ true → read_head bs ≡ refused 1 → ⊥
head_whole bs h k e =
    let a = le-leb 1 (length bs) (omega arith) in
    let b = le-leb 3 (length bs) (omega arith) in
    let c = le-leb 4 (length bs) (omega arith) in
    let d = le-leb 6 (length bs) h in
    two-or-got (within 1 1024 (word_at bs 1)) _ ⊥ (
    two-or-got (within 1 64 (at bs 3)) _ ⊥ (
    two-or-got (within 1 4096 (word_at bs 4)) _ ⊥ (λ f. let z : ◌≡◌ {A = ℕ} 0 1 = cc in absurd (omega arith))))
    (rw (a, b, c, d, k) at e)

ends_past : (bs : List ℕ) → 0 < length bs → ends bs ≡ refused 1
ends_past bs h = ap (λ b. cond b (got tt) (refused 1)) (ne_eqb _ _ (λ e. omega arith))

pub then_stays : {A B : Type 0} (f : ℕ) (g : Got A) (next long : A → Got B) → ((x : A) → g ≡ got x → next x ≡ refused f → long x ≡ refused f) → and_then g next ≡ refused f → and_then g long ≡ refused f
then_stays f (got x) next long h e = h x refl e
then_stays f (refused n) next long h e = cc

-- units that are all there: a fault stays, whatever follows
module _ {A : Type 0} (w : ℕ) (one : A → List ℕ → Got A) (l : Local w one) (ys : List ℕ) (f : ℕ) where
  pub each-stays : (last : A) (m : ℕ) (bs : List ℕ) → m * w ≤ length bs → read_each one w last m bs ≡ refused f → read_each one w last m (bs ++ ys) ≡ refused f
  unfolding read_each
  each-stays last zero [] h e = let z : ◌≡◌ {A = ℕ} 0 1 = cc in absurd (omega arith)
  each-stays last zero (b ∷ bs) h e = cc (ends_past (b ∷ bs) (omega arith), ends_past (b ∷ (bs ++ ys)) (omega arith))
  each-stays last (suc m) bs h e =
      let k = suc-mul m w in
      rw (l.sees last bs ys (omega arith), drop-append-le w bs ys (omega arith)) (
      then_stays f (one last bs) _ _ (λ x _. each-stays x m (drop w bs) (simp length-drop (omega arith))) e)

-- how a task is read behind its head
abbrev pub after_head : List ℕ → Head → Got Task
after_head bs h = and_then (read_pairs h.trains h.pairs (drop 6 bs)) (λ _. got (task_in h (drop 6 bs)))

pub task-length : (bs : List ℕ) (t : Task) → read_task bs ≡ got t → (h : Head) × (read_head bs ≡ got h) × (length bs ≡ 6 + 4 * h.pairs)
task-length bs t e =
    let p = then_got (read_head bs) (after_head bs) t e in
    let q = then_got (read_pairs p.0.trains p.0.pairs (drop 6 bs)) (λ _. got (task_in p.0 (drop 6 bs))) t p.2 in
    let l = simp length-drop at (pairs-sound p.0.trains lowest p.0.pairs (drop 6 bs) q.0 q.1).1 in
    let i = head_is bs p.0 p.1 in
    (p.0, p.1, omega arith)

pub task-cut : (bs ys : List ℕ) (t : Task) → read_task (bs ++ ys) ≡ got t → 0 < length ys → read_task bs ≡ refused 1
task-cut bs ys t e h =
    let p = then_got (read_head (bs ++ ys)) (after_head (bs ++ ys)) t e in
    elim (head_firm bs ys) [
      | inl s ↦ ap (λ g. and_then g (after_head bs)) s
      | inr s ↦
          let d = sym s ∙ p.1 in
          let i = head_is bs p.0 d in
          let q = then_got (read_pairs p.0.trains p.0.pairs (drop 6 (bs ++ ys))) (λ _. got (task_in p.0 (drop 6 (bs ++ ys)))) t p.2 in
          let g = ap (read_pairs p.0.trains p.0.pairs) (sym (drop-append-le 6 bs ys i.there)) ∙ q.1 in
          let c = each-cut 4 (read_pair p.0.trains) (pair_local p.0.trains) ys q.0 h lowest p.0.pairs (drop 6 bs) g in
          rw (d, c) refl
    ]
