-- What is read as a word is exactly what is written of it.
use Rattle.std.proofs.Common.{◌≡◌, ℕ, zero, suc, ◌+◌, ◌*◌, ◌/◌, ◌<◌, ◌≤◌, Bool, true, false, cond, ◌&&◌, eqb, ltb, leb, List, [], ◌∷◌, ◌++◌, length, take, drop, sym, refl, ap, ◌∙◌, subst, inl, inr, append-nil, arith, length-drop, length-take}
use Rattle.std.proofs.lemmas.Bool.{false≢true, and_parts, and_from, ltb-true, lt-ltb, eqb-true, eq-eqb, ne_eqb, cases_eq}
use Rattle.std.proofs.lemmas.Bool.Decides.{nat_tests}
use Rattle.std.proofs.lemmas.List.{drop_at, drop_more, drop_all, length-take-le, take-append-drop}
use Rattle.paths.specs.Plan.{Task, at, all_below}
use Rattle.tasks.specs.Reading.{Got, got, refused, and_then, read_head, read_task, read_plan, word_at}
use Rattle.tasks.specs.Writing.{word_bytes}
use Rattle.tasks.proofs.Units.{then_got, cond-got}
use Rattle.tasks.proofs.Words.{word_back}
use Rattle.tasks.proofs.PlanLaws.{plan_law}
use Rattle.boxes.specs.Box.{Opening}
use Rattle.tasks.specs.Kind.{kind_byte}
use Rattle.tasks.specs.declared.kind.Kind.{Kind}
use Rattle.tasks.specs.declared.kind.Kind.TheVariants as kind
use Rattle.words.specs.Said.{Said, task, plan, boxes, ask, opened, end}
use Rattle.words.specs.Reading.{exactly, long_at, opening_at, read_task_word, read_opened, read_word}
use Rattle.words.specs.Writing.{WordLaw, said_bytes, long_bytes, opening_bytes, is_said, is_got, is_round, is_opening}
use Rattle.words.proofs.Numbers.{long-back, long-below, long-only, word_below, word-only, opening_only, opening_front, opening_behind}
use Rattle.words.proofs.Lengths.{boxes-length, opened-length}
use Rattle.words.proofs.Grows.{after_head, head_is, task-cut}

-- by the kind of a word, which is its first byte
pub record Unknown (k : ℕ) : Type 0 where
  pub not1 : eqb k 1 ≡ false
  pub not2 : eqb k 2 ≡ false
  pub not3 : eqb k 3 ≡ false
  pub not4 : eqb k 4 ≡ false
  pub not5 : eqb k 5 ≡ false
  pub not6 : eqb k 6 ≡ false

-- a byte that is no kind's
pub unknown : (k : ℕ) → ((kind : Kind) → kind_byte kind ≡ k → ⊥) → Unknown k
unknown k h =
    record {
      not1 = ne_eqb k 1 (λ e. h kind.Task (sym e));
      not2 = ne_eqb k 2 (λ e. h kind.Plan (sym e));
      not3 = ne_eqb k 3 (λ e. h kind.Boxes (sym e));
      not4 = ne_eqb k 4 (λ e. h kind.Ask (sym e));
      not5 = ne_eqb k 5 (λ e. h kind.Opened (sym e));
      not6 = ne_eqb k 6 (λ e. h kind.End (sym e));
    }

pub by_kind : (P : ℕ → Type 0) → P 1 → P 2 → P 3 → P 4 → P 5 → P 6 → ((k : ℕ) → Unknown k → P k) → (k : ℕ) → P k
by_kind P a b c d e f other k =
    elim (cases_eq k 1) [
      | inl h ↦ subst P (sym h) a
      | inr h1 ↦
          elim (cases_eq k 2) [
            | inl h ↦ subst P (sym h) b
            | inr h2 ↦
                elim (cases_eq k 3) [
                  | inl h ↦ subst P (sym h) c
                  | inr h3 ↦
                      elim (cases_eq k 4) [
                        | inl h ↦ subst P (sym h) d
                        | inr h4 ↦
                            elim (cases_eq k 5) [
                              | inl h ↦ subst P (sym h) e
                              | inr h5 ↦
                                  elim (cases_eq k 6) [
                                    | inl h ↦ subst P (sym h) f
                                    | inr h6 ↦
                                        other k (record { not1 = ne_eqb k 1 h1; not2 = ne_eqb k 2 h2; not3 = ne_eqb k 3 h3; not4 = ne_eqb k 4 h4; not5 = ne_eqb k 5 h5; not6 = ne_eqb k 6 h6 })
                                  ]
                            ]
                      ]
                ]
          ]
    ]

pub unknown_kind : (t : Task) (k : ℕ) (bs : List ℕ) → Unknown k → read_word t (k ∷ bs) ≡ refused 1
unknown_kind t k bs u = rw (u.not1, u.not2, u.not3, u.not4, u.not5, u.not6) refl

no_got : {P : Type 0} (f : ℕ) (w : Said) → refused f ≡ got w → P
no_got f w e = let z : ◌≡◌ {A = ℕ} 0 1 = cc in absurd (omega arith)

-- a word of so many bytes
module _ (size : ℕ) (good : Bool) (w : Said) (bs : List ℕ) where
  exact_got : (x : Said) → exactly size good w bs ≡ got x → (length bs ≡ size) × (good ≡ true) × (w ≡ x)
  exact_got x e =
      let p = cond-got (eqb (length bs) size && good) 1 (got w) x e in
      let q = and_parts (eqb (length bs) size) good p.0 in
      (eqb-true _ _ q.0, q.1, cc p.1)

  exact_made : length bs ≡ size → good ≡ true → exactly size good w bs ≡ got w
  exact_made l g = rw (eq-eqb _ _ l, g) refl

  pub exact_cut : (length bs ≡ size → ⊥) → exactly size good w bs ≡ refused 1
  exact_cut l = rw (ne_eqb _ _ l) refl

-- Task

pub task-there : (bs : List ℕ) → is_got (read_task bs) ≡ true → (x : Task) × (read_task bs ≡ got x)
task-there bs h = go (read_task bs) refl h
  where
    go : (g : Got Task) → read_task bs ≡ g → is_got g ≡ true → (x : Task) × (read_task bs ≡ got x)
    go (got x) e h = (x, e)
    go (refused f) e h = absurd (false≢true h)

pub task_kind : (bs : List ℕ) → is_got (read_task bs) ≡ true → eqb (at bs 0) 1 ≡ true
task_kind bs h =
    let p = task-there bs h in
    let q = then_got (read_head bs) (after_head bs) p.0 p.1 in
    (head_is bs q.0 q.1).kind

pub picked : {A : Type 0} (b : Bool) (x y : A) → b ≡ true → cond b x y ≡ x
picked true x y h = refl
picked false x y h = absurd (false≢true h)

-- bytes that begin as a task are read as a task
as_task : (t : Task) (bs : List ℕ) (g : Got Task) → eqb (at bs 0) 1 ≡ true → read_task bs ≡ g → read_word t bs ≡ and_then g (λ _. got (task bs))
as_task t bs g h e = picked (eqb (at bs 0) 1) (read_task_word bs) _ h ∙ ap (λ x. and_then x (λ _. got (task bs))) e

-- Reading what is written

opened-back : (t : Task) (r : ℕ) (x y : Opening) → is_said t (opened r x y) ≡ true → read_opened (said_bytes (opened r x y)) ≡ got (opened r x y)
opened-back t r x y h =
    let p = and_parts (is_round r) (is_opening x && is_opening y) h in
    let q = and_parts (is_opening x) (is_opening y) p.1 in
    let lx = eqb-true _ _ (and_parts (ltb x.train 65536) (eqb (length x.chance) 32) q.0).1 in
    let bs = said_bytes (opened r x y) in
    let a : long_at bs 1 ≡ r = long-back r (ltb-true _ _ p.0) in
    let b : opening_at bs 5 ≡ x = opening_behind 5 bs ∙ opening_front x (opening_bytes y) q.0 in
    let d : drop 40 bs ≡ opening_bytes y = drop_at x.chance (opening_bytes y) 32 lx in
    let c : opening_at bs 40 ≡ y = opening_behind 40 bs ∙ (ap (λ zs. opening_at zs 0) (d ∙ sym (append-nil (opening_bytes y))) ∙ opening_front y [] q.1) in
    exact_made 75 true _ bs (opened-length t r x y h) refl ∙ rw (a, b, c) refl

reads : (t : Task) → t.trains < 65536 → (w : Said) → is_said t w ≡ true → read_word t (said_bytes w) ≡ got w
reads t few (task bs) h =
    let p = task-there bs h in
    as_task t bs (got p.0) (task_kind bs h) p.1
reads t few (plan p) h = rw ((plan_law t few).reads p h) refl
reads t few (boxes r ds) h =
    let p = and_parts (is_round r) (eqb (length ds) (32 * t.trains)) h in
    let l = eqb-true _ _ p.1 in
    let n : length ds / 32 ≡ t.trains = omega arith in
    let bs = said_bytes (boxes r ds) in
    let a : long_at bs 1 ≡ r = long-back r (ltb-true _ _ p.0) in
    let b : word_at bs 5 ≡ t.trains = word_back (length ds / 32) (omega arith) ∙ n in
    exact_made (7 + 32 * t.trains) _ _ bs (omega arith) (eq-eqb _ _ b) ∙ ap (λ x. got (boxes x ds)) a
reads t few (ask r i) h =
    let p = and_parts (is_round r) (ltb i 65536) h in
    let a = long-back r (ltb-true _ _ p.0) in
    let b = word_back i (ltb-true _ _ p.1) in
    rw (a, b) refl
reads t few (opened r x y) h = opened-back t r x y h
reads t few (end r true) h = ap (λ x. got (end x true)) (long-back r (ltb-true _ _ h))
reads t few (end r false) h = ap (λ x. got (end x false)) (long-back r (ltb-true _ _ h))

-- No other bytes are read

abbrev Only : Task → List ℕ → Type 0
Only t bs = (w : Said) → all_below 256 bs ≡ true → read_word t bs ≡ got w → (is_said t w ≡ true) × (bs ≡ said_bytes w)

-- a word that was read, as it is said and written
same-said : (t : Task) (bs : List ℕ) (v w : Said) → v ≡ w → is_said t v ≡ true → bs ≡ said_bytes v → (is_said t w ≡ true) × (bs ≡ said_bytes w)
same-said t bs v w e g b = (ap (is_said t) (sym e) ∙ g, b ∙ ap said_bytes e)

round-at : (bs : List ℕ) (i : ℕ) → all_below 256 bs ≡ true → is_round (long_at bs i) ≡ true
round-at bs i b = lt-ltb _ _ (long-below bs b i)

module _ (t : Task) (few : t.trains < 65536) (bs : List ℕ) where
  task-only : Only t (1 ∷ bs)
  task-only w b e =
      let p = then_got (read_task (1 ∷ bs)) (λ _. got (task (1 ∷ bs))) w e in
      same-said t (1 ∷ bs) (task (1 ∷ bs)) w (cc p.2) (ap is_got p.1) refl

  plan-only : Only t (2 ∷ bs)
  plan-only w b e =
      let p = then_got (read_plan t (2 ∷ bs)) (λ x. got (plan x)) w e in
      let q = (plan_law t few).only (2 ∷ bs) p.0 b p.1 in
      same-said t (2 ∷ bs) (plan p.0) w (cc p.2) q.0 q.1

  boxes-only : Only t (3 ∷ bs)
  boxes-only w b e =
      let zs = 3 ∷ bs in
      let p = exact_got (7 + 32 * t.trains) _ _ zs w e in
      let l : length (drop 7 zs) ≡ 32 * t.trains = length-drop 7 zs ∙ omega (arith, p.0) in
      let n : length (drop 7 zs) / 32 ≡ word_at zs 5 = omega (arith, eqb-true _ _ p.1) in
      let d = word-only zs b 5 (omega (arith, p.0)) in
      same-said t zs _ w p.2 (and_from _ _ (round-at zs 1 b) (eq-eqb _ _ l)) (
      ap (λ ys. 3 ∷ ys) (sym (rw n (ap (λ ys. long_bytes (long_at zs 1) ++ ys) d ∙ long-only zs b 1 (omega (arith, p.0))))))

  ask-only : Only t (4 ∷ bs)
  ask-only w b e =
      let zs = 4 ∷ bs in
      let p = exact_got 7 true _ zs w e in
      let z = drop_all 7 zs (omega (arith, p.0)) in
      let d : word_bytes (word_at zs 5) ≡ drop 5 zs = sym (append-nil (word_bytes (word_at zs 5))) ∙ (ap (λ ys. word_bytes (word_at zs 5) ++ ys) (sym z) ∙ word-only zs b 5 (omega (arith, p.0))) in
      same-said t zs _ w p.2 (and_from _ _ (round-at zs 1 b) (lt-ltb _ _ (word_below zs b 5))) (
      ap (λ ys. 4 ∷ ys) (sym (ap (λ ys. long_bytes (long_at zs 1) ++ ys) d ∙ long-only zs b 1 (omega (arith, p.0)))))

is_opening_lem : (bs : List ℕ) (i : ℕ) → all_below 256 bs ≡ true → i + 35 ≤ length bs → is_opening (opening_at bs i) ≡ true
is_opening_lem bs i b h = and_from _ _ (lt-ltb _ _ (word_below bs b i)) (eq-eqb _ _ (length-take-le 32 _ (simp length-drop (omega arith))))

opened-only : (t : Task) (bs : List ℕ) → Only t (5 ∷ bs)
opened-only t bs w b e =
    let zs = 5 ∷ bs in
    let p = exact_got 75 true _ zs w e in
    let z = drop_all 75 zs (omega (arith, p.0)) in
    let o = opening_bytes (opening_at zs 40) in
    let d : o ≡ drop 40 zs = sym (append-nil o) ∙ (ap (λ ys. o ++ ys) (sym z) ∙ opening_only zs b 40 (omega (arith, p.0))) in
    let c = ap (λ ys. opening_bytes (opening_at zs 5) ++ ys) d ∙ opening_only zs b 5 (omega (arith, p.0)) in
    same-said t zs _ w p.2 (and_from _ _ (round-at zs 1 b) (and_from _ _ (is_opening_lem zs 5 b (omega (arith, p.0))) (is_opening_lem zs 40 b (omega (arith, p.0))))) (
    ap (λ ys. 5 ∷ ys) (sym (ap (λ ys. long_bytes (long_at zs 1) ++ ys) c ∙ long-only zs b 1 (omega (arith, p.0)))))

content_bit : (x : ℕ) → leb x 1 ≡ true → cond (eqb x 1) 1 0 ≡ x
content_bit x h = grind (arith, nat_tests)

end-only : (t : Task) (bs : List ℕ) → Only t (6 ∷ bs)
end-only t bs w b e =
    let zs = 6 ∷ bs in
    let p = exact_got 6 _ _ zs w e in
    let d : cond (eqb (at zs 5) 1) 1 0 ∷ [] ≡ drop 5 zs = ap (λ x. x ∷ []) (content_bit (at zs 5) p.1) ∙ sym (drop_more zs 5 0 (omega (arith, p.0)) ∙ ap (λ ys. at zs 5 ∷ ys) (drop_all 6 zs (omega (arith, p.0)))) in
    same-said t zs _ w p.2 (round-at zs 1 b) (
    ap (λ ys. 6 ∷ ys) (sym (ap (λ ys. long_bytes (long_at zs 1) ++ ys) d ∙ long-only zs b 1 (omega (arith, p.0)))))

only : (t : Task) → t.trains < 65536 → (bs : List ℕ) → Only t bs
only t few [] = λ w b e. no_got 1 w e
only t few (k ∷ bs) =
    by_kind (λ k. Only t (k ∷ bs)) (task-only t few bs) (plan-only t few bs) (boxes-only t few bs) (ask-only t few bs) (opened-only t bs) (end-only t bs)
    (λ k u w b e. no_got 1 w (sym (unknown_kind t k bs u) ∙ e)) k

-- What is cut is fault 1

cuts : (t : Task) → t.trains < 65536 → (w : Said) → is_said t w ≡ true → (j : ℕ) → j < length (said_bytes w) → read_word t (take j (said_bytes w)) ≡ refused 1
cuts t few w h zero l = refl
cuts t few (task []) h (suc j) l = absurd (omega arith)
cuts t few (task (k ∷ bs)) h (suc j) l =
    let p = task-there (k ∷ bs) h in
    let ys = drop j bs in
    let c : read_task (k ∷ take j bs) ≡ refused 1 = task-cut (k ∷ take j bs) ys p.0 (ap (λ xs. read_task (k ∷ xs)) (take-append-drop j bs) ∙ p.1) (simp length-drop (omega arith)) in
    as_task t (k ∷ take j bs) (refused 1) (task_kind (k ∷ bs) h) c
cuts t few (plan p) h (suc j) l = rw ((plan_law t few).cuts p h (suc j) l) refl
cuts t few (boxes r ds) h (suc j) l =
    exact_cut _ _ _ (take (suc j) (said_bytes (boxes r ds))) (simp length-take (λ e. omega (arith, boxes-length t r ds h)))
cuts t few (ask r i) h (suc j) l = exact_cut _ _ _ (take (suc j) (said_bytes (ask r i))) (simp length-take (λ e. omega arith))
cuts t few (opened r x y) h (suc j) l =
    exact_cut _ _ _ (take (suc j) (said_bytes (opened r x y))) (simp length-take (λ e. omega (arith, opened-length t r x y h)))
cuts t few (end r c) h (suc j) l = exact_cut _ _ _ (take (suc j) (said_bytes (end r c))) (simp length-take (λ e. omega arith))

pub word_law : (t : Task) → t.trains < 65536 → WordLaw t
word_law t few = record { reads = reads t few; only = only t few; cuts = cuts t few }
