-- Bytes behind the longest good task or plan, and one more, change nothing of what is read.
use Rattle.std.proofs.Common.{◌≡◌, ℕ, zero, suc, ◌+◌, ◌-◌, ◌*◌, ◌<◌, ◌≤◌, cond, leb, List, length, take, drop, sym, refl, ap, ◌∙◌, inl, inr, suc-mul, mul-one, arith, length-drop, length-take}
use Rattle.std.proofs.lemmas.List.{take_all, take-append-drop, length-take-le, drop-take, get_or-take}
use Rattle.std.proofs.lemmas.Bool.{cases_lt, le-leb, ne_eqb}
use Rattle.paths.specs.Plan.{Task}
use Rattle.tasks.specs.Reading.{Got, Sees, got, refused, and_then, ends, read_each, read_head, read_pair, read_pairs, read_task, read_path, read_paths, read_plan_head, read_plan, task_in, pairs_from}
use Rattle.tasks.specs.Task.{lowest}
use Rattle.tasks.proofs.Units.{Local}
use Rattle.tasks.proofs.PairLaws.{pair_local}
use Rattle.tasks.proofs.PlanLaws.{path_local, paths-sound}
use Rattle.tasks.proofs.TaskLaws.{head_few}

then_same : {A B : Type 0} (b : Got A) (f g : A → Got B) → ((x : A) → b ≡ got x → f x ≡ g x) → and_then b f ≡ and_then b g
then_same (got x) f g h = h x refl
then_same (refused n) f g h = refl

-- a reader of units sees no more than its units and one byte
module _ {A : Type 0} (w : ℕ) (one : A → List ℕ → Got A) (l : Local w one) where
  -- the first n bytes, of which one unit and more are there
  one_sees : (last : A) (n : ℕ) (bs : List ℕ) → w ≤ n → n ≤ length bs → one last (take n bs) ≡ one last bs
  one_sees last n bs h g =
      sym (ap (one last) (sym (take-append-drop n bs)) ∙ l.sees last (take n bs) (drop n bs) (simp (length-take-le n bs g) h))

  pub each_sees : (last : A) (m n : ℕ) (bs : List ℕ) → m * w < n → read_each one w last m (take n bs) ≡ read_each one w last m bs
  unfolding read_each
  each_sees last zero n bs h =
      elim (cases_lt n (length bs)) [
        | inl s ↦ ap (λ b. cond b (got tt) (refused 1)) (ne_eqb _ _ (simp length-take (λ e. omega arith)) ∙ sym (ne_eqb _ _ (λ e. omega arith)))
        | inr s ↦ ap ends (take_all n bs s)
      ]
  each_sees last (suc m) n bs h =
      elim (cases_lt n (length bs)) [
        | inl s ↦
            let k : w + (n - w) ≡ n = omega (arith, suc-mul m w) in
            let d : drop w (take n bs) ≡ take (n - w) (drop w bs) = ap (λ j. drop w (take j bs)) (sym k) ∙ drop-take w (n - w) bs in
            ap (λ c. and_then c (λ x. read_each one w x m (drop w (take n bs)))) (one_sees last n bs (omega (arith, suc-mul m w)) (omega arith))
            ∙ then_same (one last bs) _ _ (λ x _. ap (read_each one w x m) d ∙ each_sees x m (n - w) (drop w bs) (omega (arith, suc-mul m w)))
        | inr s ↦ ap (read_each one w last (suc m)) (take_all n bs s)
      ]

-- what is there of the first n bytes
there : (end n : ℕ) (bs : List ℕ) → end ≤ n → n ≤ length bs → leb end (length (take n bs)) ≡ leb end (length bs)
there end n bs h g = le-leb end _ (simp (length-take-le n bs g) h) ∙ sym (le-leb end _ (omega arith))

head_sees : (n : ℕ) (bs : List ℕ) → 6 ≤ n → n ≤ length bs → read_head (take n bs) ≡ read_head bs
head_sees n bs h g =
    rw (
      there 1 n bs (omega arith) g,
      there 3 n bs (omega arith) g,
      there 4 n bs (omega arith) g,
      there 6 n bs (omega arith) g,
      get_or-take n bs 0 0 (omega arith),
      get_or-take n bs 1 0 (omega arith),
      get_or-take n bs 2 0 (omega arith),
      get_or-take n bs 3 0 (omega arith),
      get_or-take n bs 4 0 (omega arith),
      get_or-take n bs 5 0 (omega arith),
    ) refl

-- the bytes behind a head
rest : (k n : ℕ) (bs : List ℕ) → k ≤ n → drop k (take n bs) ≡ take (n - k) (drop k bs)
rest k n bs h = let e : k + (n - k) ≡ n = omega arith in ap (λ j. drop k (take j bs)) (sym e) ∙ drop-take k (n - k) bs

from_sees : (m n : ℕ) (bs : List ℕ) → m * 4 ≤ n → pairs_from m (take n bs) ≡ pairs_from m bs
unfolding pairs_from
from_sees zero n bs h = refl
from_sees (suc m) n bs h =
    let l = suc-mul m 4 in
    let e = rest 4 n bs (omega arith) in
    let f = from_sees m (n - 4) (drop 4 bs) (omega arith) in
    rw (get_or-take n bs 0 0 (omega arith), get_or-take n bs 1 0 (omega arith), get_or-take n bs 2 0 (omega arith), get_or-take n bs 3 0 (omega arith), e, f) refl

pub task_front : Sees 16390 read_task
task_front n h bs =
    elim (cases_lt n (length bs)) [
      | inl s ↦
          ap (λ c. and_then c (λ x. and_then (read_pairs x.trains x.pairs (drop 6 (take n bs))) (λ _. got (task_in x (drop 6 (take n bs)))))) (head_sees n bs (omega arith) (omega arith))
          ∙ then_same (read_head bs) _ _ (λ x e.
          let few = head_few bs x e in
          let p : read_pairs x.trains x.pairs (drop 6 (take n bs)) ≡ read_pairs x.trains x.pairs (drop 6 bs) =
          ap (read_pairs x.trains x.pairs) (rest 6 n bs (omega arith)) ∙ each_sees 4 (read_pair x.trains) (pair_local x.trains) lowest x.pairs (n - 6) (drop 6 bs) (omega arith) in
          let q : pairs_from x.pairs (drop 6 (take n bs)) ≡ pairs_from x.pairs (drop 6 bs) = ap (pairs_from x.pairs) (rest 6 n bs (omega arith)) ∙ from_sees x.pairs (n - 6) (drop 6 bs) (omega arith) in
          ap (λ c. and_then c (λ _. got (task_in x (drop 6 (take n bs))))) p ∙ ap (λ ys. and_then (read_pairs x.trains x.pairs (drop 6 bs)) (λ _. got record { trains = x.trains; paths = x.paths; pairs = ys })) q)
      | inr s ↦ ap read_task (take_all n bs s)
    ]

plan_head_sees : (t n : ℕ) (bs : List ℕ) → 3 ≤ n → n ≤ length bs → read_plan_head t (take n bs) ≡ read_plan_head t bs
plan_head_sees t n bs h g =
    rw (there 1 n bs (omega arith) g, there 3 n bs (omega arith) g, get_or-take n bs 0 0 (omega arith), get_or-take n bs 1 0 (omega arith), get_or-take n bs 2 0 (omega arith)) refl

pub plan_front : (t : Task) → t.trains ≤ 1024 → Sees 1027 (read_plan t)
plan_front t few n h bs =
    elim (cases_lt n (length bs)) [
      | inl s ↦
          let p : read_paths t.paths t.trains (drop 3 (take n bs)) ≡ read_paths t.paths t.trains (drop 3 bs) =
          ap (read_paths t.paths t.trains) (rest 3 n bs (omega arith)) ∙ each_sees 1 (read_path t.paths) (path_local t.paths) tt t.trains (n - 3) (drop 3 bs) (omega (arith, mul-one t.trains)) in
          ap (λ c. and_then c (λ _. and_then (read_paths t.paths t.trains (drop 3 (take n bs))) (λ _. got (drop 3 (take n bs))))) (plan_head_sees t.trains n bs (omega arith) (omega arith))
          ∙ then_same (read_plan_head t.trains bs) _ _ (λ x e.
          ap (λ c. and_then c (λ _. got (drop 3 (take n bs)))) p
          ∙ then_same (read_paths t.paths t.trains (drop 3 bs)) _ _ (λ y f. absurd (omega (arith, simp length-drop at (paths-sound t.paths tt t.trains (drop 3 bs) y f).1))))
      | inr s ↦ ap (read_plan t) (take_all n bs s)
    ]
