-- Reading and writing plans are inverse.
use Rattle.std.proofs.Common.{◌≡◌, ℕ, zero, suc, ◌+◌, ◌*◌, ◌<◌, ◌≤◌, true, cond, eqb, ltb, List, [], ◌∷◌, ◌++◌, length, take, drop, sym, refl, ap, ◌∙◌, inl, inr, arith, length-drop}
use Rattle.std.proofs.lemmas.Bool.{ltb-true, eqb-true, eq-eqb, and_parts, and_from, cases_lt, le-leb}
use Rattle.std.proofs.lemmas.List.{get_or_append_left, drop-append-le, take-append-drop}
use Rattle.paths.specs.Plan.{Task, Plan, at, all_below}
use Rattle.tasks.specs.Reading.{Got, Looked, got, refused, and_then, read_each, read_path, read_paths, read_plan_head, read_plan, word_at}
use Rattle.tasks.specs.Writing.{word_bytes, plan_bytes, is_plan, Inverse}
use Rattle.tasks.proofs.Units.{unit_got, then_got, ends-got, unit_good, unit-cut, unit_prefix, each-cut, Local}
use Rattle.tasks.proofs.Words.{word_back, word_high, word_low}
use Rattle.tasks.proofs.PairLaws.{word_sees}

pub paths-sound : (k : ℕ) (last : Looked) (m : ℕ) (bs : List ℕ) (y : Looked) → read_each (read_path k) 1 last m bs ≡ got y → (all_below k bs ≡ true) × (length bs ≡ m)
unfolding read_each all_below
paths-sound k last zero [] y e = (refl, refl)
paths-sound k last zero (b ∷ bs) y e = absurd (omega (arith, ends-got (b ∷ bs) y e))
paths-sound k last (suc m) [] y e =
    let p = then_got (read_path k last []) (λ x. read_each (read_path k) 1 x m []) y e in
    absurd (omega (arith, (unit_got [] 1 (ltb 0 k) 2 (got tt) p.0 p.1).0))
paths-sound k last (suc m) (b ∷ bs) y e =
    let p = then_got (read_path k last (b ∷ bs)) (λ x. read_each (read_path k) 1 x m bs) y e in
    let q = unit_got (b ∷ bs) 1 (ltb b k) 2 (got tt) p.0 p.1 in
    let r = paths-sound k p.0 m bs y p.2 in
    (and_from _ _ q.1 r.0, ap suc r.1)

paths_written : (k : ℕ) (last : Looked) (xs : List ℕ) → all_below k xs ≡ true → read_each (read_path k) 1 last (length xs) xs ≡ got tt
unfolding read_each all_below
paths_written k last [] e = refl
paths_written k last (x ∷ xs) e =
    let p = and_parts (ltb x k) (all_below k xs) e in
    let g : read_path k last (x ∷ xs) ≡ got tt = unit_good (x ∷ xs) 1 (ltb x k) 2 (got tt) (omega arith) p.0 in
    rw g (paths_written k tt xs p.1)

pub path_local : (k : ℕ) → Local 1 (read_path k)
path_local k = record { sees = sees; needs = λ last bs h. unit-cut bs 1 (ltb (at bs 0) k) 2 (got tt) h }
  where
    sees : (last : Looked) (bs ys : List ℕ) → 1 ≤ length bs → read_path k last (bs ++ ys) ≡ read_path k last bs
    sees last [] ys h = absurd (omega arith)
    sees last (b ∷ bs) ys h =
        ap (λ t. cond t (cond (ltb b k) (got tt) (refused 2)) (refused 1)) (le-leb 1 _ (omega arith) ∙ sym (le-leb 1 (length (b ∷ bs)) h))

record HeadIs (n : ℕ) (bs : List ℕ) : Type 0 where
  there : 3 ≤ length bs
  kind : eqb (at bs 0) 2 ≡ true
  trains : eqb (word_at bs 1) n ≡ true

head_parts : (n : ℕ) (bs : List ℕ) (x : Looked) → read_plan_head n bs ≡ got x → HeadIs n bs
head_parts n bs x e =
    let p = unit_got bs 1 _ 1 _ x e in
    let q = unit_got bs 3 _ 1 (got tt) x p.2 in
    record { there = q.0; kind = p.1; trains = q.1 }

head_made : (n : ℕ) (bs : List ℕ) → HeadIs n bs → read_plan_head n bs ≡ got tt
head_made n bs i = unit_good bs 1 _ 1 _ (omega (arith, i.there)) i.kind ∙ unit_good bs 3 _ 1 (got tt) i.there i.trains

plan-parts : (t : Task) (bs : List ℕ) (p : Plan) → read_plan t bs ≡ got p → HeadIs t.trains bs × ((y : Looked) × (read_paths t.paths t.trains (drop 3 bs) ≡ got y)) × (drop 3 bs ≡ p)
plan-parts t bs p e =
    let q = then_got (read_plan_head t.trains bs) (λ _. and_then (read_paths t.paths t.trains (drop 3 bs)) (λ _. got (drop 3 bs))) p e in
    let r = then_got (read_paths t.paths t.trains (drop 3 bs)) (λ _. got (drop 3 bs)) p q.2 in
    (head_parts t.trains bs q.0 q.1, (r.0, r.1), cc r.2)

head_only : (n : ℕ) (bs : List ℕ) → HeadIs n bs → all_below 256 bs ≡ true → bs ≡ (2 ∷ word_bytes n) ++ drop 3 bs
unfolding all_below
head_only n [] i b = absurd (omega (arith, i.there))
head_only n (x ∷ []) i b = absurd (omega (arith, i.there))
head_only n (x ∷ y ∷ []) i b = absurd (omega (arith, i.there))
head_only n (x ∷ y ∷ z ∷ bs) i b =
    let c = and_parts (ltb x 256) _ b in
    let d = and_parts (ltb y 256) _ c.1 in
    let e = and_parts (ltb z 256) (all_below 256 bs) d.1 in
    let n' = eqb-true (y * 256 + z) n i.trains in
    rw (← n', word_high y z (ltb-true _ _ d.0) (ltb-true _ _ e.0), word_low y z (ltb-true _ _ e.0), eqb-true x 2 i.kind) refl

module _ (t : Task) (few : t.trains < 65536) where
  pub plan-sound : (bs : List ℕ) (p : Plan) → read_plan t bs ≡ got p → (length p ≡ t.trains) × (all_below t.paths p ≡ true)
  plan-sound bs p e =
      let q = plan-parts t bs p e in
      let r = paths-sound t.paths tt t.trains (drop 3 bs) q.1.0 q.1.1 in
      (ap length (sym q.2) ∙ r.1, ap (all_below t.paths) (sym q.2) ∙ r.0)

  plan-only : (bs : List ℕ) (p : Plan) → all_below 256 bs ≡ true → read_plan t bs ≡ got p → (is_plan t p ≡ true) × (bs ≡ plan_bytes p)
  plan-only bs p b e =
      let q = plan-parts t bs p e in
      let r = plan-sound bs p e in
      (and_from _ _ (eq-eqb _ _ r.0) r.1, head_only t.trains bs q.0 b ∙ (ap (λ n. (2 ∷ word_bytes n) ++ drop 3 bs) (sym r.0) ∙ ap (λ ys. (2 ∷ word_bytes (length p)) ++ ys) q.2))

  plan-reads : (p : Plan) → is_plan t p ≡ true → read_plan t (plan_bytes p) ≡ got p
  plan-reads p s =
      let q = and_parts (eqb (length p) t.trains) (all_below t.paths p) s in
      let l = eqb-true (length p) t.trains q.0 in
      let w : word_at (plan_bytes p) 1 ≡ t.trains = word_back (length p) (omega arith) ∙ l in
      let i : HeadIs t.trains (plan_bytes p) = record { there = omega arith; kind = refl; trains = eq-eqb _ _ w } in
      let e : read_paths t.paths t.trains p ≡ got tt = ap (λ n. read_paths t.paths n p) (sym l) ∙ paths_written t.paths tt p q.1 in
      rw (head_made t.trains (plan_bytes p) i, e) refl

  plan-cut : (bs ys : List ℕ) (p : Plan) → read_plan t (bs ++ ys) ≡ got p → 0 < length ys → read_plan t bs ≡ refused 1
  plan-cut bs ys p e h =
      let q = plan-parts t (bs ++ ys) p e in
      let kind : 1 ≤ length bs → eqb (at bs 0) 2 ≡ true = λ s. ap (λ x. eqb x 2) (sym (get_or_append_left bs ys 0 0 s)) ∙ q.0.kind in
      let trains : 3 ≤ length bs → eqb (word_at bs 1) t.trains ≡ true = λ s. ap (λ x. eqb x t.trains) (sym (word_sees bs ys 1 s)) ∙ q.0.trains in
      let rest : Looked → Got Plan = λ _. and_then (read_paths t.paths t.trains (drop 3 bs)) (λ _. got (drop 3 bs)) in
      elim (cases_lt (length bs) 3) [
        | inl s ↦
            let c : read_plan_head t.trains bs ≡ refused 1 = unit_prefix bs 1 _ 1 _ (λ r. (kind r, unit_prefix bs 3 _ 1 (got tt) (λ u. absurd (omega arith)))) in
            ap (λ g. and_then g rest) c
        | inr s ↦
            let d : read_paths t.paths t.trains (drop 3 bs ++ ys) ≡ got q.1.0 = ap (read_paths t.paths t.trains) (sym (drop-append-le 3 bs ys s)) ∙ q.1.1 in
            let c = each-cut 1 (read_path t.paths) (path_local t.paths) ys q.1.0 h tt t.trains (drop 3 bs) d in
            rw (head_made t.trains bs (record { there = s; kind = kind (omega arith); trains = trains s }), c) refl
      ]

  pub plan_law : Inverse (read_plan t) plan_bytes (is_plan t)
  plan_law =
      record {
        reads = plan-reads;
        only = plan-only;
        cuts = λ p s j h. plan-cut (take j (plan_bytes p)) (drop j (plan_bytes p)) p (ap (read_plan t) (take-append-drop j (plan_bytes p)) ∙ plan-reads p s) (simp length-drop (omega arith));
      }
