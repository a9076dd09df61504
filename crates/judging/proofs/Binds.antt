-- Words of one last digest are the same. Assumes nothing.
use Rattle.std.proofs.Common.{◌≡◌, ℕ, ◌≤◌, true, ◌⊎◌, List, [], ◌∷◌, ◌++◌, map, reverse, length, sym, refl, ap, ◌∙◌, subst, inl, inr, arith}
use mathlib.Core.List.{reverse_aux}
use Rattle.std.specs.List.{AllByRecursion as All}
use Rattle.std.proofs.lemmas.List.{length-append, reverse-reverse}
use Rattle.paths.specs.Plan.{Task}
use Rattle.tasks.specs.Reading.{read_task}
use Rattle.tasks.specs.Task.{sound}
use Rattle.tasks.specs.Writing.{task_bytes}
use Rattle.tasks.proofs.TaskLaws.{guarantees, task_law, task-length}
use Rattle.boxes.proofs.Parts.{same_parts}
use Rattle.book.specs.Lengths.{TaskText, RoundText, round_text}
use Rattle.book.specs.Chain.{Sized}
use Rattle.book.proofs.Breach.{binds}
use Rattle.book.proofs.Uses.{round-long}
use Rattle.cutting.specs.Cutting.{Round, text_of, for_boxes, all_words}
use Rattle.judging.specs.Binding.{WordsBind, NoOtherWords}
use Rattle.judging.proofs.Passes.{honest_cut}
use Rattle.cutting.proofs.Shapes.{RoundLong, shapes, all_long}
use Rattle.judging.proofs.Telling.{book-first}

-- a text tells its words, where the lengths are known
parts : (b a o e b' a' o' e' : List ℕ) → length b ≡ length b' → length a ≡ length a' → length e ≡ length e' → round_text b a o e ≡ round_text b' a' o' e' →
    (b ≡ b') × (a ≡ a') × (o ≡ o') × (e ≡ e')
parts b a o e b' a' o' e' lb la le h =
    let l = simp length-append at (ap length h) in
    let p = same_parts (b ++ a ++ o) (b' ++ a' ++ o') e e' (simp length-append (omega arith)) h in
    let q = same_parts (b ++ a) (b' ++ a') o o' (simp length-append (omega arith)) p.0 in
    let r = same_parts b b' a a' lb q.0 in
    (r.0, r.1, q.1, p.1)

module _ (t : Task) where
  same-words : (rs ss : List Round) → All (RoundLong t) rs → All (RoundLong t) ss → map text_of rs ≡ map text_of ss → all_words rs ≡ all_words ss
  unfolding all_words
  same-words [] [] ps qs e = refl
  same-words [] (s ∷ ss) ps qs e = cc
  same-words (r ∷ rs) [] ps qs e = cc
  same-words (r ∷ rs) (s ∷ ss) (p, ps) (q, qs) e =
      let x : text_of r ≡ text_of s = cc in
      let xs : map text_of rs ≡ map text_of ss = cc in
      let w = parts r.asked.boxes r.asked.ask r.opened r.end s.asked.boxes s.asked.ask s.opened s.end
      (p.boxes_are ∙ sym q.boxes_are) (p.ask_is ∙ sym q.ask_is) (p.end_is ∙ sym q.end_is) x in
      let ih = same-words rs ss ps qs xs in
      rw (w.0, w.1, w.2, w.3, ih) refl

  long-round : 1 ≤ t.trains → (r : Round) → RoundLong t r → RoundText (text_of r)
  long-round h r p = round-long t.trains r.asked.boxes r.asked.ask r.opened r.end h p.boxes_are p.ask_is (opened_as p.opened_is) p.end_is
    where
      opened_as : (length r.opened ≡ 75) ⊎ (r.opened ≡ []) → (length r.opened ≡ 75) ⊎ (length r.opened ≡ 0)
      opened_as (inl l) = inl l
      opened_as (inr e) = inr (ap length e)

  all-texts : 1 ≤ t.trains → (rs : List Round) (ws : List (List ℕ)) → All (RoundLong t) rs → All RoundText ws → All RoundText (reverse_aux (map text_of rs) ws)
  all-texts h [] ws ps qs = qs
  all-texts h (r ∷ rs) ws (p, ps) qs = all-texts h rs (text_of r ∷ ws) ps (long-round h r p, qs)

task-text : (t : Task) → sound t ≡ true → TaskText (task_bytes t)
task-text t s = (length t.pairs, (guarantees t s).some_pair, omega (arith, task-length (task_bytes t) t (task_law.reads t s)))

same-task : (t u : Task) → sound t ≡ true → sound u ≡ true → task_bytes t ≡ task_bytes u → t ≡ u
same-task t u s v e = let a = task_law.reads t s in let b = task_law.reads u v in let c = ap read_task e in cc

same-reverse : (xs ys : List (List ℕ)) → reverse xs ≡ reverse ys → xs ≡ ys
same-reverse xs ys e = sym (reverse-reverse xs) ∙ ap reverse e ∙ reverse-reverse ys

pub words_bind : (H : List ℕ → List ℕ) → Sized H → WordsBind H
words_bind H sized t u s v ws vs rs ss e f same =
    let x = shapes t ws 0 for_boxes rs tt e in
    let y = shapes u vs 0 for_boxes ss tt f in
    let rs_long = all_long t 0 rs x.rounds_are in
    let ss_long = all_long u 0 ss y.rounds_are in
    let a = all-texts t (guarantees t s).some_train rs [] rs_long tt in
    let b = all-texts u (guarantees u v).some_train ss [] ss_long tt in
    elim (binds H sized (task_bytes t) (task_bytes u) (reverse (map text_of rs)) (reverse (map text_of ss)) (task-text t s) (task-text u v) a b same) [
      | inl c ↦ inl c
      | inr q ↦
          let k = same-task t u s v q.0 in
          let long : All (RoundLong t) ss = subst (λ z. All (RoundLong z) ss) (sym k) ss_long in
          inr (k, x.words_are ∙ same-words t rs ss rs_long long (same-reverse _ _ q.1) ∙ sym y.words_are)
    ]

pub no_other-words : (H : List ℕ → List ℕ) → Sized H → NoOtherWords H
no_other-words H sized t s p fp drawn b ws texts c run k vs rs e q handed n d r told =
    let own = honest_cut H sized t s p fp drawn b ws texts c run k in
    let fits = ((book-first H t _ vs rs e).fits q handed n d r told).0 in
    let bound = words_bind H sized t t s s ws vs own.0 rs own.1 e (rw own.2 (sym fits)) in
    elim (rw own.2 at bound) [ inl x ↦ inl x | inr x ↦ inr x.1 ]
