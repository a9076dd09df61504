-- What the answers of the steps' functions are. Assumes nothing.
use Rattle.std.proofs.Common.{◌≡◌, ℕ, Bool, true, false, cond, List, [], ◌∷◌, length, vec_items, sym, refl, ap, ◌∙◌, inl, inr, arith}
use lib.ListN.{length-map}
use Rattle.std.proofs.lemmas.Bool.{cases_eq, false≢true}
use Rattle.paths.specs.Plan.{Task}
use Rattle.tasks.specs.declared.task.Task.{Task as CodeTask}
use Rattle.tasks.specs.Model.{task_of}
use Rattle.tasks.specs.Pair.{pair_of}
use Rattle.tasks.specs.Task.{sound}
use Rattle.tasks.specs.Reading.{Got, got, refused, and_then, read_task, read_plan}
use Rattle.tasks.proofs.TaskLaws.{sound_from}
use Rattle.words.specs.Said.{Said, task, plan}
use Rattle.words.specs.Reading.{read_word}
use Rattle.words.proofs.Laws.{by_kind, unknown_kind, exact_cut}
use Rattle.asking.specs.Asking.{is_opened_of}

-- a task of the code guarantees what a task that was read does
pub sound_of : (t : CodeTask) → sound (task_of t) ≡ true
sound_of t =
    let l = length-map (vec_items t.pairs) pair_of in
    let n = t.pairs.ok.0 in
    sound_from (task_of t) (record {
      some_train = t.some_train;
      few_trains = t.few_trains;
      some_path = t.some_path;
      few_paths = t.few_paths;
      some_pair = omega (arith, t.some_pair);
      few_pairs = omega (arith, t.few_pairs);
      rises = t.rising_pairs;
    })

-- An Opened has 75 bytes
module _ (t : Task) (n : ℕ) where
  not_this : (b : Bool) (w : Said) → is_opened_of n (got w) ≡ false → is_opened_of n (cond b (got w) (refused 1)) ≡ false
  not_this true w e = e
  not_this false w e = refl

  not_read : {A : Type 0} (g : Got A) (say : A → Said) → ((x : A) → is_opened_of n (got (say x)) ≡ false) → is_opened_of n (and_then g (λ x. got (say x))) ≡ false
  not_read (got x) say e = e x
  not_read (refused f) say e = refl

  abbrev Long : List ℕ → Type 0
  Long bs = is_opened_of n (read_word t bs) ≡ true → length bs ≡ 75

  -- bytes that aren't an Opened
  other : (bs : List ℕ) → is_opened_of n (read_word t bs) ≡ false → Long bs
  other bs e h = absurd (false≢true (sym e ∙ h))

  pub opened-long : (bs : List ℕ) → Long bs
  opened-long [] = other [] refl
  opened-long (k ∷ bs) =
      by_kind (λ k. Long (k ∷ bs)) (other (1 ∷ bs) (not_read (read_task (1 ∷ bs)) (λ _. task (1 ∷ bs)) (λ _. refl))) (other (2 ∷ bs) (not_read (read_plan t (2 ∷ bs)) plan (λ _. refl)))
      (other (3 ∷ bs) (search not_this)) (other (4 ∷ bs) (search not_this))
      (λ h. elim (cases_eq (length (5 ∷ bs)) 75) [ inl e ↦ e | inr ne ↦ other (5 ∷ bs) (ap (is_opened_of n) (exact_cut 75 true _ (5 ∷ bs) ne)) h ]) (other (6 ∷ bs) (search not_this))
      (λ k u. other (k ∷ bs) (ap (is_opened_of n) (unknown_kind t k bs u))) k
