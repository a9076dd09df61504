-- The pairs that were listed and put are those of the built task, and what it then guarantees.
use Rattle.std.proofs.Common.{◌≡◌, ◌+◌, ◌≤◌, true, List, [], ◌∷◌, ◌++◌, map, length, vec_items, Vec, sym, refl, ap, ◌∙◌, subst, arith}
use lib.ListN.{length-map}
use Rattle.std.proofs.lemmas.Bool.Decides.{nat_tests}
use Rattle.paths.specs.Plan.{Pair, Task}
use Rattle.tasks.specs.declared.pair.Pair.{Pair as CodePair}
use Rattle.prohibitions.specs.declared.prohibiting.Prohibition.{Prohibition}
use Rattle.tasks.specs.Pair.{pair_of}
use Rattle.std.specs.declared.alloc.Global.{Global}
use Rattle.tasks.specs.declared.task.Task.{Task as CodeTask}
use Rattle.tasks.specs.Model.{task_of}
use Rattle.prohibitions.specs.Prohibiting.{put_all, every_two, pair_for, built, can_build, named, Fixes}
use Rattle.tasks.specs.Task.{sound}
use Rattle.prohibitions.proofs.Prohibits.{fixes}
use Rattle.prohibitions.proofs.Puts.{built-sound}
use Rattle.tasks.proofs.TaskLaws.{Guarantees, guarantees, sound_from}

pub put_all-append : (xs ys zs : List Pair) → put_all (xs ++ ys) zs ≡ put_all ys (put_all xs zs)
unfolding put_all
put_all-append [] ys zs = refl
put_all-append (x ∷ xs) ys zs = put_all-append xs ys _

module _ (t : Task) (bs : List Prohibition) where
  -- what was listed first, then all of it, as it was seen, and the first task's pairs
  pub all-put : (none first all seen kept olds : List CodePair) → none ≡ [] → map pair_of first ≡ map pair_of none ++ every_two t.trains t.paths → map pair_of all ≡ map pair_of first ++ map (pair_for t.trains) bs →
      seen ≡ all → kept ≡ olds → t.pairs ≡ map pair_of olds → put_all (map pair_of seen) (map pair_of kept) ≡ (built t bs).pairs
  all-put none first all seen kept olds e f g s k o =
      let listed : map pair_of seen ≡ every_two t.trains t.paths ++ map (pair_for t.trains) bs =
      ap (map pair_of) s ∙ (g ∙ ap (λ xs. xs ++ map (pair_for t.trains) bs) (f ∙ ap (λ xs. map pair_of xs ++ every_two t.trains t.paths) e)) in
      let olds' : map pair_of kept ≡ t.pairs = ap (map pair_of) k ∙ sym o in
      ap (put_all (map pair_of seen)) olds' ∙ (ap (λ xs. put_all xs t.pairs) listed ∙ put_all-append (every_two t.trains t.paths) (map (pair_for t.trains) bs) t.pairs)

-- what is guaranteed of a task of the code makes it sound
pub is_sound : (t : CodeTask) → sound (task_of t) ≡ true
is_sound t =
    let n = t.pairs.ok.0 in
    let l = length-map (vec_items t.pairs) pair_of in
    sound_from (task_of t)
    (record {
      some_train = t.some_train;
      few_trains = t.few_trains;
      some_path = t.some_path;
      few_paths = t.few_paths;
      some_pair = omega (arith, t.some_pair);
      few_pairs = omega (arith, t.few_pairs);
      rises = t.rising_pairs;
    })

can-parts : (t : Task) (bs : List Prohibition) → can_build t bs ≡ true → (t.trains + t.paths ≤ 1024) × (named t bs ≡ true) × (length (built t bs).pairs ≤ 4096)
can-parts t bs e = grind (arith, nat_tests)

-- the built task, of which the pairs are kept as v
module _ (t : CodeTask) (bs : List Prohibition) (v : Vec CodePair Global) (b : can_build (task_of t) bs ≡ true) (e : map pair_of (vec_items v) ≡ (built (task_of t) bs).pairs) where
  p : (t.trains + t.paths ≤ 1024) × (named (task_of t) bs ≡ true) × (length (built (task_of t) bs).pairs ≤ 4096)
  p = can-parts (task_of t) bs b

  abbrev kept : Task
  kept = record { trains = t.trains + t.paths; paths = t.paths; pairs = map pair_of (vec_items v) }

  same : kept ≡ built (task_of t) bs
  same = ap (λ xs. record { trains = t.trains + t.paths; paths = t.paths; pairs = xs }) e

  pub build_guarantees : Guarantees kept
  build_guarantees = guarantees kept (ap sound same ∙ built-sound (task_of t) bs (is_sound t) p.1 p.0 p.2)

  pub build_fixes : Fixes (task_of t) bs kept
  build_fixes = subst (λ (u : Task). Fixes (task_of t) bs u) (sym same) (fixes (task_of t) bs (is_sound t) p.1)
