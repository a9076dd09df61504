-- What each task of the code guarantees, and so what is promised of two plans that fit it.
use Rattle.std.proofs.Common.{◌≡◌, ℕ, ◌<◌, Bool, true, false, cond, ◌&&◌, T, ltb, List, [], ◌∷◌, length, Option, Some, None, ok_or, vec_items, sym, refl, ap, ◌∙◌, arith}
use lib.Ieee.Fits.{and_i}
use lib.ListN.{length-map}
use Rattle.std.proofs.lemmas.Bool.{and_parts, and_from, lt-ltb, ltb-true, ne_eqb, eq-eqb}
use Rattle.std.specs.Bool.{then_some}
use Rattle.std.specs.Option.{option_map}
use Rattle.paths.specs.Plan.{Pair, Task, Plan, Good, pairs_in, fits}
use Rattle.paths.specs.Show.{pair_at}
use Rattle.paths.specs.Order.{order_of}
use Rattle.paths.specs.declared.order.Order.{Order}
use Rattle.paths.specs.Partners.{are_two, paired}
use Rattle.paths.specs.declared.partners.Partners.{Partners}
use Rattle.paths.proofs.Paired.{pair-paths}
use Rattle.paths.proofs.Alike.{pairs-alike}
use Rattle.paths.proofs.Seen.{stops-alike}
use Rattle.tasks.specs.declared.task.Task.{Task as CodeTask}
use Rattle.tasks.specs.Model.{task_of, plan_of}
use Rattle.tasks.specs.Pair.{pair_of}
use Rattle.tasks.specs.Task.{is_there, rises, rising}
use Rattle.pairing.specs.declared.plans.Plans.{Plans}
use Rattle.tasks.specs.declared.fault.Fault.{Fault}
use Rattle.tasks.specs.Reading.{got, refused, gives}
use Rattle.pairing.specs.Coins.{Promised, order_for, paired_order}
use Rattle.pairing.specs.Plans.{both_of}
use Rattle.fitting.specs.Pairs.{asked_pair}
use Rattle.pairing.specs.Pairs.{paths_of, partners_for}

pub is_true : (b : Bool) → b ≡ true → T b
is_true b e = rw e tt

pairs_in_lem : (n : ℕ) (last : Pair) (xs : List Pair) → rising n last xs ≡ true → T (pairs_in n xs)
unfolding rising pairs_in
pairs_in_lem n last [] e = tt
pairs_in_lem n last (x ∷ xs) e =
    let p = and_parts (is_there n x && rises last x) (rising n x xs) e in
    and_i (is_there n x) (pairs_in n xs) (is_true _ (and_parts (is_there n x) (rises last x) p.0).0) (pairs_in_lem n x xs p.1)

pub task_good : (t : CodeTask) → Good (task_of t)
task_good t = (pairs_in_lem _ _ _ t.rising_pairs, omega (arith, length-map (vec_items t.pairs) pair_of, t.pairs.ok.0, t.some_pair), t.some_path)

pub promised : (s : Plans) → Promised (both_of s)
promised s =
    let g = task_good s.task in
    let p = is_true _ s.first_fits in
    let q = is_true _ s.second_fits in
    record { shown = pairs-alike _ g _ _ p q; seen = stops-alike _ g _ _ p q }

-- the two paths of a pair that is there
are_two_lem : (t : Task) → Good t → (p : Plan) → fits t p ≡ true → (i : ℕ) → i < length t.pairs → are_two t.paths (paths_of p (pair_at t i)) ≡ true
are_two_lem t good p f i l =
    let h = pair-paths t good p (is_true _ f) i l in
    and_from _ _ (and_from _ _ (lt-ltb _ _ h.1) (lt-ltb _ _ h.2)) (rw (ne_eqb _ _ h.0) refl)

pub order-paired : (t : Task) → Good t → (p q : Plan) → fits t p ≡ true → fits t q ≡ true → (i : ℕ) → i < length t.pairs → (xs : List ℕ) → length xs ≡ t.paths →
    paired (partners_for p q (pair_at t i)) xs ≡ Some (paired_order (record { task = t; first = p; second = q }) i xs)
order-paired t good p q fp fq i l xs e =
    let g = and_from _ _ (are_two_lem t good q fq i l) (are_two_lem t good p fp i l) in
    rw e (ap (λ b. then_some b (paired_order (record { task = t; first = p; second = q }) i xs)) g)

asked_is : (t : Task) (i : ℕ) (x : Pair) → got x ≡ asked_pair t i → (ltb i (length t.pairs) ≡ true) × (pair_at t i ≡ x)
asked_is t i x e = go (ltb i (length t.pairs)) e
  where
    go : (b : Bool) → got x ≡ cond b (got (pair_at t i)) (refused 7) → (b ≡ true) × (pair_at t i ≡ x)
    go true e = (refl, cc)
    go false e = let z : ◌≡◌ {A = ℕ} 0 1 = cc in absurd (omega arith)

got_of : (r : Option Order) (f : Fault) (ys : List ℕ) → option_map order_of r ≡ Some ys → gives order_of (ok_or r f) ≡ got ys
got_of None f ys e = cc
got_of (Some o) f ys e = cc

-- of two plans: pair x is the one asked for, and the order xs has the task's number of paths
module _ (s : Plans) (i : ℕ) (x : Pair) (asked : got x ≡ asked_pair (task_of s.task) i) (ps : Partners) (are : ps ≡ partners_for (plan_of s.first) (plan_of s.second) x) (xs : List ℕ) (long : length xs ≡ s.task.paths) where
  abbrev its : List ℕ
  its = paired_order (both_of s) i xs

  has_pair : paired ps xs ≡ Some its
  has_pair =
      let a = asked_is (task_of s.task) i x asked in
      ap (λ (y : Partners). paired y xs) (are ∙ ap (partners_for (plan_of s.first) (plan_of s.second)) (sym a.1))
      ∙ order-paired (task_of s.task) (task_good s.task) _ _ s.first_fits s.second_fits i (ltb-true _ _ a.0) xs long

  pub order_given : (r : Option Order) (f : Fault) → option_map order_of r ≡ paired ps xs → gives order_of (ok_or r f) ≡ order_for (both_of s) i xs
  order_given r f e = rw (← asked, eq-eqb (length xs) s.task.paths long) (got_of r f its (e ∙ has_pair))
