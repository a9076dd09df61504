-- One turn of each loop that lists or puts the pairs of the built task.
use Rattle.std.proofs.Common.{◌≡◌, ℕ, ◌+◌, ◌<◌, ◌≤◌, ◌&&◌, List, [], ◌∷◌, ◌++◌, map, length, get_or, take, drop, sym, refl, ap, ◌∙◌, append_assoc, add-one, arith}
use mathlib.Core.List.{map-append}
use Rattle.std.specs.List.{list_all}
use Rattle.std.proofs.lemmas.List.{take_more, drop_all}
use Rattle.paths.specs.Plan.{Pair, Task}
use Rattle.tasks.specs.declared.pair.Pair.{Pair as CodePair}
use Rattle.prohibitions.specs.declared.prohibiting.Prohibition.{Prohibition}
use Rattle.tasks.specs.Pair.{pair_of}
use Rattle.prohibitions.specs.Prohibiting.{put, put_all, with_each, every_two, pair_for, is_named, named}
use Rattle.tasks.proofs.Mapped.{one_left, as_many}

-- what was added, and one part more
then_more_lem : (was xs new old all : List Pair) → was ≡ old ++ xs → new ≡ was ++ all → new ≡ old ++ (xs ++ all)
then_more_lem was xs new old all e f = f ∙ (ap (λ ys. ys ++ all) e ∙ append_assoc old xs all)

pub each_more : (n j i : ℕ) (old was new : List CodePair) (x : CodePair) → map pair_of was ≡ map pair_of old ++ with_each n j i → new ≡ was ++ x ∷ [] → pair_of x ≡ record { a = n + i; e = n + j } → map pair_of new ≡ map pair_of old ++ with_each n j (i + 1)
unfolding with_each
each_more n j i old was new x e f g =
    let m : map pair_of new ≡ map pair_of was ++ pair_of x ∷ [] = ap (map pair_of) f ∙ map-append pair_of was (x ∷ []) in
    rw (add-one i, ← g) (then_more_lem (map pair_of was) (with_each n j i) (map pair_of new) (map pair_of old) (pair_of x ∷ []) e m)

pub two-more : (n j : ℕ) (old was new : List CodePair) → map pair_of was ≡ map pair_of old ++ every_two n j → map pair_of new ≡ map pair_of was ++ with_each n j j → map pair_of new ≡ map pair_of old ++ every_two n (j + 1)
unfolding every_two
two-more n j old was new e f = rw (add-one j) (then_more_lem (map pair_of was) (every_two n j) (map pair_of new) (map pair_of old) (with_each n j j) e f)

pub named_is : (t : Task) (bs : List Prohibition) → list_all (is_named t) bs ≡ named t bs
unfolding named
named_is t [] = refl
named_is t (b ∷ bs) = ap (λ x. is_named t b && x) (named_is t bs)

pub for-more : (n : ℕ) (bs : List Prohibition) (i : ℕ) (d : Prohibition) (old was new : List CodePair) (x : CodePair) → i < length bs → map pair_of was ≡ map pair_of old ++ map (pair_for n) (take i bs) → new ≡ was ++ x ∷ [] →
    pair_of x ≡ pair_for n (get_or bs i d) → map pair_of new ≡ map pair_of old ++ map (pair_for n) (take (i + 1) bs)
for-more n bs i d old was new x h e f g =
    let m : map pair_of new ≡ map pair_of was ++ pair_of x ∷ [] = ap (map pair_of) f ∙ map-append pair_of was (x ∷ []) in
    let p = ap (map (pair_for n)) (take_more bs i d h) ∙ (map-append (pair_for n) (take i bs) (get_or bs i d ∷ []) ∙ ap (λ y. map (pair_for n) (take i bs) ++ y ∷ []) (sym g)) in
    then_more_lem (map pair_of was) (map (pair_for n) (take i bs)) (map pair_of new) (map pair_of old) (pair_of x ∷ []) e m ∙ ap (λ ys. map pair_of old ++ ys) (sym p)

-- the pairs that are left are put after those that were put
module _ (xs old was : List CodePair) (i : ℕ) (so_far : put_all (drop i (map pair_of xs)) (map pair_of was) ≡ put_all (map pair_of xs) (map pair_of old)) where
  pub put-more : (d : CodePair) → i < length xs → (new : List CodePair) → map pair_of new ≡ put (pair_of (get_or xs i d)) (map pair_of was) → put_all (drop (i + 1) (map pair_of xs)) (map pair_of new) ≡ put_all (map pair_of xs) (map pair_of old)
  unfolding put_all
  put-more d h new e = ap (put_all (drop (i + 1) (map pair_of xs))) e ∙ (sym (ap (λ ys. put_all ys (map pair_of was)) (one_left xs xs refl i d h)) ∙ so_far)

  pub put-end : length xs ≤ i → map pair_of was ≡ put_all (map pair_of xs) (map pair_of old)
  unfolding put_all
  put-end h = sym (ap (λ ys. put_all ys (map pair_of was)) (drop_all i (map pair_of xs) (omega (arith, as_many xs xs refl)))) ∙ so_far
