-- A pair finds its place among pairs in rising order: where it is there already, and else between those that come before it and those that come after it.
use Rattle.std.proofs.Common.{◌≡◌, ℕ, zero, suc, ◌+◌, ◌<◌, ◌≤◌, true, false, List, [], ◌∷◌, ◌++◌, map, length, get_or, take, drop, sym, refl, ap, ◌∙◌, add-one, arith}
use mathlib.Core.List.{map-append}
use lib.ListN.{length-map}
use Rattle.std.specs.Ordering.{nat_cmp, ordering_then, ordering_index, is_lt}
use Rattle.std.specs.declared.cmp.Ordering.{Ordering}
use Rattle.std.specs.declared.cmp.Ordering.TheVariants.{Less, Equal, Greater}
use Rattle.std.specs.List.Sorted.{IsNonDecreasingBy, IsPartitionPoint}
use Rattle.std.proofs.lemmas.List.{get_or-map, take-map, drop-map}
use Rattle.std.proofs.lemmas.List.Sorted.{searchable_from_sorted}
use Rattle.std.proofs.lemmas.Bool.Decides.{nat_tests}
use Rattle.std.proofs.lemmas.Cmp.{nat_cmp_total, then_total, on_total}
use Rattle.paths.specs.Plan.{Pair}
use Rattle.tasks.specs.declared.pair.Pair.{Pair as CodePair}
use Rattle.tasks.specs.Pair.{pair_of}
use Rattle.tasks.specs.Task.{before, rising, lowest}
use Rattle.prohibitions.specs.Prohibiting.{put}
use Rattle.prohibitions.specs.Putting.{in_order_after, in_order}

-- how the code compares pairs
abbrev compared : CodePair → CodePair → Ordering
compared x y = ordering_then (nat_cmp x.first y.first) (nat_cmp x.second y.second)

less : (x y : CodePair) → compared x y ≡ Less → before (pair_of x) (pair_of y) ≡ true
less x y e = grind (arith, nat_tests)

greater : (x y : CodePair) → compared x y ≡ Greater → before (pair_of y) (pair_of x) ≡ true
greater x y e = grind (arith, nat_tests)

not_less : (x y : CodePair) → before (pair_of x) (pair_of y) ≡ true → is_lt (compared y x) ≡ false
not_less x y h = grind (arith, nat_tests)

same_pair : (x : Pair) (a e : ℕ) → x.a ≡ a → x.e ≡ e → x ≡ record { a = a; e = e }
same_pair x a e p q = rw (← p, ← q) refl

equal : (x y : CodePair) → compared x y ≡ Equal → pair_of x ≡ pair_of y
equal x y e = same_pair (pair_of x) y.first y.second (grind (arith, nat_tests)) (grind (arith, nat_tests))

-- pairs in order
pub order-rest : (y : Pair) (ys : List Pair) → in_order_after y ys ≡ true → in_order ys ≡ true
unfolding in_order_after
order-rest y [] o = refl
order-rest y (z ∷ zs) o = grind arith

later : (y : Pair) (ys : List Pair) (i : ℕ) (d : Pair) → in_order_after y ys ≡ true → i < length ys → before y (get_or ys i d) ≡ true
unfolding in_order_after
later y [] i d o l = absurd (omega arith)
later y (z ∷ zs) zero d o l = grind arith
later y (z ∷ zs) (suc i) d o l = let h = later z zs i d in grind (arith, nat_tests)

adjacent : (ys : List Pair) (i : ℕ) (d : Pair) → in_order ys ≡ true → suc i < length ys → before (get_or ys i d) (get_or ys (suc i) d) ≡ true
adjacent [] i d o l = absurd (omega arith)
adjacent (y ∷ ys) zero d o l = later y ys 0 d o (omega arith)
adjacent (y ∷ ys) (suc i) d o l = adjacent ys i d (order-rest y ys o) (omega arith)

-- where the pair is put
put_past : (x y : Pair) (ys : List Pair) → before y x ≡ true → put x (y ∷ ys) ≡ y ∷ put x ys
unfolding put
put_past x y ys h = grind (arith, nat_tests)

put-there : (x : Pair) (ys : List Pair) (i : ℕ) (d : Pair) → in_order ys ≡ true → i < length ys → get_or ys i d ≡ x → put x ys ≡ ys
unfolding put
put-there x [] i d o l e = absurd (omega arith)
put-there x (y ∷ ys) zero d o l e = rw (← e) (grind (arith, nat_tests))
put-there x (y ∷ ys) (suc i) d o l e =
    let b : before y x ≡ true = ap (before y) (sym e) ∙ later y ys i d o (omega arith) in
    put_past x y ys b ∙ ap (λ zs. y ∷ zs) (put-there x ys i d (order-rest y ys o) (omega arith) e)

put_between : (x : Pair) (ys : List Pair) (i : ℕ) (d : Pair) → i ≤ length ys → ((k : ℕ) → k < i → before (get_or ys k d) x ≡ true) → ((k : ℕ) → i ≤ k → k < length ys → before x (get_or ys k d) ≡ true) → put x ys ≡ take i ys ++ x ∷ drop i ys
unfolding put
put_between x [] zero d l f g = refl
put_between x [] (suc i) d l f g = absurd (omega arith)
put_between x (y ∷ ys) zero d l f g = let b = g 0 (omega arith) (omega arith) in grind arith
put_between x (y ∷ ys) (suc i) d l f g =
    put_past x y ys (f 0 (omega arith))
    ∙ ap (λ zs. y ∷ zs) (put_between x ys i d (omega arith) (λ k a. f (suc k) (omega arith)) (λ k a b. g (suc k) (omega arith) (omega arith)))

-- and what is put stays in order
after-put : (last x : Pair) (ys : List Pair) → in_order_after last ys ≡ true → before last x ≡ true → in_order_after last (put x ys) ≡ true
unfolding in_order_after put
after-put last x [] o h = grind arith
after-put last x (y ∷ ys) o h = let i = after-put y x ys in grind (arith, nat_tests)

pub order-put : (x : Pair) (ys : List Pair) → in_order ys ≡ true → in_order (put x ys) ≡ true
unfolding in_order_after put
order-put x [] o = refl
order-put x (y ∷ ys) o = let i = after-put y x ys in grind (arith, nat_tests)

order-after : (n : ℕ) (last : Pair) (ys : List Pair) → rising n last ys ≡ true → in_order_after last ys ≡ true
unfolding rising in_order_after
order-after n last [] r = refl
order-after n last (y ∷ ys) r = let h = order-after n y ys in grind arith

pub order_of_task : (n : ℕ) (ys : List Pair) → rising n lowest ys ≡ true → in_order ys ≡ true
order_of_task n ys r = order-rest lowest ys (order-after n lowest ys r)

-- what a search for x among the pairs xs in order finds, which the code reads as ys
module _ (x : CodePair) (xs ys : List CodePair) (same : ys ≡ xs) (o : in_order (map pair_of xs) ≡ true) where
  abbrev all : List Pair
  all = map pair_of xs

  its : (k : ℕ) (d : CodePair) → k < length ys → get_or all k (pair_of d) ≡ pair_of (get_or ys k d)
  its k d l = get_or-map pair_of xs k d (pair_of d) (omega (arith, ap length same)) ∙ ap (λ zs. pair_of (get_or zs k d)) (sym same)

  risen : (k : ℕ) (d : CodePair) → k + 1 < length ys → before (pair_of (get_or ys k d)) (pair_of (get_or ys (k + 1) d)) ≡ true
  risen k d l =
      let next : get_or all (suc k) (pair_of d) ≡ pair_of (get_or ys (k + 1) d) = ap (λ j. get_or all j (pair_of d)) (sym (add-one k)) ∙ its (k + 1) d l in
      ap (λ y. before y (pair_of (get_or ys (k + 1) d))) (sym (its k d (omega arith)))
      ∙ (ap (before (get_or all k (pair_of d))) (sym next) ∙ adjacent all k (pair_of d) o (omega (arith, length-map xs pair_of, ap length same)))

  ranks : IsNonDecreasingBy (λ y. ordering_index (compared y x)) ys
  ranks = searchable_from_sorted (then_total (on_total (λ (p : CodePair). p.first) nat_cmp_total) (on_total (λ (p : CodePair). p.second) nat_cmp_total)) (λ y. y) ys x (λ k d _ l. not_less (get_or ys k d) (get_or ys (k + 1) d) (risen k d l))

  pub put_found : (i : ℕ) → i < length ys → ((d : CodePair) → compared (get_or ys i d) x ≡ Equal) → all ≡ put (pair_of x) all
  put_found i l e = sym (put-there (pair_of x) all i (pair_of x) o (omega (arith, length-map xs pair_of, ap length same)) (its i x l ∙ equal _ _ (e x)))

  module _ (i : ℕ) (l : i ≤ length ys) (split : IsNonDecreasingBy (λ y. ordering_index (compared y x)) ys → IsPartitionPoint (λ y. compared y x ≡ Less) (λ y. compared y x ≡ Greater) ys i) where
    pub put_made : map pair_of (take i xs ++ x ∷ drop i xs) ≡ put (pair_of x) all
    put_made =
        let parts = split ranks in
        let n : length all ≡ length xs = length-map xs pair_of in
        let p : put (pair_of x) all ≡ take i all ++ pair_of x ∷ drop i all =
        put_between (pair_of x) all i (pair_of x) (omega (arith, ap length same))
        (λ k a. ap (λ y. before y (pair_of x)) (its k x (omega arith)) ∙ less (get_or ys k x) x (parts.0 k x (omega arith) a))
        (λ k a b. ap (before (pair_of x)) (its k x (omega (arith, ap length same))) ∙ greater (get_or ys k x) x (parts.1 k x a (omega (arith, ap length same)))) in
        simp (map-append, ← take-map, ← drop-map) (sym p)
