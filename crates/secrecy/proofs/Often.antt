-- Rows paired off one to one: what is tested of them passes as often before as after. Assumes nothing.
use Rattle.std.proofs.Common.{◌≡◌, ℕ, zero, suc, ◌+◌, Bool, true, false, cond, ◌&&◌, T, List, [], ◌∷◌, sym, refl, ap, ◌∙◌, subst, arith}
use Prim.Native.Nat.compare
use lib.Ieee.Fits.{and_i, and_l, and_r}
use Rattle.std.proofs.lemmas.Bool.{lt-ltb}
use Rattle.drawing.proofs.Tests.{is_true}
use Rattle.paths.specs.Plan.{all_below}
use Rattle.paths.specs.Cheat.{count, asks}
use Rattle.paths.specs.Count.{same_row, is_row}
use Rattle.paths.proofs.Counts.{count-and, asks-counted}
use Rattle.drawing.proofs.Sums.{sum_same}
use Rattle.drawing.proofs.Counts.{count_same, count-more}
use Rattle.drawing.proofs.Even.{alike-told, alike-itself}

unfoldable sum_over : (List ℕ → ℕ) → List (List ℕ) → ℕ
sum_over f [] = 0
sum_over f (x ∷ xs) = f x + sum_over f xs

sum-none : (xs : List (List ℕ)) → sum_over (λ _. 0) xs ≡ 0
unfolding sum_over
sum-none [] = refl
sum-none (x ∷ xs) = omega (arith, sum-none xs)

sum-count : (f : List ℕ → ℕ) (h : List ℕ → Bool) → ((x : List ℕ) → f x ≡ cond (h x) 1 0) → (xs : List (List ℕ)) → sum_over f xs ≡ count h xs
unfolding sum_over count
sum-count f h e [] = refl
sum-count f h e (x ∷ xs) = let a = e x in let b = sum-count f h e xs in cc

sum-add : (h : List ℕ → Bool) (f : List ℕ → ℕ) (xs : List (List ℕ)) → sum_over (λ x. cond (h x) 1 0 + f x) xs ≡ count h xs + sum_over f xs
unfolding sum_over count
sum-add h f [] = refl
sum-add h f (x ∷ xs) = omega (arith, sum-add h f xs)

-- counted by rows and by columns
sum-turned : (R : List ℕ → List ℕ → Bool) (xs ys : List (List ℕ)) → sum_over (λ x. count (R x) ys) xs ≡ sum_over (λ y. count (λ x. R x y) xs) ys
unfolding sum_over count
sum-turned R [] ys = sym (sum-none ys)
sum-turned R (x ∷ xs) ys = ap (λ n. count (R x) ys + n) (sum-turned R xs ys) ∙ sym (sum-add (R x) _ ys)

-- all rows are rows
count_rows : (n many : ℕ) (h : List ℕ → Bool) → count (λ x. is_row n many x && h x) (asks n many) ≡ count h (asks n many)
unfolding asks count all_below
count_rows n zero h = refl
count_rows n (suc many) h =
    count-more (λ x. is_row n (suc many) x && h x) n many
    ∙ (sum_same _ _ n (λ v l. count_same _ _ (λ x. rw (compare.suc-suc, lt-ltb v n l) refl) (asks n many) ∙ count_rows n many (λ x. h (v ∷ x))) ∙ sym (count-more h n many))

same_tests : (a b : Bool) → (T a → T b) → (T b → T a) → a ≡ b
same_tests true true f g = refl
same_tests true false f g = absurd (f tt)
same_tests false true f g = absurd (g tt)
same_tests false false f g = refl

-- the row before and the row after are tested once
module _ (n many : ℕ) (g : List ℕ → Bool) where
  abbrev row : List ℕ → Bool
  row = is_row n many

  one_row : (z : List ℕ) → T (row z) → count (λ y. same_row y z && g y) (asks n many) ≡ cond (g z) 1 0
  one_row z h =
      count_same _ (λ y. g z && same_row y z)
      (λ y. same_tests _ _ (λ k. let e = alike-told y z (and_l _ _ k) in and_i _ _ (subst (λ x. T (g x)) e (and_r (same_row y z) _ k)) (and_l _ _ k)) (λ k. let e = alike-told y z (and_r (g z) _ k) in and_i _ _ (and_r (g z) _ k) (subst (λ x. T (g x)) (sym e) (and_l _ _ k)))) (asks n many)
      ∙ (count-and (g z) (λ y. same_row y z) (asks n many) ∙ ap (λ c. cond (g z) c 0) ((asks-counted n many).once z ∙ ap (λ b. cond b 1 0) (is_true _ h)))

  module _ (there back : List ℕ → List ℕ) (fits : (x : List ℕ) → T (row x) → T (row (there x)) × (back (there x) ≡ x)) (fits-back : (y : List ℕ) → T (row y) → T (row (back y)) × (there (back y) ≡ y)) where
    abbrev pairs : List ℕ → List ℕ → Bool
    pairs x y = row x && (same_row y (there x) && g y)

    of_row : (x : List ℕ) → count (pairs x) (asks n many) ≡ cond (row x && g (there x)) 1 0
    of_row x = count-and (row x) _ (asks n many) ∙ go (row x) refl
      where
        go : (b : Bool) → row x ≡ b → cond b (count (λ y. same_row y (there x) && g y) (asks n many)) 0 ≡ cond (b && g (there x)) 1 0
        go true e = one_row (there x) (fits x (rw e tt)).0
        go false e = refl

    -- the other way round
    turned : (x y : List ℕ) → T (pairs x y) → T (row y && g y && same_row x (back y))
    turned x y k =
        let a = and_l (row x) _ k in
        let b = and_r (row x) _ k in
        let e = alike-told y (there x) (and_l _ _ b) in
        let h = ap back e ∙ (fits x a).1 in
        and_i _ _ (and_i _ _ (subst (λ z. T (row z)) (sym e) (fits x a).0) (and_r (same_row y (there x)) _ b)) (subst (λ z. T (same_row x z)) (sym h) (alike-itself x))

    returned : (x y : List ℕ) → T (row y && g y && same_row x (back y)) → T (pairs x y)
    returned x y k =
        let a = and_l (row y && g y) _ k in
        let b = and_l (row y) _ a in
        let e = alike-told x (back y) (and_r (row y && g y) _ k) in
        let h = ap there e ∙ (fits-back y b).1 in
        and_i _ _ (subst (λ z. T (row z)) (sym e) (fits-back y b).0) (and_i _ _ (subst (λ z. T (same_row y z)) (sym h) (alike-itself y)) (and_r (row y) _ a))

    of_column : (y : List ℕ) → count (λ x. pairs x y) (asks n many) ≡ cond (row y && g y) 1 0
    of_column y =
        count_same _ (λ x. row y && g y && same_row x (back y)) (λ x. same_tests _ _ (turned x y) (returned x y)) (asks n many)
        ∙ (count-and (row y && g y) _ (asks n many) ∙ (ap (λ c. cond (row y && g y) c 0) ((asks-counted n many).once (back y)) ∙ go (row y) refl))
      where
        go : (b : Bool) → row y ≡ b → ◌≡◌ {A = ℕ} (cond (b && g y) (cond (row (back y)) 1 0) 0) (cond (b && g y) 1 0)
        go true e = ap (λ c. cond (g y) (cond c 1 0) 0) (is_true _ (fits-back y (rw e tt)).0)
        go false e = refl

    pub as_often : (h : List ℕ → Bool) → ((x : List ℕ) → T (row x) → h x ≡ g (there x)) → count h (asks n many) ≡ count g (asks n many)
    as_often h e =
        sym (count_rows n many h)
        ∙ (count_same _ (λ x. row x && g (there x)) (λ x. go x (row x) refl) (asks n many)
        ∙ (sym (sum-count _ (λ x. row x && g (there x)) of_row (asks n many))
        ∙ (sum-turned pairs (asks n many) (asks n many)
        ∙ (sum-count _ (λ y. row y && g y) of_column (asks n many) ∙ count_rows n many g))))
      where
        go : (x : List ℕ) (b : Bool) → row x ≡ b → (b && h x) ≡ (b && g (there x))
        go x true k = e x (rw k tt)
        go x false k = refl
