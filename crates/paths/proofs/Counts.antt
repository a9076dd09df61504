-- Counting over the rows of questions. Assumes nothing.
use Rattle.std.proofs.Common.{◌≡◌, ℕ, zero, suc, ◌+◌, ◌*◌, ◌^◌, ◌<◌, ◌≤◌, Bool, true, false, cond, ◌&&◌, T, eqb, ltb, ◌⊎◌, List, [], ◌∷◌, ◌++◌, map, length, sym, refl, ap, ◌∙◌, inl, inr, pow-suc, arith}
use lib.Dec.{eqb-suc-zero, eqb-zero-suc, eqb-suc-suc}
use native.Mathlib.Nat.{pow-zero}
use Rattle.std.proofs.lemmas.List.{append_assoc}
use Rattle.std.proofs.lemmas.Bool.{cases_eq}
use Rattle.std.proofs.lemmas.Bool.Decides.{nat_tests}
use Rattle.paths.specs.Plan.{all_below}
use Rattle.paths.specs.Cheat.{up_to, before, asks, count}
use Rattle.paths.specs.Count.{same_row, is_row, AsksCounted}

-- one number before each row, and more numbers
before-one : (n : ℕ) (xs : List (List ℕ)) → before (n ∷ []) xs ≡ map (λ x. n ∷ x) xs
unfolding before
before-one n [] = refl
before-one n (x ∷ xs) = ap (◌∷◌ (n ∷ x)) (before-one n xs)

before-append : (ms ns : List ℕ) (xs : List (List ℕ)) → before (ms ++ ns) xs ≡ before ms xs ++ before ns xs
unfolding before
before-append [] ns xs = refl
before-append (m ∷ ms) ns xs = rw (before-append ms ns xs) (sym (append_assoc _ (before ms xs) (before ns xs)))

count-append : (h : List ℕ → Bool) (xs ys : List (List ℕ)) → count h (xs ++ ys) ≡ count h xs + count h ys
unfolding count
count-append h [] ys = omega arith
count-append h (x ∷ xs) ys = omega (arith, count-append h xs ys)

count_map : (h : List ℕ → Bool) (n : ℕ) (xs : List (List ℕ)) → count h (map (λ x. n ∷ x) xs) ≡ count (λ x. h (n ∷ x)) xs
unfolding count
count_map h n [] = refl
count_map h n (x ∷ xs) = ap (λ c. cond (h (n ∷ x)) 1 0 + c) (count_map h n xs)

-- the rows that begin with a number below m + 1: those below m, and those that begin with m
count-more : (h : List ℕ → Bool) (m : ℕ) (xs : List (List ℕ)) → count h (before (up_to (suc m)) xs) ≡ count h (before (up_to m) xs) + count (λ x. h (m ∷ x)) xs
unfolding up_to
count-more h m xs = rw (before-append (up_to m) (m ∷ []) xs, before-one m xs, count-append h (before (up_to m) xs) (map (λ x. m ∷ x) xs), count_map h m xs)

count_none : (h : List ℕ → Bool) (xs : List (List ℕ)) → count h (before (up_to 0) xs) ≡ 0
unfolding up_to before count
count_none h xs = refl

-- a test that does not look at the row
pub count-and : (b : Bool) (h : List ℕ → Bool) (xs : List (List ℕ)) → count (λ x. b && h x) xs ≡ cond b (count h xs) 0
unfolding count
count-and true h xs = refl
count-and false h [] = refl
count-and false h (x ∷ xs) = omega (arith, count-and false h xs)

count-all : (xs : List (List ℕ)) → count (λ x. true) xs ≡ length xs
unfolding count
count-all [] = refl
count-all (x ∷ xs) = omega (arith, count-all xs)

count_no : (xs : List (List ℕ)) → count (λ x. false) xs ≡ 0
count_no xs = count-and false (λ x. true) xs

-- rows counted by their first number, which is below m: at most once for each number that passes a test, or all alike, or one number's alone
pub at_most : (h : List ℕ → Bool) (w : ℕ → Bool) (b : ℕ) (xs : List (List ℕ)) → ((i : ℕ) → count (λ x. h (i ∷ x)) xs ≤ cond (w i) b 0) → (m : ℕ) →
    (((i : ℕ) → i < m → T (w i)) × (count h (before (up_to m) xs) ≤ m * b)) ⊎ (count h (before (up_to m) xs) + b ≤ m * b)
at_most h w b xs g zero = inl (λ i l. absurd (omega arith), omega (arith, count_none h xs))
at_most h w b xs g (suc m) = go (w m) refl (at_most h w b xs g m)
  where
    Done : ℕ → Type 0
    Done m = (((i : ℕ) → i < m → T (w i)) × (count h (before (up_to m) xs) ≤ m * b)) ⊎ (count h (before (up_to m) xs) + b ≤ m * b)

    one : (v : Bool) → w m ≡ v → count (λ x. h (m ∷ x)) xs ≤ cond v b 0
    one v e = rw e at (g m)

    go : (v : Bool) → w m ≡ v → Done m → Done (suc m)
    go true e (inl (s, c)) = inl (λ i l. elim (cases_eq i m) [ inl z ↦ rw (z, e) tt | inr n ↦ s i (omega arith) ], omega (arith, count-more h m xs, one true e))
    go true e (inr c) = inr (omega (arith, count-more h m xs, one true e))
    go false e (inl s) = inr (omega (arith, count-more h m xs, one false e))
    go false e (inr c) = inr (omega (arith, count-more h m xs, one false e))

all_alike : (h : List ℕ → Bool) (b : ℕ) (xs : List (List ℕ)) → ((i : ℕ) → count (λ x. h (i ∷ x)) xs ≡ b) → (m : ℕ) → count h (before (up_to m) xs) ≡ m * b
all_alike h b xs g zero = omega (arith, count_none h xs)
all_alike h b xs g (suc m) = omega (arith, count-more h m xs, g m, all_alike h b xs g m)

one_alone : (h : List ℕ → Bool) (y b : ℕ) (xs : List (List ℕ)) → ((i : ℕ) → count (λ x. h (i ∷ x)) xs ≡ cond (eqb i y) b 0) → (m : ℕ) → count h (before (up_to m) xs) ≡ cond (ltb y m) b 0
one_alone h y b xs g zero = count_none h xs ∙ grind (arith, nat_tests)
one_alone h y b xs g (suc m) = let c = count-more h m xs in let d = one_alone h y b xs g m in let e = g m in rw (c, d, e) (grind (arith, nat_tests))

-- all ways to ask
three : (a b c : Bool) → cond {A = ℕ} b (cond (a && c) 1 0) 0 ≡ cond (a && (b && c)) 1 0
three true true c = refl
three true false c = refl
three false true c = refl
three false false c = refl

rows_many : (m r : ℕ) → length (asks m r) ≡ m ^ r
unfolding asks
rows_many m zero = sym (pow-zero m)
rows_many m (suc r) =
    sym (count-all (before (up_to m) (asks m r))) ∙ all_alike (λ x. true) (m ^ r) (asks m r) (λ i. count-all (asks m r) ∙ rows_many m r) m ∙ omega (arith, pow-suc m r)

rows_once : (m r : ℕ) (is : List ℕ) → count (λ x. same_row x is) (asks m r) ≡ cond (is_row m r is) 1 0
unfolding asks count all_below
rows_once m zero [] = refl
rows_once m zero (y ∷ ys) = rw (eqb-suc-zero (length ys))
rows_once m (suc r) [] = rw (eqb-zero-suc r) (all_alike (λ x. same_row x []) 0 (asks m r) (λ i. count_no (asks m r)) m ∙ omega arith)
rows_once m (suc r) (y ∷ ys) = rw (eqb-suc-suc (length ys) r) (one_alone (λ x. same_row x (y ∷ ys)) y (cond (is_row m r ys) 1 0) (asks m r) (λ i. count-and (eqb i y) (λ x. same_row x ys) (asks m r) ∙ ap (λ n. cond (eqb i y) n 0) (rows_once m r ys)) m ∙ three (eqb (length ys) r) (ltb y m) (all_below m ys))

pub asks-counted : AsksCounted
asks-counted m r = record { many = rows_many m r; once = rows_once m r }
