-- Rows of numbers in range for an order correspond one to one with orders. Assumes nothing.
use Rattle.std.proofs.Common.{◌≡◌, ℕ, zero, suc, ◌+◌, ◌<◌, ◌≤◌, Bool, true, not, ◌&&◌, T, ltb, List, [], ◌∷◌, ◌++◌, map, length, take, sym, refl, ap, ◌∙◌, subst, arith, ltb→lt, lt→ltb}
use Rattle.std.proofs.lemmas.Bool.Decides.{nat_tests}
use Rattle.std.proofs.lemmas.List.{length-map, length_push, length-take-le, get_or-map, get_or_push, take_at, take_more, take_all, nil_from_length}
use Rattle.paths.specs.Plan.{is_in, different, all_below, at}
use Rattle.paths.specs.Cheat.{up_to}
use Rattle.drawing.specs.Drawing.{exchanges, order_of, row_of, swap, in_range, order_moduli}
use Rattle.drawing.specs.Uniform.{IsOrder, Orders}
use Rattle.drawing.proofs.Tests.{first, second, both, is_true, from_true}
use Rattle.drawing.proofs.Exchanges.{map-swap-swap, different-swap, below-swap, different_push, below_push, below_top, top_in, rest_in, order-more}

-- an order with the next path behind it, and two numbers exchanged, is an order of one path more
grown : (i d : ℕ) (xs : List ℕ) → d < suc (suc i) → IsOrder (suc i) xs → IsOrder (suc (suc i)) (map (swap d (suc i)) (xs ++ (suc i ∷ [])))
grown i d xs l o =
    let ys = xs ++ (suc i ∷ []) in
    let e = length-map ys (swap d (suc i)) in
    let f = length_push xs (suc i) in
    let a = different-swap d (suc i) ys in
    let b = different_push xs (suc i) in
    let less : suc i < suc (suc i) = omega arith in
    let g = below-swap (suc (suc i)) d (suc i) l less ys in
    let h = below_push (suc (suc i)) xs (suc i) in
    let t = below_top (suc i) xs in
    let p = is_true (different xs) o.1 in
    let q = is_true (all_below (suc i) xs) o.2 in
    let q1 : not (is_in (suc i) xs) ≡ true = grind (arith, nat_tests) in
    let q2 : all_below (suc (suc i)) xs ≡ true = grind (arith, nat_tests) in
    let r1 : different (map (swap d (suc i)) ys) ≡ true = grind (arith, nat_tests) in
    let r2 : all_below (suc (suc i)) (map (swap d (suc i)) ys) ≡ true = grind (arith, nat_tests) in
    (omega (arith, o.0), from_true (different (map (swap d (suc i)) ys)) r1, from_true (all_below (suc (suc i)) (map (swap d (suc i)) ys)) r2)

-- and the other way: an order of one path more, with its last number exchanged with the last path, ends in that path
swap-first : (a b : ℕ) → swap a b a ≡ b
swap-first a b = grind (arith, nat_tests)

swap-second : (a b : ℕ) → swap a b b ≡ a
swap-second a b = grind (arith, nat_tests)

ends : (i : ℕ) (o : List ℕ) → length o ≡ suc (suc i) →
    map (swap (at o (suc i)) (suc i)) o ≡ take (suc i) (map (swap (at o (suc i)) (suc i)) o) ++ (suc i ∷ [])
ends i o e =
    let f = swap (at o (suc i)) (suc i) in
    let zs = map f o in
    let l = length-map o f in
    let a = take_all (suc i + 1) zs (omega arith) in
    let b = take_more zs (suc i) 0 (omega arith) in
    let c = get_or-map f o (suc i) 0 0 (omega arith) in
    let g = swap-first (at o (suc i)) (suc i) in
    cc

pub at-below : (n : ℕ) (xs : List ℕ) (x : ℕ) → T (all_below n xs) → x < length xs → at xs x < n
unfolding all_below
at-below n [] x h l = absurd (omega arith)
at-below n (y ∷ ys) zero h l = ltb→lt y n (first (ltb y n) (all_below n ys) h)
at-below n (y ∷ ys) (suc x) h l = at-below n ys x (second (ltb y n) (all_below n ys) h) (omega arith)

last_below : (i : ℕ) (o : List ℕ) → IsOrder (suc (suc i)) o → at o (suc i) < suc (suc i)
last_below i o h = at-below (suc (suc i)) o (suc i) h.2 (omega (arith, h.0))

shrunk : (i : ℕ) (o : List ℕ) → IsOrder (suc (suc i)) o → IsOrder (suc i) (take (suc i) (map (swap (at o (suc i)) (suc i)) o))
shrunk i o h =
    let d = at o (suc i) in
    let zs = map (swap d (suc i)) o in
    let ys = take (suc i) zs in
    let e = ends i o h.0 in
    let l = length-map o (swap d (suc i)) in
    let m : suc i ≤ length zs = omega (arith, h.0) in
    let less : suc i < suc (suc i) = omega arith in
    let a : different zs ≡ different o = different-swap d (suc i) o in
    let b : different zs ≡ (different ys && not (is_in (suc i) ys)) = ap different e ∙ different_push ys (suc i) in
    let g : all_below (suc (suc i)) zs ≡ all_below (suc (suc i)) o = below-swap (suc (suc i)) d (suc i) (last_below i o h) less o in
    let k : all_below (suc (suc i)) zs ≡ (all_below (suc (suc i)) ys && ltb (suc i) (suc (suc i))) = ap (all_below (suc (suc i))) e ∙ below_push (suc (suc i)) ys (suc i) in
    let t = below_top (suc i) ys in
    let p = is_true (different o) h.1 in
    let q = is_true (all_below (suc (suc i)) o) h.2 in
    let r1 : different ys ≡ true = tests_1 (different ys) (is_in (suc i) ys) (sym b ∙ a ∙ p) in
    let r2 : all_below (suc i) ys ≡ true = tests_2 (different ys) (is_in (suc i) ys) (all_below (suc (suc i)) ys) (ltb (suc i) (suc (suc i))) (all_below (suc i) ys) (sym b ∙ a ∙ p) (sym k ∙ g ∙ q) t in
    (length-take-le (suc i) zs m, from_true (different ys) r1, from_true (all_below (suc i) ys) r2)
  where
    tests_1 : (x y : Bool) → (x && not y) ≡ true → x ≡ true
    tests_1 x y h = grind arith

    tests_2 : (x y z u v : Bool) → (x && not y) ≡ true → (z && u) ≡ true → (z && not y) ≡ v → v ≡ true
    tests_2 x y z u v g h k = grind arith

order-none : (ds : List ℕ) → T (in_range [] ds) → ds ≡ []
unfolding in_range
order-none [] h = refl
order-none (d ∷ ds) h = absurd h

one-order : (o : List ℕ) → IsOrder 1 o → (0 ∷ []) ≡ o
unfolding all_below
one-order [] h = absurd (omega (arith, h.0))
one-order (x ∷ []) h = let l = ltb→lt x 1 (first (ltb x 1) true h.2) in let e : 0 ≡ x = omega arith in ap (λ y. y ∷ []) e
one-order (x ∷ y ∷ ys) h = absurd (omega (arith, h.0))

pub order_is : (k : ℕ) (ds : List ℕ) → T (in_range (order_moduli k) ds) → IsOrder k (order_of k ds)
unfolding order_moduli in_range exchanges up_to different all_below is_in
order_is zero [] h = (refl, tt, tt)
order_is zero (d ∷ ds) h = absurd h
order_is (suc zero) [] h = (refl, tt, tt)
order_is (suc zero) (d ∷ ds) h = absurd h
order_is (suc (suc i)) [] h = absurd h
order_is (suc (suc i)) (d ∷ ds) h =
    subst (IsOrder (suc (suc i))) (sym (order-more i d ds h)) (grown i d (order_of (suc i) ds) (top_in i d ds h) (order_is (suc i) ds (rest_in i d ds h)))

pub row_in : (k : ℕ) (o : List ℕ) → IsOrder k o → T (in_range (order_moduli k) (row_of k o))
unfolding order_moduli in_range row_of
row_in zero o h = tt
row_in (suc zero) o h = tt
row_in (suc (suc i)) o h =
    let ys = take (suc i) (map (swap (at o (suc i)) (suc i)) o) in
    both (ltb (at o (suc i)) (suc (suc i))) (in_range (order_moduli (suc i)) (row_of (suc i) ys)) (lt→ltb (at o (suc i)) (suc (suc i)) (last_below i o h))
    (row_in (suc i) ys (shrunk i o h))

pub order_row : (k : ℕ) (o : List ℕ) → IsOrder k o → order_of k (row_of k o) ≡ o
unfolding row_of exchanges up_to
order_row zero o h = sym (nil_from_length o h.0)
order_row (suc zero) o h = one-order o h
order_row (suc (suc i)) o h =
    let d = at o (suc i) in
    let ys = take (suc i) (map (swap d (suc i)) o) in
    order-more i d (row_of (suc i) ys) (row_in (suc (suc i)) o h)
    ∙ ap (λ xs. map (swap d (suc i)) (xs ++ (suc i ∷ []))) (order_row (suc i) ys (shrunk i o h))
    ∙ ap (map (swap d (suc i))) (sym (ends i o h.0))
    ∙ map-swap-swap d (suc i) o

last_is : (i d : ℕ) (xs : List ℕ) → length xs ≡ suc i → at (map (swap d (suc i)) (xs ++ (suc i ∷ []))) (suc i) ≡ d
last_is i d xs e =
    let l = length_push xs (suc i) in
    get_or-map (swap d (suc i)) (xs ++ (suc i ∷ [])) (suc i) 0 0 (omega arith) ∙ ap (swap d (suc i)) (get_or_push xs (suc i) 0 (suc i) e) ∙ swap-second d (suc i)

others_are : (i d : ℕ) (xs : List ℕ) → length xs ≡ suc i → take (suc i) (map (swap d (suc i)) (map (swap d (suc i)) (xs ++ (suc i ∷ [])))) ≡ xs
others_are i d xs e = ap (take (suc i)) (map-swap-swap d (suc i) (xs ++ (suc i ∷ []))) ∙ take_at xs (suc i ∷ []) (suc i) e

row_more : (i d : ℕ) (xs : List ℕ) → length xs ≡ suc i → row_of (suc (suc i)) (map (swap d (suc i)) (xs ++ (suc i ∷ []))) ≡ d ∷ row_of (suc i) xs
unfolding row_of
row_more i d xs e = simp (last_is i d xs e, others_are i d xs e)

pub row_order : (k : ℕ) (ds : List ℕ) → T (in_range (order_moduli k) ds) → row_of k (order_of k ds) ≡ ds
unfolding order_moduli in_range row_of
row_order zero ds h = sym (order-none ds h)
row_order (suc zero) ds h = sym (order-none ds h)
row_order (suc (suc i)) [] h = absurd h
row_order (suc (suc i)) (d ∷ ds) h =
    ap (row_of (suc (suc i))) (order-more i d ds h)
    ∙ row_more i d (order_of (suc i) ds) (order_is (suc i) ds (rest_in i d ds h)).0
    ∙ ap (λ es. d ∷ es) (row_order (suc i) ds (rest_in i d ds h))

pub orders : Orders
orders k = record { there_is = order_is k; back_in = row_in k; there_back = order_row k; back_there = row_order k }
