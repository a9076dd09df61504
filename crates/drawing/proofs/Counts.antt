-- Counts over all rows of values, by their first value; and each row of numbers in range comes from equally many.
-- Assumes nothing.
use Rattle.std.proofs.Common.{◌≡◌, ℕ, zero, suc, ◌+◌, ◌*◌, ◌/◌, ◌%◌, ◌^◌, ◌<◌, Bool, true, false, cond, ◌&&◌, T, eqb, ltb, leb, List, [], ◌∷◌, ◌++◌, replicate, sym, refl, ap, ◌∙◌, arith, ltb→lt}
use native.Mathlib.Nat.{pow-succ', pow-zero}
use Rattle.std.proofs.lemmas.Bool.Decides.{nat_tests}
use Rattle.std.proofs.lemmas.List.{append_assoc}
use Rattle.paths.specs.Cheat.{count, asks, before, up_to}
use Rattle.drawing.specs.Drawing.{limit, Drawn, drew, short, more, draw, serve, in_range}
use Rattle.paths.specs.Count.{same_row}
use Rattle.drawing.specs.Uniform.{such, how_many, ways, Ways, Rows, all_rows, Shares}
use Rattle.drawing.proofs.Tests.{first, second}
use Rattle.drawing.proofs.Sums.{sum_below, sum_same, sum_const, sum-times, sum_by_use, one}

pub count_same : (f g : List ℕ → Bool) → ((x : List ℕ) → f x ≡ g x) → (xs : List (List ℕ)) → count f xs ≡ count g xs
unfolding count
count_same f g h [] = refl
count_same f g h (x ∷ xs) = let e = h x in let ih = count_same f g h xs in cc

count-append : (h : List ℕ → Bool) (xs ys : List (List ℕ)) → count h (xs ++ ys) ≡ count h xs + count h ys
unfolding count
count-append h [] ys = omega arith
count-append h (x ∷ xs) ys = omega (arith, count-append h xs ys)

count_flat : (t : Bool) (xs : List (List ℕ)) → count (λ _. t) xs ≡ cond t 1 0 * count (λ _. true) xs
unfolding count
count_flat t [] = omega arith
count_flat true (x ∷ xs) = omega (arith, count_flat true xs)
count_flat false (x ∷ xs) = omega (arith, count_flat false xs)

count-and : (t : Bool) (h : List ℕ → Bool) (xs : List (List ℕ)) → count (λ x. t && h x) xs ≡ cond t 1 0 * count h xs
unfolding count
count-and true h xs = omega arith
count-and false h [] = omega arith
count-and false h (x ∷ xs) = omega (arith, count-and false h xs)

before-append : (ns ms : List ℕ) (xs : List (List ℕ)) → before (ns ++ ms) xs ≡ before ns xs ++ before ms xs
unfolding before
before-append [] ms xs = refl
before-append (n ∷ ns) ms xs = rw (before-append ns ms xs) (sym (append_assoc _ (before ns xs) (before ms xs)))

count-one : (h : List ℕ → Bool) (n : ℕ) (xs : List (List ℕ)) → count h (before (n ∷ []) xs) ≡ count (λ x. h (n ∷ x)) xs
unfolding before count
count-one h n [] = refl
count-one h n (x ∷ xs) = ap (λ c. cond (h (n ∷ x)) 1 0 + c) (count-one h n xs)

pub count-before : (h : List ℕ → Bool) (n : ℕ) (xs : List (List ℕ)) → count h (before (up_to n) xs) ≡ sum_below (λ v. count (λ x. h (v ∷ x)) xs) n
unfolding up_to sum_below before count
count-before h zero xs = refl
count-before h (suc n) xs =
    ap (count h) (before-append (up_to n) (n ∷ []) xs) ∙ count-append h (before (up_to n) xs) (before (n ∷ []) xs) ∙ omega (arith, count-before h n xs, count-one h n xs)

pub count-more : (h : List ℕ → Bool) (n many : ℕ) → count h (asks n (suc many)) ≡ sum_below (λ v. count (λ x. h (v ∷ x)) (asks n many)) n
unfolding asks
count-more h n many = count-before h n (asks n many)

pub count-all : (n many : ℕ) → count (λ _. true) (asks n many) ≡ n ^ many
unfolding asks count
count-all n zero = sym (pow-zero n)
count-all n (suc many) =
    count-before (λ _. true) n (asks n many) ∙ sum_const (count (λ _. true) (asks n many)) n ∙ ap (λ x. n * x) (count-all n many) ∙ sym (pow-succ' n many)

-- the first value: used, with its remainder drawn first, or passed over
such-more : (p : List ℕ → Bool) (e : ℕ) (r : Drawn) → such p (more e r) ≡ such (λ ds. p (e ∷ ds)) r
such-more p e (drew es left) = refl
such-more p e short = refl

gather : (a k c w x : ℕ) → a * (c * w) + k * (c * x) ≡ c * (a * w + k * x)
gather a k c w x = omega arith

module _ (n s : ℕ) (ss : List ℕ) (p : List ℕ → Bool) (many : ℕ) where
  by_first : (v : ℕ) → count (λ vs. such p (draw n (s ∷ ss) (v ∷ vs))) (asks n many)
      ≡ cond (ltb v (limit n s)) (how_many n ss (λ ds. p (v % s ∷ ds)) many) (how_many n (s ∷ ss) p many)
  unfolding draw
  by_first v = go (ltb v (limit n s))
    where
      go : (t : Bool) → count (λ vs. such p (cond t (more (v % s) (draw n ss vs)) (draw n (s ∷ ss) vs))) (asks n many)
          ≡ cond t (how_many n ss (λ ds. p (v % s ∷ ds)) many) (how_many n (s ∷ ss) p many)
      go true = count_same (λ vs. such p (more (v % s) (draw n ss vs))) (λ vs. such (λ ds. p (v % s ∷ ds)) (draw n ss vs)) (λ vs. such-more p (v % s) (draw n ss vs)) (asks n many)
      go false = refl

  -- by all first values, given what is known of fewer values
  step : 0 < s → ((q : List ℕ → Bool) → how_many n ss q many ≡ count q (all_rows ss) * ways n ss many) → how_many n (s ∷ ss) p many ≡ count p (all_rows (s ∷ ss)) * ways n (s ∷ ss) many →
      how_many n (s ∷ ss) p (suc many) ≡ count p (all_rows (s ∷ ss)) * ways n (s ∷ ss) (suc many)
  unfolding asks all_rows ways
  step l ofUsed pass =
      let w = ways n ss many in
      let b = how_many n (s ∷ ss) p many in
      let c : ℕ → ℕ = λ x. count (λ ds. p (x ∷ ds)) (all_rows ss) in
      let first : how_many n (s ∷ ss) p (suc many) ≡ sum_below (λ v. count (λ vs. such p (draw n (s ∷ ss) (v ∷ vs))) (asks n many)) n =
      count-before (λ vs. such p (draw n (s ∷ ss) vs)) n (asks n many) in
      let each = sum_same (λ v. count (λ vs. such p (draw n (s ∷ ss) (v ∷ vs))) (asks n many)) (λ v. cond (ltb v (limit n s)) (c (v % s) * w) b) n
      (λ v _. by_first v ∙ ap (λ x. cond (ltb v (limit n s)) x b) (ofUsed (λ ds. p (v % s ∷ ds)))) in
      let sum = sum_by_use (λ x. c x * w) n s b l in
      let all = count p (all_rows (s ∷ ss)) in
      let out : sum_below (λ x. c x * w) s ≡ all * w = sum-times c w s ∙ ap (λ x. x * w) (sym (count-before p s (all_rows ss))) in
      first ∙ each ∙ sum ∙ ap (λ x. limit n s / s * x + n % s * b) out ∙ ap (λ x. limit n s / s * (all * w) + n % s * x) pass
      ∙ gather (limit n s / s) (n % s) all w (ways n (s ∷ ss) many)

pub serve-first : (n s : ℕ) (ss : List ℕ) → T (serve n (s ∷ ss)) → 0 < s
unfolding serve
serve-first n s ss g = ltb→lt 0 s (first (ltb 0 s) (leb s n) (first (ltb 0 s && leb s n) (serve n ss) g))

pub serve-rest : (n s : ℕ) (ss : List ℕ) → T (serve n (s ∷ ss)) → T (serve n ss)
unfolding serve
serve-rest n s ss g = second (ltb 0 s && leb s n) (serve n ss) g

pub shares : (n : ℕ) → Shares n
unfolding ways draw asks count all_rows
shares n [] g p many = count_flat (p []) (asks n many) ∙ simp (count-all n many) (omega arith)
shares n (s ∷ ss) g p zero = omega arith
shares n (s ∷ ss) g p (suc many) =
    step n s ss p many (serve-first n s ss g) (λ q. shares n ss (serve-rest n s ss g) q many) (shares n (s ∷ ss) g p many)

-- each row in range stands once among all of them
once-step : (d s : ℕ) (ds : List ℕ) (xs : List (List ℕ)) → d < s → count (same_row ds) xs ≡ 1 → count (same_row (d ∷ ds)) (before (up_to s) xs) ≡ 1
once-step d s ds xs l h =
    count-before (same_row (d ∷ ds)) s xs
    ∙ sum_same (λ v. count (λ x. eqb d v && same_row ds x) xs) (λ v. cond (eqb v d) 1 0) s (λ v _. count-and (eqb d v) (same_row ds) xs ∙ turn v)
    ∙ one d s l
  where
    turn : (v : ℕ) → cond (eqb d v) 1 0 * count (same_row ds) xs ≡ cond (eqb v d) 1 0
    turn v = rw h (grind (arith, nat_tests))

once_in : (ss ds : List ℕ) → T (in_range ss ds) → count (same_row ds) (all_rows ss) ≡ 1
unfolding in_range all_rows count
once_in [] [] h = refl
once_in [] (d ∷ ds) h = absurd h
once_in (s ∷ ss) [] h = absurd h
once_in (s ∷ ss) (d ∷ ds) h = once-step d s ds (all_rows ss) (ltb→lt d s (first (ltb d s) (in_range ss ds) h)) (once_in ss ds (second (ltb d s) (in_range ss ds) h))

pub ways_are : (n : ℕ) → Ways n
ways_are n ss g many ds h = shares n ss g (same_row ds) many ∙ simp (once_in ss ds h) (omega arith)

pub rows : (n : ℕ) → Rows n
rows n ss good many ds es h k = ways_are n ss good many ds h ∙ sym (ways_are n ss good many es k)

pub questions-all : (m r : ℕ) → all_rows (replicate r m) ≡ asks m r
unfolding all_rows asks
questions-all m zero = refl
questions-all m (suc r) = ap (before (up_to m)) (questions-all m r)
