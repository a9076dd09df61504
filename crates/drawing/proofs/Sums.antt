-- Sums over the numbers below n, also by what a value is used for; how many values have a remainder.
-- Assumes nothing.
use Rattle.std.proofs.Common.{◌≡◌, ℕ, zero, suc, ◌+◌, ◌*◌, ◌/◌, ◌%◌, ◌<◌, Bool, true, false, cond, ◌&&◌, eqb, ltb, sym, refl, ap, ◌∙◌, add-zero, add-suc, mod-eq_of_lt, div-add-mod', zero-mul, mul-div_cancel, arith}
use native.Mathlib.Nat.{mul-add-mod_self_right, mod-le}
use Rattle.std.proofs.lemmas.Bool.Decides.{nat_tests}
use Rattle.drawing.specs.Drawing.{limit}
use Rattle.drawing.specs.Uniform.{count_below, Remainders}

unfoldable pub sum_below : (ℕ → ℕ) → ℕ → ℕ
sum_below f zero = 0
sum_below f (suc n) = sum_below f n + f n

-- two functions that agree below n have one sum
pub sum_same : (f g : ℕ → ℕ) (n : ℕ) → ((v : ℕ) → v < n → f v ≡ g v) → sum_below f n ≡ sum_below g n
unfolding sum_below
sum_same f g zero h = refl
sum_same f g (suc n) h = omega (arith, sum_same f g n (λ v l. h v (omega arith)), h n (omega arith))

pub sum-add : (f : ℕ → ℕ) (a b : ℕ) → sum_below f (a + b) ≡ sum_below f a + sum_below (λ v. f (a + v)) b
unfolding sum_below
sum-add f a zero = simp (add-zero a) (omega arith)
sum-add f a (suc b) = simp (add-suc a b) (omega (arith, sum-add f a b))

pub sum_const : (b n : ℕ) → sum_below (λ _. b) n ≡ n * b
unfolding sum_below
sum_const b zero = omega arith
sum_const b (suc n) = omega (arith, sum_const b n)

pub sum-times : (f : ℕ → ℕ) (w n : ℕ) → sum_below (λ v. f v * w) n ≡ sum_below f n * w
unfolding sum_below
sum-times f w zero = omega arith
sum-times f w (suc n) = omega (arith, sum-times f w n)

count_is_sum : (p : ℕ → Bool) (n : ℕ) → count_below p n ≡ sum_below (λ v. cond (p v) 1 0) n
unfolding sum_below count_below
count_is_sum p zero = refl
count_is_sum p (suc n) = ap (λ c. c + cond (p n) 1 0) (count_is_sum p n)

-- one of the numbers below s is d
one-step : (d s x : ℕ) → x ≡ cond (ltb d s) 1 0 → x + cond (eqb s d) 1 0 ≡ cond (ltb d (suc s)) 1 0
one-step d s x h = grind (arith, nat_tests)

one_below : (d s : ℕ) → sum_below (λ v. cond (eqb v d) 1 0) s ≡ cond (ltb d s) 1 0
unfolding sum_below
one_below d zero = grind (arith, nat_tests)
one_below d (suc s) = one-step d s (sum_below (λ v. cond (eqb v d) 1 0) s) (one_below d s)

pub one : (d s : ℕ) → d < s → sum_below (λ v. cond (eqb v d) 1 0) s ≡ 1
one d s l = let h = one_below d s in grind (arith, nat_tests)

-- a sum over remainders, in q blocks of s
in_block : (f : ℕ → ℕ) (q s v : ℕ) → v < s → f ((q * s + v) % s) ≡ f v
in_block f q s v l = ap f (mul-add-mod_self_right q s v ∙ mod-eq_of_lt l)

in_blocks : (f : ℕ → ℕ) (q s : ℕ) → sum_below (λ v. f (v % s)) (q * s) ≡ q * sum_below f s
unfolding sum_below
in_blocks f zero s = simp zero-mul refl
in_blocks f (suc q) s =
    let e : suc q * s ≡ q * s + s = omega arith in
    let a = sum-add (λ v. f (v % s)) (q * s) s in
    let b = sum_same (λ v. f ((q * s + v) % s)) f s (in_block f q s) in
    simp e (omega (arith, a, b, in_blocks f q s))

-- the limit is a multiple of s, and the values are those below it and those passed over
pub limit_is : (n s : ℕ) → limit n s ≡ n / s * s
limit_is n s = omega (arith, div-add-mod' n s)

limit-ways : (n s : ℕ) → 0 < s → limit n s / s ≡ n / s
limit-ways n s l = ap (λ x. x / s) (limit_is n s) ∙ mul-div_cancel (n / s) l

limit-rest : (n s : ℕ) → limit n s + n % s ≡ n
limit-rest n s = omega (arith, mod-le n s)

-- a sum over all values, by what a value is used for: a number of its remainder, or b if it is passed over
module _ (f : ℕ → ℕ) (n s b : ℕ) where
  use_of : ℕ → ℕ
  use_of v = cond (ltb v (limit n s)) (f (v % s)) b

  used : (v : ℕ) → v < limit n s → use_of v ≡ f (v % s)
  unfolding use_of
  used v l = let e : ltb v (limit n s) ≡ true = grind (arith, nat_tests) in ap (λ t. cond t (f (v % s)) b) e

  over : (v : ℕ) → v < n % s → use_of (limit n s + v) ≡ b
  unfolding use_of
  over v l = let e : ltb (limit n s + v) (limit n s) ≡ false = grind (arith, nat_tests) in ap (λ t. cond t (f ((limit n s + v) % s)) b) e

  by_use : 0 < s → sum_below use_of n ≡ limit n s / s * sum_below f s + n % s * b
  by_use l =
      let whole : sum_below use_of n ≡ sum_below use_of (limit n s + n % s) = ap (sum_below use_of) (sym (limit-rest n s)) in
      let split = sum-add use_of (limit n s) (n % s) in
      let low : sum_below use_of (limit n s) ≡ limit n s / s * sum_below f s =
      sum_same use_of (λ v. f (v % s)) (limit n s) used ∙ ap (sum_below (λ v. f (v % s))) (limit_is n s) ∙ in_blocks f (n / s) s ∙ ap (λ q. q * sum_below f s) (sym (limit-ways n s l)) in
      let high = sum_same (λ v. use_of (limit n s + v)) (λ _. b) (n % s) over in
      whole ∙ split ∙ omega (arith, low, high, sum_const b (n % s))

pub sum_by_use : (f : ℕ → ℕ) (n s b : ℕ) → 0 < s → sum_below (λ v. cond (ltb v (limit n s)) (f (v % s)) b) n ≡ limit n s / s * sum_below f s + n % s * b
unfolding use_of
sum_by_use f n s b l = by_use f n s b l

as_one : (a b : ℕ) (x y : Bool) → cond (x && y) a b ≡ cond x (cond y a b) b
as_one a b true y = refl
as_one a b false y = refl

pub remainders : (n : ℕ) → Remainders n
remainders n s d _ l =
    let e = count_is_sum (λ v. ltb v (limit n s) && eqb (v % s) d) n in
    let f = sum_same (λ v. cond (ltb v (limit n s) && eqb (v % s) d) 1 0) (λ v. cond (ltb v (limit n s)) (cond (eqb (v % s) d) 1 0) 0) n
    (λ v _. as_one 1 0 (ltb v (limit n s)) (eqb (v % s) d)) in
    let g = sum_by_use (λ x. cond (eqb x d) 1 0) n s 0 (omega arith) in
    e ∙ f ∙ g ∙ simp (one d s l) (omega arith)
