-- Rows of bytes and rows of values: four bytes, each below n, are one value below n ^ 4. Assumes nothing.
use Rattle.std.proofs.Common.{◌≡◌, ℕ, zero, suc, ◌+◌, ◌*◌, ◌^◌, ◌<◌, Bool, cond, List, [], ◌∷◌, length, sym, refl, ap, ◌∙◌, zero-mul, mul_left_comm, arith}
use native.Mathlib.Nat.{pow-zero, pow-succ'}
use Rattle.paths.specs.Cheat.{count, asks}
use Rattle.drawing.specs.Drawing.{values_of}
use Rattle.drawing.specs.Uniform.{Bytes}
use Rattle.drawing.proofs.Sums.{sum_below, sum_same, sum-add, sum_const, sum-times}
use Rattle.drawing.proofs.Counts.{count-more}

-- a sum over a rows of b
sum_grid : (f : ℕ → ℕ) (a b : ℕ) → sum_below f (a * b) ≡ sum_below (λ q. sum_below (λ r. f (q * b + r)) b) a
unfolding sum_below
sum_grid f zero b = simp zero-mul refl
sum_grid f (suc a) b =
    let e : suc a * b ≡ a * b + b = omega arith in
    simp e (sum-add f (a * b) b ∙ ap (λ x. x + sum_below (λ r. f (a * b + r)) b) (sum_grid f a b))

module _ (n : ℕ) where
  value : ℕ → ℕ → ℕ → ℕ → ℕ
  value a b c d = ((a * n + b) * n + c) * n + d

  sum_values : (f : ℕ → ℕ) → sum_below f (n * n * n * n) ≡ sum_below (λ a. sum_below (λ b. sum_below (λ c. sum_below (λ d. f (value a b c d)) n) n) n) n
  unfolding value
  sum_values f =
      sum_grid f (n * n * n) n ∙ sum_grid (λ q. sum_below (λ d. f (q * n + d)) n) (n * n) n ∙ sum_grid (λ q. sum_below (λ c. sum_below (λ d. f ((q * n + c) * n + d)) n) n) n n

  -- rows of one length of which a test says the same
  count-given : (h : List ℕ → Bool) (t : Bool) (k : ℕ) → ((bs : List ℕ) → length bs ≡ k → h bs ≡ t) → count h (asks n k) ≡ cond t 1 0 * n ^ k
  unfolding asks count
  count-given h t zero same = simp (same [] refl, pow-zero) (omega arith)
  count-given h t (suc k) same =
      count-more h n k ∙ sum_same (λ v. count (λ x. h (v ∷ x)) (asks n k)) (λ _. cond t 1 0 * n ^ k) n (λ v _. count-given (λ x. h (v ∷ x)) t k (λ bs e. same (v ∷ bs) (ap suc e)))
      ∙ sum_const (cond t 1 0 * n ^ k) n ∙ mul_left_comm n (cond t 1 0) (n ^ k) ∙ ap (λ x. cond t 1 0 * x) (sym (pow-succ' n k))

  short_values : (bs : List ℕ) → length bs < 4 → values_of n bs ≡ []
  unfolding values_of
  short_values [] l = refl
  short_values (a ∷ []) l = refl
  short_values (a ∷ b ∷ []) l = refl
  short_values (a ∷ b ∷ c ∷ []) l = refl
  short_values (a ∷ b ∷ c ∷ d ∷ bs) l = absurd (omega arith)

  four-more : (h : List ℕ → Bool) (k : ℕ) →
      count h (asks n (suc (suc (suc (suc k))))) ≡ sum_below (λ a. sum_below (λ b. sum_below (λ c. sum_below (λ d. count (λ x. h (a ∷ b ∷ c ∷ d ∷ x)) (asks n k)) n) n) n) n
  four-more h k =
      count-more h n (suc (suc (suc k)))
      ∙ sum_same _ _ n (λ a _. count-more (λ x. h (a ∷ x)) n (suc (suc k))
      ∙ sum_same _ _ n (λ b _. count-more (λ x. h (a ∷ b ∷ x)) n (suc k)
      ∙ sum_same _ _ n (λ c _. count-more (λ x. h (a ∷ b ∷ c ∷ x)) n k)))

  pub bytes_of : (many over : ℕ) → over < 4 → (p : List ℕ → Bool) →
      count (λ bs. p (values_of n bs)) (asks n (4 * many + over)) ≡ count p (asks (n * n * n * n) many) * n ^ over
  unfolding asks count values_of value
  bytes_of zero over l p =
      let e : 4 * zero + over ≡ over = omega arith in
      ap (λ k. count (λ bs. p (values_of n bs)) (asks n k)) e
      ∙ count-given (λ bs. p (values_of n bs)) (p []) over (λ bs g. ap p (short_values bs (omega arith)))
      ∙ ap (λ x. x * n ^ over) (omega arith)
  bytes_of (suc many) over l p =
      let e : 4 * suc many + over ≡ suc (suc (suc (suc (4 * many + over)))) = omega arith in
      let g : ℕ → ℕ = λ v. count (λ vs. p (v ∷ vs)) (asks (n * n * n * n) many) in
      ap (λ k. count (λ bs. p (values_of n bs)) (asks n k)) e
      ∙ four-more (λ bs. p (values_of n bs)) (4 * many + over)
      ∙ sum_same _ _ n (λ a _. sum_same _ _ n (λ b _. sum_same _ _ n (λ c _. sum_same _ _ n (λ d _. bytes_of many over l (λ vs. p (value a b c d ∷ vs))))))
      ∙ sym (sum_values (λ v. g v * n ^ over)) ∙ sum-times g (n ^ over) (n * n * n * n)
      ∙ ap (λ x. x * n ^ over) (sym (count-more p (n * n * n * n) many))

pub bytes : Bytes
bytes p many over l = bytes_of 256 many over l p
