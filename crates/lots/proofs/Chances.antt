-- Chances: no value of four bytes is passed over for a number below 2 ^ 32, and the bytes of a chance are its values. Assumes nothing.
use Rattle.std.proofs.Common.{◌≡◌, ℕ, zero, suc, ◌+◌, ◌*◌, ◌%◌, ◌^◌, ◌<◌, Bool, true, false, cond, T, ltb, leb, List, [], ◌∷◌, ◌++◌, length, take, drop, replicate, sym, refl, ap, ◌∙◌, mod-eq_of_lt, arith, ltb→lt, length-drop, length-take}
use native.Mathlib.Nat.{pow-succ'}
use lib.ListN.{replicate-append-replicate}
use Rattle.std.proofs.lemmas.Bool.{lt-ltb, le-leb, lt-leb}
use Rattle.std.proofs.lemmas.Bool.Decides.{nat_tests}
use Rattle.paths.specs.Plan.{all_below}
use Rattle.drawing.specs.Drawing.{limit, Drawn, drew, short, more, values_of, times, parts, chance_moduli, number_of}
use Rattle.drawing.proofs.Tests.{first, second, both}
use Rattle.lots.specs.Lots.{drawn}
use Rattle.lots.proofs.Draws.{value, length_values, drawn-none, drawn-short, drawn-four}

pub below-drop : (n k : ℕ) (bs : List ℕ) → T (all_below n bs) → T (all_below n (drop k bs))
unfolding all_below
below-drop n zero bs h = h
below-drop n (suc k) [] h = h
below-drop n (suc k) (b ∷ bs) h = below-drop n k bs (second (ltb b n) (all_below n bs) h)

pub below-take : (n k : ℕ) (bs : List ℕ) → T (all_below n bs) → T (all_below n (take k bs))
unfolding all_below
below-take n zero bs h = tt
below-take n (suc k) [] h = tt
below-take n (suc k) (b ∷ bs) h = both (ltb b n) (all_below n (take k bs)) (first (ltb b n) (all_below n bs) h) (below-take n k bs (second (ltb b n) (all_below n bs) h))

value_below : (a b c d : ℕ) (bs : List ℕ) → T (all_below 256 (a ∷ b ∷ c ∷ d ∷ bs)) → value a b c d < 2 ^ 32
unfolding all_below
value_below a b c d bs h =
    let h1 = second (ltb a 256) (all_below 256 (b ∷ c ∷ d ∷ bs)) h in
    let h2 = second (ltb b 256) (all_below 256 (c ∷ d ∷ bs)) h1 in
    let h3 = second (ltb c 256) (all_below 256 (d ∷ bs)) h2 in
    let p = ltb→lt a 256 (first (ltb a 256) (all_below 256 (b ∷ c ∷ d ∷ bs)) h) in
    let q = ltb→lt b 256 (first (ltb b 256) (all_below 256 (c ∷ d ∷ bs)) h1) in
    let r = ltb→lt c 256 (first (ltb c 256) (all_below 256 (d ∷ bs)) h2) in
    let s = ltb→lt d 256 (first (ltb d 256) (all_below 256 bs) h3) in
    omega arith

four-more : (k : ℕ) → 4 * suc k ≡ suc (suc (suc (suc (4 * k))))
four-more k = omega arith

-- values of bytes, as they are, where there are so many
abbrev taken : ℕ → List ℕ → Drawn
taken n bs = cond (leb (4 * n) (length bs)) (drew (values_of 256 (take (4 * n) bs)) (drop (4 * n) bs)) short

taken_short : (n : ℕ) (bs : List ℕ) → length bs < 4 → drawn (replicate (suc n) (2 ^ 32)) bs ≡ taken (suc n) bs
taken_short n bs l =
    drawn-short (2 ^ 32) (replicate n (2 ^ 32)) bs l
    ∙ sym (ap (λ t. cond t (drew (values_of 256 (take (4 * suc n) bs)) (drop (4 * suc n) bs)) short) (lt-leb (4 * suc n) (length bs) (omega arith)))

more_taken : (v : ℕ) (t : Bool) (ds left : List ℕ) → more v (cond t (drew ds left) short) ≡ cond t (drew (v ∷ ds) left) short
more_taken v true ds left = refl
more_taken v false ds left = refl

taken_four : (n a b c d : ℕ) (bs : List ℕ) → more (value a b c d) (taken n bs) ≡ taken (suc n) (a ∷ b ∷ c ∷ d ∷ bs)
unfolding values_of
taken_four n a b c d bs =
    let f : leb (4 * n) (length bs) ≡ leb (suc (suc (suc (suc (4 * n))))) (suc (suc (suc (suc (length bs))))) = grind (arith, nat_tests) in
    more_taken (value a b c d) (leb (4 * n) (length bs)) (values_of 256 (take (4 * n) bs)) (drop (4 * n) bs)
    ∙ ap (λ t. cond t (drew (value a b c d ∷ values_of 256 (take (4 * n) bs)) (drop (4 * n) bs)) short) f
    ∙ ap (λ k. cond (leb k (suc (suc (suc (suc (length bs)))))) (drew (values_of 256 (take k (a ∷ b ∷ c ∷ d ∷ bs))) (drop k (a ∷ b ∷ c ∷ d ∷ bs))) short) (sym (four-more n))

drawn_taken : (n : ℕ) (bs : List ℕ) → T (all_below 256 bs) → drawn (replicate n (2 ^ 32)) bs ≡ taken n bs
unfolding values_of all_below
drawn_taken zero bs h = drawn-none bs ∙ sym (ap (λ t. cond t (drew [] bs) short) (le-leb 0 (length bs) (omega arith)))
drawn_taken (suc n) [] h = taken_short n [] (omega arith)
drawn_taken (suc n) (a ∷ []) h = taken_short n (a ∷ []) (omega arith)
drawn_taken (suc n) (a ∷ b ∷ []) h = taken_short n (a ∷ b ∷ []) (omega arith)
drawn_taken (suc n) (a ∷ b ∷ c ∷ []) h = taken_short n (a ∷ b ∷ c ∷ []) (omega arith)
drawn_taken (suc n) (a ∷ b ∷ c ∷ d ∷ bs) h =
    let l = value_below a b c d bs h in
    let v = value a b c d in
    drawn-four (2 ^ 32) (replicate n (2 ^ 32)) a b c d bs
    ∙ ap (λ t. cond t (more (v % 2 ^ 32) (drawn (replicate n (2 ^ 32)) bs)) (drawn (replicate (suc n) (2 ^ 32)) bs)) (lt-ltb v (limit (2 ^ 32) (2 ^ 32)) l)
    ∙ ap (λ x. more x (drawn (replicate n (2 ^ 32)) bs)) (mod-eq_of_lt l)
    ∙ ap (more v) (drawn_taken n bs (below-drop 256 4 (a ∷ b ∷ c ∷ d ∷ bs) h))
    ∙ taken_four n a b c d bs

times-chance : (n : ℕ) → times n chance_moduli ≡ replicate (8 * n) (2 ^ 32)
unfolding times
times-chance zero = refl
times-chance (suc n) =
    let e : 8 + 8 * n ≡ 8 * suc n = omega arith in
    ap (λ xs. chance_moduli ++ xs) (times-chance n) ∙ replicate-append-replicate 8 (8 * n) (2 ^ 32) ∙ ap (λ k. replicate k (2 ^ 32)) e

-- what is drawn for n chances is the next 32 n bytes
pub drawn-chances : (n : ℕ) (bs : List ℕ) → T (all_below 256 bs) →
    drawn (times n chance_moduli) bs ≡ cond (leb (32 * n) (length bs)) (drew (values_of 256 (take (32 * n) bs)) (drop (32 * n) bs)) short
drawn-chances n bs h =
    let e : 4 * (8 * n) ≡ 32 * n = omega arith in
    ap (λ ss. drawn ss bs) (times-chance n) ∙ drawn_taken (8 * n) bs h
    ∙ ap (λ k. cond (leb k (length bs)) (drew (values_of 256 (take k bs)) (drop k bs)) short) e

-- the values of a part of the bytes
take_values : (k : ℕ) (bs : List ℕ) → take k (values_of 256 bs) ≡ values_of 256 (take (4 * k) bs)
unfolding values_of
take_values zero bs = refl
take_values (suc k) [] = rw four-more
take_values (suc k) (a ∷ []) = rw four-more
take_values (suc k) (a ∷ b ∷ []) = rw four-more
take_values (suc k) (a ∷ b ∷ c ∷ []) = rw four-more
take_values (suc k) (a ∷ b ∷ c ∷ d ∷ bs) = rw four-more (ap (λ vs. value a b c d ∷ vs) (take_values k bs))

drop_values : (k : ℕ) (bs : List ℕ) → drop k (values_of 256 bs) ≡ values_of 256 (drop (4 * k) bs)
unfolding values_of
drop_values zero bs = refl
drop_values (suc k) [] = rw four-more
drop_values (suc k) (a ∷ []) = rw four-more
drop_values (suc k) (a ∷ b ∷ []) = rw four-more
drop_values (suc k) (a ∷ b ∷ c ∷ []) = rw four-more
drop_values (suc k) (a ∷ b ∷ c ∷ d ∷ bs) = rw four-more (drop_values k bs)

-- the values of bytes and the bytes are digits of one number
powers : (j : ℕ) → (2 ^ 32) ^ j ≡ 256 ^ (4 * j)
powers zero = refl
powers (suc j) = let h = powers j in simp (four-more, pow-succ') (omega arith)

shifted : (a b c d p rest : ℕ) → value a b c d * p + rest ≡ a * (256 * (256 * (256 * p))) + (b * (256 * (256 * p)) + (c * (256 * p) + (d * p + rest)))
shifted a b c d p rest = omega arith

number_values : (j : ℕ) (bs : List ℕ) → length bs ≡ 4 * j → number_of (2 ^ 32) (values_of 256 bs) ≡ number_of 256 bs
unfolding values_of number_of
number_values zero [] l = refl
number_values zero (b ∷ bs) l = absurd (omega arith)
number_values (suc j) [] l = absurd (omega arith)
number_values (suc j) (a ∷ []) l = absurd (omega arith)
number_values (suc j) (a ∷ b ∷ []) l = absurd (omega arith)
number_values (suc j) (a ∷ b ∷ c ∷ []) l = absurd (omega arith)
number_values (suc j) (a ∷ b ∷ c ∷ d ∷ bs) l =
    let h = number_values j bs (omega arith) in
    let k : length (values_of 256 bs) ≡ j = omega (arith, length_values bs) in
    let m : length bs ≡ 4 * j = omega arith in
    let p = powers j in
    simp (k, m, pow-succ', p, h) (shifted a b c d (256 ^ (4 * j)) (number_of 256 bs))

pub chance_numbers : (n : ℕ) (bs : List ℕ) → length bs ≡ 32 * n → parts (number_of (2 ^ 32)) 8 n (values_of 256 bs) ≡ parts (number_of 256) 32 n bs
unfolding parts
chance_numbers zero bs l = refl
chance_numbers (suc n) bs l =
    let e = take_values 8 bs in
    let f = drop_values 8 bs in
    let g = number_values 8 (take 32 bs) (simp length-take (omega arith)) in
    let h = chance_numbers n (drop 32 bs) (simp length-drop (omega arith)) in
    cc
