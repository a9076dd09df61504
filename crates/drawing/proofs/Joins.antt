-- One-to-one correspondences put together: one row after another, a row many times over, and digits of a number. Assumes nothing.
use Rattle.std.proofs.Common.{◌≡◌, ℕ, zero, suc, ◌+◌, ◌*◌, ◌/◌, ◌%◌, ◌^◌, ◌<◌, Bool, true, false, ◌&&◌, T, ltb, List, [], ◌∷◌, ◌++◌, length, take, drop, replicate, sym, refl, ap, ◌∙◌, subst, mul-le-mul_right, mod-lt, mod-eq_of_lt, div-lt_iff_lt-mul, div-add-mod', arith, ltb→lt, lt→ltb}
use native.Mathlib.Nat.{pow-zero, pow-succ', one-le-pow, mul-add-mod_self_right, mul-add-div_right, div-eq_of_lt}
use Rattle.std.specs.List.{flat_map}
use Rattle.std.proofs.lemmas.List.{take_at, drop_at, take-append-drop}
use Rattle.drawing.specs.Drawing.{in_range, times, parts, number_of, digits_of}
use Rattle.drawing.specs.Uniform.{OneToOne}
use Rattle.drawing.proofs.Tests.{first, second, both}

-- a row in range is as long as its moduli
pub long : (ss ds : List ℕ) → T (in_range ss ds) → length ds ≡ length ss
unfolding in_range
long [] [] h = refl
long [] (d ∷ ds) h = absurd h
long (s ∷ ss) [] h = absurd h
long (s ∷ ss) (d ∷ ds) h = ap suc (long ss ds (second (ltb d s) (in_range ss ds) h))

-- a row for one list of moduli after another
and_assoc : (x y z : Bool) → (x && (y && z)) ≡ ((x && y) && z)
and_assoc true y z = refl
and_assoc false y z = refl

pub in_both : (ss tt ds : List ℕ) → in_range (ss ++ tt) ds ≡ (in_range ss (take (length ss) ds) && in_range tt (drop (length ss) ds))
unfolding in_range
in_both [] ts ds = refl
in_both (s ∷ ss) ts [] = refl
in_both (s ∷ ss) ts (d ∷ ds) = ap (λ x. ltb d s && x) (in_both ss ts ds) ∙ and_assoc (ltb d s) (in_range ss (take (length ss) ds)) (in_range ts (drop (length ss) ds))

in_join : (ss ts ds es : List ℕ) → T (in_range ss ds) → T (in_range ts es) → T (in_range (ss ++ ts) (ds ++ es))
unfolding in_range
in_join [] ts [] es g h = h
in_join [] ts (d ∷ ds) es g h = absurd g
in_join (s ∷ ss) ts [] es g h = absurd g
in_join (s ∷ ss) ts (d ∷ ds) es g h =
    both (ltb d s) (in_range (ss ++ ts) (ds ++ es)) (first (ltb d s) (in_range ss ds) g) (in_join ss ts ds es (second (ltb d s) (in_range ss ds) g) h)

module _ (ss ts ds : List ℕ) (h : T (in_range (ss ++ ts) ds)) where
  split_in : T (in_range ss (take (length ss) ds) && in_range ts (drop (length ss) ds))
  split_in = subst T (in_both ss ts ds) h

  take_in : T (in_range ss (take (length ss) ds))
  take_in = first (in_range ss (take (length ss) ds)) (in_range ts (drop (length ss) ds)) split_in

  drop_in : T (in_range ts (drop (length ss) ds))
  drop_in = second (in_range ss (take (length ss) ds)) (in_range ts (drop (length ss) ds)) split_in

-- pairs of things, with any way to make a pair and to take it apart
module _ {A B C : Type 0} (ss ts : List ℕ) (Is : A → Type 0) (Js : B → Type 0) (f : List ℕ → A) (g : A → List ℕ) (h : List ℕ → B) (k : B → List ℕ)
    (one : OneToOne ss Is f g) (two : OneToOne ts Js h k) (pair : A → B → C) (left : C → A) (right : C → B)
    (left-pair : (a : A) (b : B) → left (pair a b) ≡ a) (right-pair : (a : A) (b : B) → right (pair a b) ≡ b) (pair-both : (c : C) → pair (left c) (right c) ≡ c) where
  pub pairs : OneToOne (ss ++ ts) (λ c. Is (left c) × Js (right c)) (λ ds. pair (f (take (length ss) ds)) (h (drop (length ss) ds))) (λ c. g (left c) ++ k (right c))
  pairs = record {
    there_is = λ ds r. (subst Is (sym (left-pair _ _)) (one.there_is _ (take_in ss ts ds r)), subst Js (sym (right-pair _ _)) (two.there_is _ (drop_in ss ts ds r)));
    back_in = λ c r. in_join ss ts (g (left c)) (k (right c)) (one.back_in (left c) r.0) (two.back_in (right c) r.1);
    there_back = λ c r.
        let l = long ss (g (left c)) (one.back_in (left c) r.0) in
        let a = take_at (g (left c)) (k (right c)) (length ss) l in
        let b = drop_at (g (left c)) (k (right c)) (length ss) l in
        let p = one.there_back (left c) r.0 in
        let q = two.there_back (right c) r.1 in
        let z = pair-both c in
        cc;
    back_there = λ ds r.
        let p = left-pair (f (take (length ss) ds)) (h (drop (length ss) ds)) in
        let q = right-pair (f (take (length ss) ds)) (h (drop (length ss) ds)) in
        let x = one.back_there (take (length ss) ds) (take_in ss ts ds r) in
        let y = two.back_there (drop (length ss) ds) (drop_in ss ts ds r) in
        let z = take-append-drop (length ss) ds in
        cc;
  }

-- a fact of each thing of a list
abbrev pub Each : {A : Type 0} → (A → Type 0) → List A → Type 0
Each P [] = Unit {0}
Each P (x ∷ xs) = P x × Each P xs

abbrev pub SoMany : {A : Type 0} → (A → Type 0) → ℕ → List A → Type 0
SoMany Is r xs = (length xs ≡ r) × Each Is xs

-- rows of things
module _ {A : Type 0} (ss : List ℕ) (Is : A → Type 0) (f : List ℕ → A) (g : A → List ℕ) (one : OneToOne ss Is f g) where
  parts_are : (r : ℕ) (ds : List ℕ) → T (in_range (times r ss) ds) → SoMany Is r (parts f (length ss) r ds)
  unfolding times parts
  parts_are zero ds h = (refl, tt)
  parts_are (suc r) ds h =
      let q = parts_are r (drop (length ss) ds) (drop_in ss (times r ss) ds h) in
      (ap suc q.0, (one.there_is (take (length ss) ds) (take_in ss (times r ss) ds h), q.1))

  parts_in : (r : ℕ) (xs : List A) → SoMany Is r xs → T (in_range (times r ss) (flat_map g xs))
  unfolding times in_range
  parts_in zero [] h = tt
  parts_in zero (x ∷ xs) h = absurd (omega (arith, h.0))
  parts_in (suc r) [] h = absurd (omega (arith, h.0))
  parts_in (suc r) (x ∷ xs) h = in_join ss (times r ss) (g x) (flat_map g xs) (one.back_in x h.1.0) (parts_in r xs (omega (arith, h.0), h.1.1))

  parts-joined : (r : ℕ) (xs : List A) → SoMany Is r xs → parts f (length ss) r (flat_map g xs) ≡ xs
  unfolding parts
  parts-joined zero [] h = refl
  parts-joined zero (x ∷ xs) h = absurd (omega (arith, h.0))
  parts-joined (suc r) [] h = absurd (omega (arith, h.0))
  parts-joined (suc r) (x ∷ xs) h =
      let l = long ss (g x) (one.back_in x h.1.0) in
      let a = take_at (g x) (flat_map g xs) (length ss) l in
      let b = drop_at (g x) (flat_map g xs) (length ss) l in
      let p = one.there_back x h.1.0 in
      let q = parts-joined r xs (omega (arith, h.0), h.1.1) in
      cc

  joined-parts : (r : ℕ) (ds : List ℕ) → T (in_range (times r ss) ds) → flat_map g (parts f (length ss) r ds) ≡ ds
  unfolding times parts in_range
  joined-parts zero [] h = refl
  joined-parts zero (d ∷ ds) h = absurd h
  joined-parts (suc r) ds h =
      let p = one.back_there (take (length ss) ds) (take_in ss (times r ss) ds h) in
      let q = joined-parts r (drop (length ss) ds) (drop_in ss (times r ss) ds h) in
      let z = take-append-drop (length ss) ds in
      cc

  pub rows_of : (r : ℕ) → OneToOne (times r ss) (SoMany Is r) (parts f (length ss) r) (flat_map g)
  rows_of r = record { there_is = parts_are r; back_in = parts_in r; there_back = parts-joined r; back_there = joined-parts r }

-- another name for the kind of things
pub renamed : {A : Type 0} (ss : List ℕ) (Is Js : A → Type 0) (f : List ℕ → A) (g : A → List ℕ) → ((a : A) → Is a → Js a) → ((a : A) → Js a → Is a) →
    OneToOne ss Is f g → OneToOne ss Js f g
renamed ss Is Js f g to from one =
    record { there_is = λ ds h. to (f ds) (one.there_is ds h); back_in = λ a h. one.back_in a (from a h); there_back = λ a h. one.there_back a (from a h); back_there = one.back_there }

-- digits
number-below : (n j d y : ℕ) → d < n → y < n ^ j → d * n ^ j + y < n ^ suc j
number-below n j d y l h = rw pow-succ' (omega (arith, mul-le-mul_right (n ^ j) l))

length_digits : (n j x : ℕ) → length (digits_of n j x) ≡ j
unfolding digits_of
length_digits n zero x = refl
length_digits n (suc j) x = ap suc (length_digits n j (x % n ^ j))

number_are : (n j : ℕ) (ds : List ℕ) → T (in_range (replicate j n) ds) → (length ds ≡ j) × (number_of n ds < n ^ j)
unfolding in_range number_of
number_are n zero [] h = (refl, rw pow-zero (omega arith))
number_are n zero (d ∷ ds) h = absurd h
number_are n (suc j) [] h = absurd h
number_are n (suc j) (d ∷ ds) h =
    let q = number_are n j ds (second (ltb d n) (in_range (replicate j n) ds) h) in
    let l = ltb→lt d n (first (ltb d n) (in_range (replicate j n) ds) h) in
    (ap suc q.0, simp q.0 (number-below n j d (number_of n ds) l q.1))

digits_in : (n j x : ℕ) → 0 < n → x < n ^ j → T (in_range (replicate j n) (digits_of n j x))
unfolding in_range digits_of
digits_in n zero x p l = tt
digits_in n (suc j) x p l =
    let q : 0 < n ^ j = one-le-pow j n p in
    let m : x < n * n ^ j = rw pow-succ' at l in
    both (ltb (x / n ^ j) n) (in_range (replicate j n) (digits_of n j (x % n ^ j))) (lt→ltb (x / n ^ j) n ((div-lt_iff_lt-mul q).1 m)) (digits_in n j (x % n ^ j) p (mod-lt x q))

number_digits : (n j x : ℕ) → 0 < n → x < n ^ j → number_of n (digits_of n j x) ≡ x
unfolding number_of digits_of
number_digits n zero x p l = let m : x < 1 = rw pow-zero at l in omega arith
number_digits n (suc j) x p l =
    let q : 0 < n ^ j = one-le-pow j n p in
    simp (length_digits n j (x % n ^ j), number_digits n j (x % n ^ j) p (mod-lt x q)) (div-add-mod' x (n ^ j))

digits_step : (n j d y : ℕ) → 0 < n → y < n ^ j → digits_of n (suc j) (d * n ^ j + y) ≡ d ∷ digits_of n j y
unfolding digits_of
digits_step n j d y p l =
    let q : 0 < n ^ j = one-le-pow j n p in
    let a : (d * n ^ j + y) / n ^ j ≡ d = mul-add-div_right q d y ∙ omega (arith, div-eq_of_lt l) in
    let b : (d * n ^ j + y) % n ^ j ≡ y = mul-add-mod_self_right d (n ^ j) y ∙ mod-eq_of_lt l in
    simp (a, b)

digits_number : (n j : ℕ) (ds : List ℕ) → 0 < n → T (in_range (replicate j n) ds) → digits_of n j (number_of n ds) ≡ ds
unfolding in_range number_of digits_of
digits_number n zero [] p h = refl
digits_number n zero (d ∷ ds) p h = absurd h
digits_number n (suc j) [] p h = absurd h
digits_number n (suc j) (d ∷ ds) p h =
    let k = second (ltb d n) (in_range (replicate j n) ds) h in
    let q = number_are n j ds k in
    ap (λ i. digits_of n (suc j) (d * n ^ i + number_of n ds)) q.0 ∙ digits_step n j d (number_of n ds) p q.1 ∙ ap (λ es. d ∷ es) (digits_number n j ds p k)

pub digits : (n j : ℕ) → 0 < n → OneToOne (replicate j n) (λ x. T (ltb x (n ^ j))) (number_of n) (digits_of n j)
digits n j p =
    record {
      there_is = λ ds h. lt→ltb (number_of n ds) (n ^ j) (number_are n j ds h).1;
      back_in = λ x h. digits_in n j x p (ltb→lt x (n ^ j) h);
      there_back = λ x h. number_digits n j x p (ltb→lt x (n ^ j) h);
      back_there = λ ds h. digits_number n j ds p h;
    }
