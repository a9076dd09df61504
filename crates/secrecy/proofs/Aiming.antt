-- Bytes from which numbers are drawn, written anew and aimed at other numbers: what they draw then, and aimed back. Assumes nothing.
use Rattle.std.proofs.Common.{◌≡◌, ℕ, suc, ◌+◌, ◌*◌, ◌/◌, ◌%◌, ◌^◌, ◌<◌, Bool, true, false, T, ltb, List, [], ◌∷◌, ◌++◌, length, sym, refl, ap, ◌∙◌, div-add-mod', arith, ltb→lt, lt→ltb}
use lib.Ieee.Fits.{and_i, and_l, and_r}
use Rattle.std.proofs.lemmas.Bool.{lt-ltb, ltb-true}
use Rattle.paths.specs.Plan.{all_below}
use Rattle.paths.proofs.Rows.{below_parts}
use Rattle.drawing.specs.Drawing.{limit, Drawn, drew, short, more, values_of, in_range, aim}
use Rattle.drawing.specs.Uniform.{instead}
use Rattle.drawing.proofs.Aiming.{aimed_used, aimed-mod, aimed-div}
use Rattle.lots.specs.Lots.{drawn}
use Rattle.lots.proofs.Draws.{value, drawn-none, drawn-short, drawn-four}
use Rattle.words.specs.Writing.{long_bytes}
use Rattle.secrecy.specs.Drawn.{Pen, aimed, rewrite, AimsValues}

-- four bytes and their value
value_long : (x : ℕ) → x < 2 ^ 32 → value (x / 65536 / 256 % 256) (x / 65536 % 256) (x / 256 % 256) (x % 256) ≡ x
value_long x h = omega arith

long_value : (a b c d : ℕ) → a < 256 → b < 256 → c < 256 → d < 256 → long_bytes (value a b c d) ≡ a ∷ b ∷ c ∷ d ∷ []
long_value a b c d i j k l =
    let v = value a b c d in
    let e : v / 65536 / 256 % 256 ≡ a = omega arith in
    let f : v / 65536 % 256 ≡ b = omega arith in
    let g : v / 256 % 256 ≡ c = omega arith in
    let h : v % 256 ≡ d = omega arith in
    cc

-- what holds by the moduli, the numbers wanted and the bytes: four at a time, which are used or passed over
abbrev is_used : ℕ → ℕ → ℕ → ℕ → ℕ → Bool
is_used s a b c d = ltb (value a b c d) (limit (2 ^ 32) s)

module _ (P : List ℕ → List ℕ → List ℕ → Type 0) (none : (bs : List ℕ) → P [] [] bs) (few : (s e : ℕ) (ss es bs : List ℕ) → length bs < 4 → P (s ∷ ss) (e ∷ es) bs)
    (used : (s e : ℕ) (ss es : List ℕ) (a b c d : ℕ) (bs : List ℕ) → e < s → is_used s a b c d ≡ true → P ss es bs → P (s ∷ ss) (e ∷ es) (a ∷ b ∷ c ∷ d ∷ bs))
    (over : (s e : ℕ) (ss es : List ℕ) (a b c d : ℕ) (bs : List ℕ) → is_used s a b c d ≡ false → P (s ∷ ss) (e ∷ es) bs → P (s ∷ ss) (e ∷ es) (a ∷ b ∷ c ∷ d ∷ bs)) where
  by_fours : (ss es : List ℕ) → T (in_range ss es) → (bs : List ℕ) → P ss es bs
  unfolding in_range
  by_fours [] [] h bs = none bs
  by_fours [] (e ∷ es) h bs = absurd h
  by_fours (s ∷ ss) [] h bs = absurd h
  by_fours (s ∷ ss) (e ∷ es) h [] = few s e ss es [] (omega arith)
  by_fours (s ∷ ss) (e ∷ es) h (a ∷ []) = few s e ss es (a ∷ []) (omega arith)
  by_fours (s ∷ ss) (e ∷ es) h (a ∷ b ∷ []) = few s e ss es (a ∷ b ∷ []) (omega arith)
  by_fours (s ∷ ss) (e ∷ es) h (a ∷ b ∷ c ∷ []) = few s e ss es (a ∷ b ∷ c ∷ []) (omega arith)
  by_fours (s ∷ ss) (e ∷ es) h (a ∷ b ∷ c ∷ d ∷ bs) = go (is_used s a b c d) refl (by_fours ss es (and_r (ltb e s) _ h) bs) (by_fours (s ∷ ss) (e ∷ es) h bs)
    where
      go : (t : Bool) → is_used s a b c d ≡ t → P ss es bs → P (s ∷ ss) (e ∷ es) bs → P (s ∷ ss) (e ∷ es) (a ∷ b ∷ c ∷ d ∷ bs)
      go true q g k = used s e ss es a b c d bs (ltb→lt e s (and_l _ _ h)) q g
      go false q g k = over s e ss es a b c d bs q k

module _ (s : ℕ) (ss : List ℕ) where
  drawn_used : (x : ℕ) → x < limit (2 ^ 32) s → (bs : List ℕ) → drawn (s ∷ ss) (long_bytes x ++ bs) ≡ more (x % s) (drawn ss bs)
  drawn_used x h bs =
      let e = value_long x (omega arith) in
      drawn-four s ss (x / 65536 / 256 % 256) (x / 65536 % 256) (x / 256 % 256) (x % 256) bs ∙ rw (e, lt-ltb x (limit (2 ^ 32) s) h) refl

  module _ (pen : Pen) (after : List ℕ → List ℕ) (e : ℕ) (es : List ℕ) where
    rewrite_used : (x : ℕ) → x < limit (2 ^ 32) s → (bs : List ℕ) → rewrite pen after (s ∷ ss) (e ∷ es) (long_bytes x ++ bs) ≡ pen s e x ++ rewrite pen after ss es bs
    unfolding rewrite
    rewrite_used x h bs = let q = value_long x (omega arith) in let u = lt-ltb x (limit (2 ^ 32) s) h in simp (q, u)

    rewrite-few : (bs : List ℕ) → length bs < 4 → rewrite pen after (s ∷ ss) (e ∷ es) bs ≡ bs
    unfolding rewrite
    rewrite-few [] h = refl
    rewrite-few (a ∷ []) h = refl
    rewrite-few (a ∷ b ∷ []) h = refl
    rewrite-few (a ∷ b ∷ c ∷ []) h = refl
    rewrite-few (a ∷ b ∷ c ∷ d ∷ bs) h = absurd (omega arith)

-- aimed bytes draw the numbers that they are aimed at
more-instead : (e : ℕ) (es : List ℕ) (after : List ℕ → List ℕ) (d : ℕ) (r : Drawn) → more e (instead es after r) ≡ instead (e ∷ es) after (more d r)
more-instead e es after d (drew ds left) = refl
more-instead e es after d short = refl

pub aim-draws : (after : List ℕ → List ℕ) (ss es : List ℕ) → T (in_range ss es) → (bs : List ℕ) → drawn ss (rewrite aimed after ss es bs) ≡ instead es after (drawn ss bs)
unfolding rewrite
aim-draws after =
    by_fours (λ ss es bs. drawn ss (rewrite aimed after ss es bs) ≡ instead es after (drawn ss bs)) (λ bs. drawn-none (after bs) ∙ sym (ap (instead [] after) (drawn-none bs)))
    (λ s e ss es bs l. rw (rewrite-few s ss aimed after e es bs l, drawn-short s ss bs l) refl)
    (λ s e ss es a b c d bs h q g.
    let v = value a b c d in
    rw (drawn-four s ss a b c d bs, q) (
    drawn_used s ss (v / s * s + e) (aimed_used (2 ^ 32) s v e h (ltb-true _ _ q)) _
    ∙ ap (λ x. more x (drawn ss (rewrite aimed after ss es bs))) (aimed-mod s v e h)
    ∙ ap (more e) g
    ∙ more-instead e es after (v % s) (drawn ss bs)))
    (λ s e ss es a b c d bs q g. rw (drawn-four s ss a b c d bs, q) (drawn-four s ss a b c d _ ∙ rw q g))

-- written anew by the quotient alone, it makes no difference whether they were aimed before
pub aim-first : (pen : Pen) → ((s x v e : ℕ) → e < s → pen s x (v / s * s + e) ≡ pen s x v) → (one two both : List ℕ → List ℕ) → ((bs : List ℕ) → two (one bs) ≡ both bs) →
    (ss es : List ℕ) → T (in_range ss es) → (bs ds : List ℕ) → length ds ≡ length ss → rewrite pen two ss ds (rewrite aimed one ss es bs) ≡ rewrite pen both ss ds bs
unfolding rewrite
aim-first pen same one two both after =
    by_fours (λ ss es bs. (ds : List ℕ) → length ds ≡ length ss → rewrite pen two ss ds (rewrite aimed one ss es bs) ≡ rewrite pen both ss ds bs) (λ bs ds l. after bs)
    (λ s e ss es bs l. elim [ [] ↦ λ k. absurd (omega arith) | d ∷ ds ↦ λ k. rw (rewrite-few s ss aimed one e es bs l, rewrite-few s ss pen two d ds bs l, rewrite-few s ss pen both d ds bs l) refl ])
    (λ s e ss es a b c d bs h q g. elim [
      | [] ↦ λ k. absurd (omega arith)
      | x ∷ xs ↦ λ k.
          let v = value a b c d in
          rw q (
          rewrite_used s ss pen two x xs (v / s * s + e) (aimed_used (2 ^ 32) s v e h (ltb-true _ _ q)) _
          ∙ ap (λ ys. ys ++ rewrite pen two ss xs (rewrite aimed one ss es bs)) (same s x v e h)
          ∙ ap (λ ys. pen s x v ++ ys) (g xs (omega arith)))
    ])
    (λ s e ss es a b c d bs q g. elim [ [] ↦ λ k. absurd (omega arith) | x ∷ xs ↦ λ k. rw (q, q) (ap (λ ys. a ∷ b ∷ c ∷ d ∷ ys) (g (x ∷ xs) k)) ])

pub aimed_quotient : (s x v e : ℕ) → e < s → aimed s x (v / s * s + e) ≡ aimed s x v
aimed_quotient s x v e h = ap (λ y. long_bytes (y * s + x)) (aimed-div s v e h)

-- bytes, four more
record Four (a b c d : ℕ) (bs : List ℕ) : Type 0 where
  one : a < 256
  two : b < 256
  three : c < 256
  last : d < 256
  rest : T (all_below 256 bs)

four_below : (a b c d : ℕ) (bs : List ℕ) → T (all_below 256 (a ∷ b ∷ c ∷ d ∷ bs)) → Four a b c d bs
four_below a b c d bs h =
    let i = below_parts 256 a _ h in
    let j = below_parts 256 b _ i.1 in
    let k = below_parts 256 c _ j.1 in
    let l = below_parts 256 d bs k.1 in
    record { one = i.0; two = j.0; three = k.0; last = l.0; rest = l.1 }

below-four : (a b c d : ℕ) (bs : List ℕ) → Four a b c d bs → T (all_below 256 (a ∷ b ∷ c ∷ d ∷ bs))
unfolding all_below
below-four a b c d bs h =
    and_i _ _ (lt→ltb a 256 h.one) (and_i _ _ (lt→ltb b 256 h.two) (and_i _ _ (lt→ltb c 256 h.three) (and_i _ _ (lt→ltb d 256 h.last) h.rest)))

-- aimed at what they draw, bytes stay
own_more : (d : ℕ) (r : Drawn) (e : ℕ) (es left : List ℕ) → more d r ≡ drew (e ∷ es) left → (d ≡ e) × (r ≡ drew es left)
own_more d (drew ds rest) e es left h = (cc, cc)
own_more d short e es left h = let z : ◌≡◌ {A = ℕ} 0 1 = cc in absurd (omega arith)

pub aim_own : (after : List ℕ → List ℕ) (ss ds : List ℕ) → T (in_range ss ds) → (bs left : List ℕ) → T (all_below 256 bs) → drawn ss bs ≡ drew ds left → after left ≡ left →
    rewrite aimed after ss ds bs ≡ bs
unfolding rewrite
aim_own after =
    by_fours (λ ss ds bs. (left : List ℕ) → T (all_below 256 bs) → drawn ss bs ≡ drew ds left → after left ≡ left → rewrite aimed after ss ds bs ≡ bs)
    (λ bs left b h k. let e = drawn-none bs in let f : bs ≡ left = cc in rw f k)
    (λ s e ss es bs l left b g k. rewrite-few s ss aimed after e es bs l)
    (λ s e ss es a b c d bs h q g left low k own.
    let f = four_below a b c d bs low in
    let v = value a b c d in
    let m = own_more (v % s) (drawn ss bs) e es left (rw q at (sym (drawn-four s ss a b c d bs) ∙ k)) in
    let x : v / s * s + e ≡ v = omega (arith, div-add-mod' v s, m.0) in
    rw (q, x) (ap (λ ys. long_bytes v ++ ys) (g left f.rest m.1 own) ∙ ap (λ xs. xs ++ bs) (long_value a b c d f.one f.two f.three f.last)))
    (λ s e ss es a b c d bs q g left low k own.
    rw q (ap (λ ys. a ∷ b ∷ c ∷ d ∷ ys) (g left (four_below a b c d bs low).rest (rw q at (sym (drawn-four s ss a b c d bs) ∙ k)) own)))

-- they are as many, and still bytes
pub aim-long : (after : List ℕ → List ℕ) → ((bs : List ℕ) → length (after bs) ≡ length bs) → (ss es : List ℕ) → T (in_range ss es) → (bs : List ℕ) →
    length (rewrite aimed after ss es bs) ≡ length bs
unfolding rewrite
aim-long after long =
    by_fours (λ ss es bs. length (rewrite aimed after ss es bs) ≡ length bs) long (λ s e ss es bs l. ap length (rewrite-few s ss aimed after e es bs l))
    (λ s e ss es a b c d bs h q g. rw q (ap (λ n. suc (suc (suc (suc n)))) g)) (λ s e ss es a b c d bs q g. rw q (ap (λ n. suc (suc (suc (suc n)))) g))

pub aim-below : (after : List ℕ → List ℕ) → ((bs : List ℕ) → T (all_below 256 bs) → T (all_below 256 (after bs))) → (ss es : List ℕ) → T (in_range ss es) → (bs : List ℕ) →
    T (all_below 256 bs) → T (all_below 256 (rewrite aimed after ss es bs))
unfolding rewrite
aim-below after below =
    by_fours (λ ss es bs. T (all_below 256 bs) → T (all_below 256 (rewrite aimed after ss es bs))) below (λ s e ss es bs l b. rw (rewrite-few s ss aimed after e es bs l) b)
    (λ s e ss es a b c d bs h q g low.
    rw q (below-four _ _ _ _ _ (record { one = omega arith; two = omega arith; three = omega arith; last = omega arith; rest = g (four_below a b c d bs low).rest })))
    (λ s e ss es a b c d bs q g low.
    let f = four_below a b c d bs low in
    rw q (below-four a b c d _ (record { one = f.one; two = f.two; three = f.three; last = f.last; rest = g f.rest })))

-- their values are aimed
pub aims_values : AimsValues
unfolding rewrite values_of aim
aims_values =
    by_fours (λ ss es bs. values_of 256 (rewrite aimed (λ left. left) ss es bs) ≡ aim (2 ^ 32) ss es (values_of 256 bs)) (λ bs. refl)
    (λ s e ss es bs l. rw (rewrite-few s ss aimed (λ left. left) e es bs l) (few s e ss es bs l))
    (λ s e ss es a b c d bs h q g.
    let v = value a b c d in
    let u = aimed_used (2 ^ 32) s v e h (ltb-true _ _ q) in
    rw (q, value_long (v / s * s + e) (omega arith)) (ap (λ vs. (v / s * s + e) ∷ vs) g))
    (λ s e ss es a b c d bs q g. rw q (ap (λ vs. value a b c d ∷ vs) g))
  where
    few : (s e : ℕ) (ss es bs : List ℕ) → length bs < 4 → values_of 256 bs ≡ aim (2 ^ 32) (s ∷ ss) (e ∷ es) (values_of 256 bs)
    few s e ss es [] l = refl
    few s e ss es (a ∷ []) l = refl
    few s e ss es (a ∷ b ∷ []) l = refl
    few s e ss es (a ∷ b ∷ c ∷ []) l = refl
    few s e ss es (a ∷ b ∷ c ∷ d ∷ bs) l = absurd (omega arith)
