-- A list of two parts, and parts put one after the other. Assumes nothing.
use Rattle.std.proofs.Common.{◌≡◌, ℕ, zero, suc, mul-zero, mul-suc, get_or, ◌<◌, ◌+◌, ◌-◌, ◌*◌, ◌≤◌, List, [], ◌++◌, length, take, drop, sym, refl, ap, ◌∙◌, mul-add, arith}
use Rattle.std.specs.Simd.{first_chunks}
use borrow.Rule.Slice.PartMut.{put_mid}
use Rattle.std.proofs.lemmas.List.{append_assoc, append-nil, drop_all, drop_at, drop-drop, length-append, length-drop, length-take-le, take-append-drop, take_at, take_rest}

-- equal lists whose fronts have one length are equal part by part
pub same_parts : {X : Type 0} (a b c d : List X) → length a ≡ length b → a ++ c ≡ b ++ d → (a ≡ b) × (c ≡ d)
same_parts a b c d l e = (
  sym (take_at a c (length a) refl) ∙ ap (take (length a)) e ∙ take_at b d (length a) (sym l),
  sym (drop_at a c (length a) refl) ∙ ap (drop (length a)) e ∙ drop_at b d (length a) (sym l),
)

-- b put behind a
pub put_next : {X : Type 0} (a rest b : List X) (i n : ℕ) → length a ≡ i → put_mid i n (a ++ rest) b ≡ a ++ (b ++ drop n rest)
put_next a rest b i n l =
    let t = take_at a rest i l in
    let d = ap (drop n) (drop_at a rest i l) in
    cc

-- where it fills what is left
pub put_end : {X : Type 0} (a rest b : List X) (i n : ℕ) → length a ≡ i → length rest ≤ n → put_mid i n (a ++ rest) b ≡ a ++ b
put_end a rest b i n l h = put_next a rest b i n l ∙ ap (λ xs. a ++ xs) (ap (λ xs. b ++ xs) (drop_all n rest h) ∙ append-nil b)

-- chunk j of those that a list is cut into
pub first_chunks_at : {X : Type 0} (n k : ℕ) (xs : List X) (j : ℕ) → j < k → get_or (first_chunks n k xs) j [] ≡ take n (drop (n * j) xs)
first_chunks_at n zero xs j h = absurd (omega arith)
first_chunks_at n (suc k) xs zero h = rw (mul-zero n) refl
first_chunks_at n (suc k) xs (suc j) h = first_chunks_at n k (drop n xs) j (omega arith) ∙ let e : n + n * j ≡ n * suc j = omega (arith, mul-suc n j) in ap (take n) (drop-drop (n * j) n xs ∙ ap (λ i. drop i xs) e)

-- parts of w elements put one after the other: what stands so far, and what is left as it was
pub record Put {X : Type 0} (w i : ℕ) (done out was : List X) : Type 0 where
  pub front : take (w * i) out ≡ done
  pub rest : drop (w * i) out ≡ drop (w * i) was
  pub within : w * i ≤ length out

pub put-none : {X : Type 0} (w : ℕ) (out : List X) → Put w 0 [] out out
put-none w out = record { front = let e : w * 0 ≡ 0 = omega arith in rw e; rest = refl; within = omega arith }

-- `more` is put to the front of what is left, over n places of w elements: `last` is what that part then holds
pub put-more : {X : Type 0} (w i n k : ℕ) (done more out was last : List X) → k ≡ w * n → w * i + k ≤ length out → length more ≡ k →
    last ≡ more ++ drop k (take (length out - w * i) (drop (w * i) out)) → Put w i done out was →
    Put w (i + n) (done ++ more) (put_mid (w * i) (length out - w * i) out last) was
put-more w i n k done more out was last ek h l el p =
    let e : w * (i + n) ≡ w * i + k = mul-add w i n ∙ ap (λ x. w * i + x) (sym ek) in
    let t : length (take (w * i) out) ≡ w * i = length-take-le (w * i) out (omega arith) in
    let u : length (take (w * i) out ++ more) ≡ w * (i + n) = simp (length-append, t, l) (sym e) in
    let r : drop k (drop (w * i) out) ≡ drop (w * (i + n)) was = rw (p.rest, drop-drop k (w * i) was, e) in
    let f : put_mid (w * i) (length out - w * i) out last ≡ (take (w * i) out ++ more) ++ drop k (drop (w * i) out) =
    rw (el, take_rest out (w * i), drop_all (length out - w * i) (drop (w * i) out) (simp length-drop (omega arith)), append-nil) (sym (append_assoc (take (w * i) out) more _)) in
    rw f (record {
      front = take_at _ _ _ u ∙ ap (λ x. x ++ more) p.front;
      rest = drop_at _ _ _ u ∙ r;
      within = simp (length-append, length-drop, t, l) (omega (arith, e));
    })

pub put_all : {X : Type 0} (w i : ℕ) (done out was : List X) → Put w i done out was → out ≡ done ++ drop (w * i) was
put_all w i done out was p = sym (take-append-drop (w * i) out) ∙ (rw (p.front, p.rest))
