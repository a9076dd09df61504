-- Drawing from bytes, four at a time: what is left over is what follows. Assumes nothing.
use Rattle.std.proofs.Common.{◌≡◌, ℕ, suc, ◌+◌, ◌-◌, ◌*◌, ◌/◌, ◌%◌, ◌^◌, ◌<◌, ◌≤◌, Bool, true, false, cond, ltb, List, [], ◌∷◌, ◌++◌, length, drop, sym, refl, ap, ◌∙◌, arith}
use Rattle.drawing.specs.Drawing.{limit, Drawn, drew, short, more, onto, and_then, draw, values_of}
use Rattle.lots.specs.Lots.{on_bytes, drawn}
use Rattle.lots.specs.Laws.{BytesInTurn}

-- four bytes as a value
abbrev pub value : ℕ → ℕ → ℕ → ℕ → ℕ
value a b c d = ((a * 256 + b) * 256 + c) * 256 + d

pub length_values : (bs : List ℕ) → length (values_of 256 bs) ≡ length bs / 4
unfolding values_of
length_values [] = refl
length_values (a ∷ []) = refl
length_values (a ∷ b ∷ []) = refl
length_values (a ∷ b ∷ c ∷ []) = refl
length_values (a ∷ b ∷ c ∷ d ∷ bs) = let h = length_values bs in omega arith

-- a fact of what was drawn, where the values were enough
abbrev pub OfDrawn : (List ℕ → List ℕ → Type 0) → Drawn → Type 0
OfDrawn P (drew ds left) = P ds left
OfDrawn P short = Unit {0}

-- as many numbers as moduli, and no more values left over than there were
abbrev Long : List ℕ → List ℕ → Drawn → Type 0
Long ss vs r = OfDrawn (λ ds left. (length ds ≡ length ss) × (length left ≤ length vs)) r

long : (n : ℕ) (ss vs : List ℕ) → Long ss vs (draw n ss vs)
unfolding draw
long n [] vs = (refl, omega arith)
long n (s ∷ ss) [] = tt
long n (s ∷ ss) (v ∷ vs) = go (ltb v (limit n s)) (draw n ss vs) (draw n (s ∷ ss) vs) (long n ss vs) (long n (s ∷ ss) vs)
  where
    used : (r : Drawn) → Long ss vs r → Long (s ∷ ss) (v ∷ vs) (more (v % s) r)
    used (drew ds left) h = (ap suc h.0, omega (arith, h.1))
    used short h = tt

    over : (r : Drawn) → Long (s ∷ ss) vs r → Long (s ∷ ss) (v ∷ vs) r
    over (drew ds left) h = (h.0, omega (arith, h.1))
    over short h = tt

    go : (t : Bool) (q r : Drawn) → Long ss vs q → Long (s ∷ ss) vs r → Long (s ∷ ss) (v ∷ vs) (cond t (more (v % s) q) r)
    go true q r g h = used q g
    go false q r g h = over r h

-- four bytes more, which were used or passed over
on-four : (ss : List ℕ) (a b c d : ℕ) (bs : List ℕ) (r : Drawn) → Long ss (values_of 256 bs) r → on_bytes (a ∷ b ∷ c ∷ d ∷ bs) r ≡ on_bytes bs r
on-four ss a b c d bs (drew ds left) h =
    let l = length_values bs in
    let e : 4 * (suc (suc (suc (suc (length bs)))) / 4 - length left) ≡ suc (suc (suc (suc (4 * (length bs / 4 - length left))))) = omega (arith, h.1) in
    ap (λ k. drew ds (drop k (a ∷ b ∷ c ∷ d ∷ bs))) e
on-four ss a b c d bs short h = refl

on-more : (d : ℕ) (bs : List ℕ) (r : Drawn) → on_bytes bs (more d r) ≡ more d (on_bytes bs r)
on-more d bs (drew ds left) = refl
on-more d bs short = refl

pub drawn-none : (bs : List ℕ) → drawn [] bs ≡ drew [] bs
unfolding draw
drawn-none bs =
    let l = length_values bs in
    let e : 4 * (length bs / 4 - length (values_of 256 bs)) ≡ 0 = omega arith in
    ap (λ k. drew [] (drop k bs)) e

pub drawn-short : (s : ℕ) (ss bs : List ℕ) → length bs < 4 → drawn (s ∷ ss) bs ≡ short
unfolding draw values_of
drawn-short s ss [] l = refl
drawn-short s ss (a ∷ []) l = refl
drawn-short s ss (a ∷ b ∷ []) l = refl
drawn-short s ss (a ∷ b ∷ c ∷ []) l = refl
drawn-short s ss (a ∷ b ∷ c ∷ d ∷ bs) l = absurd (omega arith)

pub drawn-four : (s : ℕ) (ss : List ℕ) (a b c d : ℕ) (bs : List ℕ) →
    drawn (s ∷ ss) (a ∷ b ∷ c ∷ d ∷ bs) ≡ cond (ltb (value a b c d) (limit (2 ^ 32) s)) (more (value a b c d % s) (drawn ss bs)) (drawn (s ∷ ss) bs)
unfolding draw values_of
drawn-four s ss a b c d bs =
    go (ltb (value a b c d) (limit (2 ^ 32) s)) (draw (2 ^ 32) ss (values_of 256 bs)) (draw (2 ^ 32) (s ∷ ss) (values_of 256 bs)) (long (2 ^ 32) ss (values_of 256 bs)) (long (2 ^ 32) (s ∷ ss) (values_of 256 bs))
  where
    go : (t : Bool) (q r : Drawn) → Long ss (values_of 256 bs) q → Long (s ∷ ss) (values_of 256 bs) r →
        on_bytes (a ∷ b ∷ c ∷ d ∷ bs) (cond t (more (value a b c d % s) q) r) ≡ cond t (more (value a b c d % s) (on_bytes bs q)) (on_bytes bs r)
    go true q r g h = on-more (value a b c d % s) (a ∷ b ∷ c ∷ d ∷ bs) q ∙ ap (more (value a b c d % s)) (on-four ss a b c d bs q g)
    go false q r g h = on-four (s ∷ ss) a b c d bs r h

-- as many numbers as moduli, and what is left over are bytes of the end
pub drawn-long : (ss bs : List ℕ) → OfDrawn (λ ds left. (length ds ≡ length ss) × ((k : ℕ) × (left ≡ drop k bs))) (drawn ss bs)
drawn-long ss bs = go (draw (2 ^ 32) ss (values_of 256 bs)) (long (2 ^ 32) ss (values_of 256 bs))
  where
    go : (r : Drawn) → Long ss (values_of 256 bs) r → OfDrawn (λ ds left. (length ds ≡ length ss) × ((k : ℕ) × (left ≡ drop k bs))) (on_bytes bs r)
    go (drew ds left) h = (h.0, (_, refl))
    go short h = tt

-- in turn
onto-none : (r : Drawn) → r ≡ onto [] r
onto-none (drew ds left) = refl
onto-none short = refl

more-onto : (d : ℕ) (ds : List ℕ) (r : Drawn) → more d (onto ds r) ≡ onto (d ∷ ds) r
more-onto d ds (drew es left) = refl
more-onto d ds short = refl

more_then : (d : ℕ) (r : Drawn) (next : List ℕ → Drawn) → more d (and_then r next) ≡ and_then (more d r) next
more_then d (drew ds left) next = more-onto d ds (next left)
more_then d short next = refl

turn-short : (s : ℕ) (ss ts bs : List ℕ) → length bs < 4 → drawn (s ∷ ss ++ ts) bs ≡ and_then (drawn (s ∷ ss) bs) (drawn ts)
turn-short s ss ts bs l = rw (drawn-short s (ss ++ ts) bs l, drawn-short s ss bs l)

pub bytes-in_turn : BytesInTurn
bytes-in_turn [] ts bs = rw drawn-none (onto-none (drawn ts bs))
bytes-in_turn (s ∷ ss) ts [] = turn-short s ss ts [] (omega arith)
bytes-in_turn (s ∷ ss) ts (a ∷ []) = turn-short s ss ts (a ∷ []) (omega arith)
bytes-in_turn (s ∷ ss) ts (a ∷ b ∷ []) = turn-short s ss ts (a ∷ b ∷ []) (omega arith)
bytes-in_turn (s ∷ ss) ts (a ∷ b ∷ c ∷ []) = turn-short s ss ts (a ∷ b ∷ c ∷ []) (omega arith)
bytes-in_turn (s ∷ ss) ts (a ∷ b ∷ c ∷ d ∷ bs) =
    drawn-four s (ss ++ ts) a b c d bs
    ∙ go (ltb (value a b c d) (limit (2 ^ 32) s)) (bytes-in_turn ss ts bs) (bytes-in_turn (s ∷ ss) ts bs)
    ∙ ap (λ r. and_then r (drawn ts)) (sym (drawn-four s ss a b c d bs))
  where
    go : (t : Bool) → drawn (ss ++ ts) bs ≡ and_then (drawn ss bs) (drawn ts) → drawn (s ∷ ss ++ ts) bs ≡ and_then (drawn (s ∷ ss) bs) (drawn ts) →
        cond t (more (value a b c d % s) (drawn (ss ++ ts) bs)) (drawn (s ∷ ss ++ ts) bs) ≡ and_then (cond t (more (value a b c d % s) (drawn ss bs)) (drawn (s ∷ ss) bs)) (drawn ts)
    go true h k = ap (more (value a b c d % s)) h ∙ more_then (value a b c d % s) (drawn ss bs) (drawn ts)
    go false h k = k
