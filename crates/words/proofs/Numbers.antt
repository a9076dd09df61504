-- Numbers of two and of four bytes, and openings, at a place among bytes: what is read is what is written.
use Rattle.std.proofs.Common.{◌≡◌, ℕ, zero, suc, ◌+◌, ◌*◌, ◌/◌, ◌%◌, ◌<◌, ◌≤◌, true, eqb, ltb, List, [], ◌∷◌, ◌++◌, length, take, drop, sym, refl, ap, ◌∙◌, add-zero, add_assoc, arith, lit<, lit≤}
use Rattle.std.proofs.lemmas.Bool.{and_parts, ltb-true, eqb-true}
use Rattle.std.proofs.lemmas.List.{drop_more, drop-drop, take-append-drop, take_at, get_or-drop, get_or-take, drop-take, take-take}
use Rattle.paths.specs.Plan.{at, all_below}
use Rattle.tasks.specs.Reading.{word_at}
use Rattle.tasks.specs.Writing.{word_bytes}
use Rattle.tasks.proofs.Words.{word_back, word_high, word_low}
use Rattle.boxes.specs.Box.{Opening}
use Rattle.words.specs.Reading.{long_at, opening_at}
use Rattle.words.specs.Writing.{long_bytes, opening_bytes, is_opening}

pub long-back : (x : ℕ) → x < 4294967296 → (x / 65536 / 256 % 256 * 256 + x / 65536 % 256) * 65536 + (x / 256 % 256 * 256 + x % 256) ≡ x
long-back x h = omega arith

-- the four bytes are those of the two halves
long-parts : (high low : ℕ) → low < 65536 → long_bytes (high * 65536 + low) ≡ word_bytes high ++ word_bytes low
long-parts high low h =
    let a : (high * 65536 + low) / 65536 ≡ high = omega arith in
    let b : (high * 65536 + low) / 256 % 256 ≡ low / 256 % 256 = omega arith in
    let c : (high * 65536 + low) % 256 ≡ low % 256 = omega arith in
    rw (a, b, c) refl

byte_at : (bs : List ℕ) (i : ℕ) → all_below 256 bs ≡ true → at bs i < 256
unfolding all_below
byte_at [] i h = omega arith
byte_at (b ∷ bs) zero h = ltb-true _ _ (and_parts (ltb b 256) (all_below 256 bs) h).0
byte_at (b ∷ bs) (suc i) h = byte_at bs i (and_parts (ltb b 256) (all_below 256 bs) h).1

-- among bytes, what stands from place i on is the bytes of what is read there, and then the rest
module _ (bs : List ℕ) (bytes : all_below 256 bs ≡ true) where
  pub word_below : (i : ℕ) → word_at bs i < 65536
  word_below i = omega (arith, byte_at bs i bytes, byte_at bs (i + 1) bytes)

  pub long-below : (i : ℕ) → long_at bs i < 4294967296
  long-below i = omega (arith, word_below i, word_below (i + 2))

  pub word-only : (i : ℕ) → i + 2 ≤ length bs → word_bytes (word_at bs i) ++ drop (i + 2) bs ≡ drop i bs
  word-only i h =
      let a = byte_at bs i bytes in
      let b = byte_at bs (i + 1) bytes in
      let p = drop_more bs i 0 (omega arith) in
      let q = drop_more bs (i + 1) 0 (omega arith) in
      let e = add_assoc i 1 1 in
      rw (word_high (at bs i) (at bs (i + 1)) a b, word_low (at bs i) (at bs (i + 1)) b, ← e) (sym (p ∙ ap (λ ys. at bs i ∷ ys) q))

  pub long-only : (i : ℕ) → i + 4 ≤ length bs → long_bytes (long_at bs i) ++ drop (i + 4) bs ≡ drop i bs
  long-only i h =
      let a = byte_at bs (i + 2) bytes in
      let b = byte_at bs (i + 2 + 1) bytes in
      let e : i + 4 ≡ i + 2 + 2 = omega arith in
      let q = ap (λ ys. word_bytes (word_at bs i) ++ ys) (word-only (i + 2) (omega arith)) in
      ap (λ xs. xs ++ drop (i + 4) bs) (long-parts (word_at bs i) (word_at bs (i + 2)) (omega arith)) ∙ (rw e q ∙ word-only i (omega arith))

  pub opening_only : (i : ℕ) → i + 35 ≤ length bs → opening_bytes (opening_at bs i) ++ drop (i + 35) bs ≡ drop i bs
  opening_only i h =
      let e : i + 35 ≡ i + 3 + 32 = omega arith in
      let f : i + 2 + 1 ≡ i + 3 = omega arith in
      let p : take 32 (drop (i + 3) bs) ++ drop (i + 35) bs ≡ drop (i + 3) bs = rw (e, ← drop-drop 32 (i + 3) bs) (take-append-drop 32 (drop (i + 3) bs)) in
      let q = drop_more bs (i + 2) 0 (omega arith) ∙ ap (λ n. at bs (i + 2) ∷ drop n bs) f in
      ap (λ ys. word_bytes (word_at bs i) ++ (at bs (i + 2) ∷ ys)) p ∙ (ap (λ ys. word_bytes (word_at bs i) ++ ys) (sym q) ∙ word-only i (omega arith))

-- an opening that is written is read again
pub opening_front : (o : Opening) (bs : List ℕ) → is_opening o ≡ true → opening_at (opening_bytes o ++ bs) 0 ≡ o
opening_front o bs h =
    let p = and_parts (ltb o.train 65536) (eqb (length o.chance) 32) h in
    let e = word_back o.train (ltb-true _ _ p.0) in
    let f = take_at o.chance bs 32 (eqb-true _ _ p.1) in
    rw (e, f) refl

pub opening_behind : (n : ℕ) (bs : List ℕ) → opening_at bs n ≡ opening_at (drop n bs) 0
opening_behind n bs = rw (get_or-drop n bs 0 0, get_or-drop n bs 1 0, get_or-drop n bs 2 0, drop-drop 3 n bs, add-zero n) refl

-- an opening that is cut out from its place on
pub opening_cut : (n : ℕ) (bs : List ℕ) → opening_at (take 35 (drop n bs)) 0 ≡ opening_at bs n
opening_cut n bs =
    let ys = drop n bs in
    rw (opening_behind n bs, get_or-take 35 ys 0 0 (lit< tt), get_or-take 35 ys 1 0 (lit< tt), get_or-take 35 ys 2 0 (lit< tt), drop-take 3 32 ys, take-take 32 32 (drop 3 ys) (lit≤ tt)) refl
