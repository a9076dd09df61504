-- Numbers as bytes, and bytes put into a list one after the other.
use Rattle.std.proofs.Common.{◌≡◌, ℕ, zero, suc, ◌+◌, ◌-◌, ◌*◌, ◌/◌, ◌%◌, ◌^◌, ◌<◌, ◌≤◌, List, [], ◌∷◌, ◌++◌, length, get_or, take, drop, set, replicate, sym, refl, ap, ◌∙◌, mul-zero, drop-drop, div-one, arith}
use lib.Pow.{mod-mod-pow}
use Rattle.std.specs.Simd.{first_chunks}
use Rattle.std.proofs.lemmas.Simd.{get_or-chunk}
use Rattle.std.proofs.lemmas.Nat.{field_of}
use Rattle.std.specs.List.{flat_map}
use Rattle.std.proofs.lemmas.List.{append_assoc, append-nil, drop_all, drop-replicate, flat_map_more, length-append, length-drop, length-take, set_at, take_at, take_more}
use Rattle.sha256.specs.Sha256.{bytes, word}

pub length-bytes : (k x : ℕ) → length (bytes k x) ≡ k
unfolding bytes
length-bytes zero x = refl
length-bytes (suc k) x = ap suc (length-bytes k x)

pub bytes-four : (x : ℕ) → (x / 16777216 % 256) ∷ (x / 65536 % 256) ∷ (x / 256 % 256) ∷ (x % 256) ∷ [] ≡ bytes 4 x
unfolding bytes
bytes-four x = rw (div-one x)

pub bytes_eight : (x : ℕ)
    → (x / 72057594037927936 % 256) ∷ (x / 281474976710656 % 256) ∷ (x / 1099511627776 % 256) ∷ (x / 4294967296 % 256)
    ∷ (x / 16777216 % 256) ∷ (x / 65536 % 256) ∷ (x / 256 % 256) ∷ (x % 256) ∷ [] ≡ bytes 8 x
unfolding bytes
bytes_eight x = rw (div-one x)

-- x keeps its low bytes modulo 2 ^ w
pub bytes-mod : (k w x : ℕ) → 8 * k ≤ w → bytes k (x % 2 ^ w) ≡ bytes k x
unfolding bytes
bytes-mod zero w x h = refl
bytes-mod (suc k) w x h =
    let e : w - 8 - 8 * k + 8 + 8 * k ≡ w = omega arith in
    cc (field_of x (w - 8 - 8 * k + 8) (8 * k), mod-mod-pow (x / 2 ^ (8 * k)) (w - 8 - 8 * k) 8, bytes-mod k w x (omega arith))

pub bytes_wrapped : (x : ℕ) → bytes 8 (x % 2 ^ 64) ≡ bytes 8 x
bytes_wrapped x = bytes-mod 8 64 x (omega arith)

pub ruleset sized_laws = (bytes_eight, bytes_wrapped, length-bytes, drop_all, append-nil)

-- the number of bits, from the number of bytes modulo 2 ^ 64
pub bits_mod : (n t : ℕ) → n % 2 ^ 64 ≡ t → bytes 8 (8 * t) ≡ bytes 8 (8 * n)
bits_mod n t e =
    let s : (8 * t) % 2 ^ 64 ≡ (8 * n) % 2 ^ 64 = omega arith in
    cc (bytes_wrapped (8 * t), bytes_wrapped (8 * n))

-- element i of a list that is cut into lists of k
pub chunk_drop : (k : ℕ) (p d : List ℕ) (n i : ℕ) → i < n → get_or (first_chunks k n p) i d ≡ take k (drop (k * i) p)
chunk_drop k p d zero i h = elim h [ ]
chunk_drop k p d (suc n) zero h = ap (λ (m : ℕ). take k (drop m p)) (sym (mul-zero k))
chunk_drop k p d (suc n) (suc i) h =
    let e = chunk_drop k (drop k p) d n i (omega arith) in
    let m : k + k * i ≡ k * suc i = omega arith in
    e ∙ ap (take k) (drop-drop (k * i) k p ∙ ap (λ (m : ℕ). drop m p) m)

-- word t, of the list as the code cuts it
chunk_at : (k : ℕ) (b : List ℕ) (n t i : ℕ) → t < n → i < k → get_or (get_or (first_chunks k n b) t []) i 0 ≡ get_or b (k * t + i) 0
chunk_at k b n t i h l = rw (chunk_drop k b [] n t h) (get_or-chunk (k * t) k b i 0 l)

pub word_at : (b : List ℕ) (t : ℕ) → t < length b / 4
    → let q = get_or (first_chunks 4 (length b / 4) b) t [] in
    word b t ≡ get_or q 0 0 * 16777216 + get_or q 1 0 * 65536 + get_or q 2 0 * 256 + get_or q 3 0
unfolding word
word_at b t h = grind (arith, chunk_at)

-- a byte put after a list that stands over zeros
pub mark_after : (xs ys : List ℕ) (y : ℕ)
    → ys ≡ xs ++ drop (0 + length xs) (replicate 64 0) → length xs < 64 → set ys (length xs) y ≡ xs ++ y ∷ replicate (63 - length xs) 0
mark_after xs ys y e l =
    let k = 63 - length xs in
    let z : 0 + length xs ≡ length xs = omega arith in
    let d = drop-replicate {X = ℕ} (length xs) 64 0 in
    let s : 64 - length xs ≡ suc k = omega arith in
    let p : set (xs ++ replicate (suc k) 0) (length xs) y ≡ xs ++ y ∷ replicate k 0 = set_at xs 0 (replicate k 0) y (length xs) refl in
    cc

-- the bytes ys of one more word
pub words_more : (out words ys z : List ℕ) (i : ℕ)
    → i < length words → 4 * i + 4 ≤ length out → ys ≡ bytes 4 (get_or words i 0) → take (4 * i) out ≡ flat_map (bytes 4) (take i words)
    → take (4 * (i + 1)) (take (4 * i) out ++ (ys ++ z)) ≡ flat_map (bytes 4) (take (i + 1) words)
words_more out words ys z i h l ey e =
    let x = get_or words i 0 in
    let t = take_more words i 0 h in
    let j = flat_map_more (bytes 4) [] (take i words) x in
    let n = length-bytes 4 x in
    grind (arith, append_assoc, length-append, length-take, take_at)

pub ruleset words_laws = (words_more, bytes-four, length-append, length-take, length-drop)
