-- Blocks one after the other, and the digest of a message from what its whole blocks left.
use Rattle.std.proofs.Common.{◌≡◌, ℕ, zero, suc, ◌+◌, ◌-◌, ◌*◌, ◌/◌, ◌%◌, ◌^◌, ◌<◌, ◌≤◌, List, ◌∷◌, ◌++◌, length, get_or, take, drop, replicate, refl, ap, add-zero, add-one, arith}
use Rattle.std.specs.Simd.{first_chunks}
use Rattle.std.proofs.lemmas.List.{append_assoc, drop_at, drop-append-le, drop-drop, drop-take, take-take, take_all, take_at, length-append, length-replicate, length-drop, length-take-le, replicate-append-replicate}
use Rattle.sha256.specs.declared.state.State.{State}
use Rattle.sha256.specs.Sha256.{H0, bytes, zeros, padding, padded, block, compress, hashed, output, sha256}
use Rattle.sha256.proofs.Bytes.{length-bytes, bits_mod, chunk_drop, mark_after}

pub hashed_none : (s : State ℕ) (p : List ℕ) → s ≡ hashed s p 0
unfolding hashed
hashed_none s p = refl

pub hashed_more : (s r : State ℕ) (p b : List ℕ) (n : ℕ)
    → s ≡ hashed r p n → b ≡ block p n → compress s b ≡ hashed r p (n + 1)
unfolding hashed
hashed_more s r p b n e f = rw add-one (cc)

-- block i as the code cuts it
pub chunk_block : (p d : List ℕ) (n i : ℕ) → i < n → get_or (first_chunks 64 n p) i d ≡ block p i
unfolding block
chunk_block p d n i h = chunk_drop 64 p d n i h

-- the blocks of a message are those of a part from its front that is long enough
block-take : (p : List ℕ) (n m : ℕ) → 64 * n + 64 ≤ m → block (take m p) n ≡ block p n
unfolding block
block-take p n m h = cc (drop-take (64 * n) 64 (take m p), drop-take (64 * n) 64 p, take-take (64 * n + 64) m p h)

hashed-take : (s : State ℕ) (p : List ℕ) (n m : ℕ) → 64 * n ≤ m → hashed s (take m p) n ≡ hashed s p n
unfolding hashed
hashed-take s p zero m h = refl
hashed-take s p (suc n) m h = cc (hashed-take s p n m (omega arith), block-take p n m (omega arith))

pub hashed_front : (s : State ℕ) (p q : List ℕ) (n : ℕ) → 64 * n ≤ length p → hashed s (p ++ q) n ≡ hashed s p n
hashed_front s p q n h = cc (hashed-take s (p ++ q) n (length p) h, take_at p q (length p) refl)

-- blocks after blocks
pub hashed_drop : (s : State ℕ) (p : List ℕ) (k n : ℕ) → hashed s p (k + n) ≡ hashed (hashed s p k) (drop (64 * k) p) n
unfolding block hashed
hashed_drop s p k zero = cc (add-zero k)
hashed_drop s p k (suc n) =
    let u : k + suc n ≡ suc (k + n) = omega arith in
    let v : 64 * k + 64 * n ≡ 64 * (k + n) = omega arith in
    cc (hashed_drop s p k n, drop-drop (64 * n) (64 * k) p)

-- one block, and two
pub one_block : (s : State ℕ) (p : List ℕ) → length p ≡ 64 → compress s p ≡ hashed s p (length p / 64)
unfolding block hashed
one_block s p h =
    let e : length p / 64 ≡ 1 = omega arith in
    rw (e, take_all 64 p (omega arith))

pub two_blocks : (s : State ℕ) (p q : List ℕ)
    → length p ≡ 64 → length q ≡ 64 → compress (compress s p) q ≡ hashed s (p ++ q) (length (p ++ q) / 64)
two_blocks s p q h l =
    let e : length (p ++ q) / 64 ≡ 1 + 1 = omega (arith, length-append p q) in
    let x : length p / 64 ≡ 1 = omega arith in
    let y : length q / 64 ≡ 1 = omega arith in
    cc (hashed_drop s (p ++ q) 1 1, hashed_front s p q 1 (omega arith), drop_at p q 64 h, one_block s p h, one_block (compress s p) q l)

-- what the padding adds to what is left of a message of n bytes: up to the end of this block, or of the next
abbrev pub mark : List ℕ → List ℕ
mark rest = rest ++ 0x80 ∷ replicate (63 - length rest) 0

length_mark : (rest : List ℕ) (k : ℕ) → length (rest ++ 0x80 ∷ replicate k 0) ≡ length rest + (k + 1)
length_mark rest k = simp (length-append, length-replicate) (omega arith)

-- as the standard has it: the least number of zeros that ends 8 bytes before the end of a block
pub zeros_fill : (n : ℕ) → ((n + 1 + zeros n) % 64 ≡ 56) × (zeros n < 64)
unfolding zeros
zeros_fill n = (omega arith, omega arith)

zeros_here : (n r : ℕ) → n % 64 ≡ r → r < 56 → zeros n ≡ 55 - r
unfolding zeros
zeros_here n r e h = omega arith

zeros-next : (n r : ℕ) → n % 64 ≡ r → 56 ≤ r → r < 64 → zeros n ≡ 63 - r + 56
unfolding zeros
zeros-next n r e h l = omega arith

pub padding_here : (rest : List ℕ) (n t : ℕ)
    → n % 64 ≡ length rest → n % 2 ^ 64 ≡ t → length rest < 56
    → rest ++ padding n ≡ take 56 (mark rest) ++ bytes 8 (8 * t)
unfolding padding
padding_here rest n t e f h =
    let k = 55 - length rest in
    let u : 63 - length rest ≡ k + 8 = omega arith in
    let p = rest ++ 0x80 ∷ replicate k 0 in
    let l : length p ≡ 56 = omega (arith, length_mark rest k) in
    let m : mark rest ≡ p ++ replicate 8 0 = cc (replicate-append-replicate {A = ℕ} k 8 0, append_assoc rest (0x80 ∷ replicate k 0) (replicate 8 0)) in
    cc (zeros_here n (length rest) e h, bits_mod n t f, take_at p (replicate 8 0) 56 l, append_assoc rest (0x80 ∷ replicate k 0) (bytes 8 (8 * n)))

pub padding-next : (rest : List ℕ) (n t : ℕ)
    → n % 64 ≡ length rest → n % 2 ^ 64 ≡ t → 56 ≤ length rest → length rest < 64
    → rest ++ padding n ≡ mark rest ++ (take 56 (replicate 64 0) ++ bytes 8 (8 * t))
unfolding padding
padding-next rest n t e f h l =
    let k = 63 - length rest in
    let z = replicate 56 0 ++ bytes 8 (8 * n) in
    cc (zeros-next n (length rest) e h l, bits_mod n t f, replicate-append-replicate {A = ℕ} k 56 0, append_assoc (replicate k 0) (replicate 56 0) (bytes 8 (8 * n)), append_assoc rest (0x80 ∷ replicate k 0) z)

length_sized : (b : List ℕ) (x : ℕ) → length b ≡ 64 → length (take 56 b ++ bytes 8 x) ≡ 64
length_sized b x h = omega (arith, length-append (take 56 b) (bytes 8 x), length-take-le 56 b (omega arith), length-bytes 8 x)

pub last_here : (s : State ℕ) (rest : List ℕ) (n t : ℕ) → n % 64 ≡ length rest → n % 2 ^ 64 ≡ t → length rest < 56
    → compress s (take 56 (mark rest) ++ bytes 8 (8 * t)) ≡ hashed s (rest ++ padding n) (length (rest ++ padding n) / 64)
last_here s rest n t e f h =
    let m : length (mark rest) ≡ 64 = omega (arith, length_mark rest (63 - length rest)) in
    rw (padding_here rest n t e f h) (one_block s _ (length_sized (mark rest) (8 * t) m))

pub last_next : (s : State ℕ) (rest : List ℕ) (n t : ℕ) → n % 64 ≡ length rest → n % 2 ^ 64 ≡ t → 56 ≤ length rest → length rest < 64
    → compress (compress s (mark rest)) (take 56 (replicate 64 0) ++ bytes 8 (8 * t)) ≡ hashed s (rest ++ padding n) (length (rest ++ padding n) / 64)
last_next s rest n t e f h g =
    let m : length (mark rest) ≡ 64 = omega (arith, length_mark rest (63 - length rest)) in
    rw (padding-next rest n t e f h g) (two_blocks s (mark rest) _ m (length_sized (replicate 64 0) (8 * t) refl))

pub ruleset last_laws = (mark_after, last_here, last_next)

-- the digest, from the whole blocks and the rest
pub sha256_left : (m : List ℕ)
    → let q = length m / 64 in let rest = drop (64 * q) m in
    sha256 m ≡ output (hashed (hashed H0 m q) (rest ++ padding (length m)) (length (rest ++ padding (length m)) / 64))
unfolding sha256 padded
sha256_left m =
    let n = length m in
    let q = n / 64 in
    let rest = drop (64 * q) m ++ padding n in
    let d : length (m ++ padding n) / 64 ≡ q + length rest / 64 = omega (arith, length-append m (padding n), length-append (drop (64 * q) m) (padding n), length-drop (64 * q) m) in
    let a = drop-append-le (64 * q) m (padding n) (omega arith) in
    let f = hashed_front H0 m (padding n) q (omega arith) in
    ap output (cc (hashed_drop H0 (m ++ padding n) q (length rest / 64)))
