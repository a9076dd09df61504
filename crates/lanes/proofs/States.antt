-- A list that is filled, and the front of a column; a text of 39 bytes is one block.
use Rattle.std.proofs.Common.{◌≡◌, ℕ, ◌+◌, ◌-◌, ◌*◌, ◌<◌, ◌≤◌, List, [], ◌∷◌, ◌++◌, length, get_or, set, take, replicate, sym, ap, ◌∙◌, arith}
use Rattle.std.proofs.lemmas.List.Edits.{fill_by_more}
use Rattle.std.proofs.lemmas.List.{get_or_append_left, get_or-append_right, length-append, length-set, take-append-le, take-map}
use Rattle.sha256.specs.Lane.{column}
use Rattle.sha256.specs.Sha256.{H0, bytes, zeros, padding, padded, word, compress, output, sha256}
use Rattle.sha256.proofs.Lanes.{column_first}
use Rattle.sha256.proofs.Messages.{one_block}
use Rattle.lanes.specs.Lane.{lane}

-- the front of a column is that of the values in front
pub column_front : (xs ys : List (List ℕ)) (n j : ℕ) → n ≤ length xs → take n (column lane (xs ++ ys) j) ≡ take n (column lane xs j)
unfolding column
column_front xs ys n j h = grind (arith, take-map, take-append-le)

pub ruleset load_laws = (column_first, length-set)

-- a list whose places are filled one after the other
pub put-more : {X : Type 0} (f : ℕ → X) (xs : List X) (i : ℕ) (y d : X)
    → i < length xs → y ≡ f i → ((k : ℕ) → k < i → get_or xs k d ≡ f k) → (k : ℕ) → k < i + 1 → get_or (set xs i y) k d ≡ f k
put-more f xs i y d h e p = λ k l. ap (λ z. get_or (set xs i z) k d) e ∙ fill_by_more f xs i d h p k l

-- a text of 39 bytes: its padding, and the words of its block
abbrev tail : List ℕ
tail = 0x80 ∷ (replicate 22 0 ++ 1 ∷ 0x38 ∷ [])

padded-text : (text : List ℕ) → length text ≡ 39 → padded text ≡ text ++ tail
unfolding padded padding zeros bytes
padded-text text e = ap (λ (n : ℕ). text ++ padding n) e

text_front : (text : List ℕ) (k : ℕ) → length text ≡ 39 → k < 39 → get_or (padded text) k 0 ≡ get_or text k 0
text_front text k e h = rw (padded-text text e) (get_or_append_left text tail 0 k (omega arith))

text_back : (text : List ℕ) (k : ℕ) → length text ≡ 39 → 39 ≤ k → get_or (padded text) k 0 ≡ get_or tail (k - 39) 0
text_back text k e h = rw (padded-text text e) (get_or-append_right text tail 39 k 0 e h)

tail_zero : (i : ℕ) → 0 < i → i < 23 → get_or tail i 0 ≡ 0
tail_zero i h l = grind arith

pub word_front : (text : List ℕ) (t : ℕ) → length text ≡ 39 → t < 9 → word (padded text) t ≡ word text t
unfolding word
word_front text t e h = grind (arith, text_front)

pub word_last : (text : List ℕ) → length text ≡ 39
    → get_or text 36 0 * 16777216 + get_or text 37 0 * 65536 + get_or text 38 0 * 256 + 0x80 ≡ word (padded text) 9
unfolding word
word_last text e = grind (arith, text_front, text_back)

pub word_zero : (text : List ℕ) (t : ℕ) → length text ≡ 39 → 9 < t → t < 15 → 0 ≡ word (padded text) t
unfolding word
word_zero text t e h l = grind (arith, text_back, tail_zero)

pub word_size : (text : List ℕ) → length text ≡ 39 → 312 ≡ word (padded text) 15
unfolding word
word_size text e = grind (arith, text_back)

pub sha256_text : (text : List ℕ) → length text ≡ 39 → sha256 text ≡ output (compress H0 (padded text))
unfolding sha256
sha256_text text e =
    let l : length (padded text) ≡ 64 = omega (arith, ap length (padded-text text e), length-append text tail) in
    ap output (sym (one_block H0 (padded text) l))
