-- The text of a box tells what it is made of. Assumes nothing.
use Rattle.std.proofs.Common.{◌≡◌, ℕ, ◌+◌, List, [], ◌∷◌, ◌++◌, length, sym, ap, ◌∙◌, arith}
use Rattle.std.proofs.lemmas.List.{append_assoc, length-append}
use Rattle.sha256.specs.Sha256.{bytes}
use Rattle.sha256.proofs.Bytes.{length-bytes}
use Rattle.boxes.specs.Box.{box_text}
use Rattle.boxes.specs.Binding.{TextInjective, TextLong}
use Rattle.boxes.proofs.Bytes.{bytes_same}
use Rattle.boxes.proofs.Parts.{same_parts}

pub length-text : (round train number : ℕ) (chance : List ℕ) → length (box_text round train number chance) ≡ 7 + length chance
length-text round train number chance = simp (length-append, length-bytes) (omega arith)

pub text-long : TextLong
text-long round train number chance e = length-text round train number chance ∙ ap (λ n. 7 + n) e

-- the head and the chance
pub head_chance : (round train number : ℕ) (chance : List ℕ) → box_text round train number [] ++ chance ≡ box_text round train number chance
head_chance round train number chance = append_assoc (bytes 4 round ++ bytes 2 train) (number ∷ []) chance

pub text-parts : (r s t u n m : ℕ) (c d : List ℕ) → box_text r t n c ≡ box_text s u m d → (bytes 4 r ≡ bytes 4 s) × (bytes 2 t ≡ bytes 2 u) × (n ≡ m) × (c ≡ d)
text-parts r s t u n m c d e =
    let a = same_parts (bytes 4 r) (bytes 4 s) (bytes 2 t ++ n ∷ c) (bytes 2 u ++ m ∷ d) (length-bytes 4 r ∙ sym (length-bytes 4 s)) (simp append_assoc at e) in
    let b = same_parts (bytes 2 t) (bytes 2 u) (n ∷ c) (m ∷ d) (length-bytes 2 t ∙ sym (length-bytes 2 u)) a.1 in
    let k = b.1 in
    (a.0, b.0, cc, cc)

pub text_injective : TextInjective
text_injective r s t u n m c d hr hs ht hu e =
    let p = text-parts r s t u n m c d e in
    (bytes_same 4 r s hr hs p.0, bytes_same 2 t u ht hu p.1, p.2, p.3)
