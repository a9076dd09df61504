-- Numbers of two bytes, written and read again; and what is known of each byte.
use Rattle.std.proofs.Common.{◌≡◌, ℕ, suc, ◌+◌, ◌*◌, ◌/◌, ◌%◌, ◌<◌, true, List, [], ◌∷◌, get_or, refl, arith, w8, Fits}
use Rattle.std.proofs.lemmas.Bool.{and_from, lt-ltb}
use Rattle.paths.specs.Plan.{all_below}

pub word_back : (x : ℕ) → x < 65536 → x / 256 % 256 * 256 + x % 256 ≡ x
word_back x h = omega arith

pub word_high : (a b : ℕ) → a < 256 → b < 256 → (a * 256 + b) / 256 % 256 ≡ a
word_high a b h g = omega arith

pub word_low : (a b : ℕ) → b < 256 → (a * 256 + b) % 256 ≡ b
word_low a b h = omega arith

-- each of these is a byte
pub bytes_below : (bs : List ℕ) → ((i : ℕ) → Fits w8 (get_or bs i 0)) → all_below 256 bs ≡ true
unfolding all_below
bytes_below [] h = refl
bytes_below (b ∷ bs) h = and_from _ _ (lt-ltb b 256 (omega (arith, h 0))) (bytes_below bs (λ i. h (suc i)))
