-- Numbers as bytes: a number that fits is got back from its bytes, so no two have the same. Assumes nothing.
use Rattle.std.proofs.Common.{◌≡◌, ℕ, zero, suc, ◌+◌, ◌*◌, ◌/◌, ◌%◌, ◌^◌, ◌<◌, [], ◌∷◌, sym, ap, ◌∙◌, mod-eq_of_lt, zero-add, zero-mul, div-one, arith, pow-add}
use lib.Pow.{mod-pow-add}
use Rattle.std.specs.Int.Digits.{number_from_digits, number_from_digits_after}
use Rattle.sha256.specs.Sha256.{bytes}

number_after_lem : (k n x : ℕ) → number_from_digits_after 256 n (bytes k x) ≡ n * 2 ^ (8 * k) + x % 2 ^ (8 * k)
unfolding bytes
number_after_lem zero n x = omega arith
number_after_lem (suc k) n x =
    let e : 8 * suc k ≡ 8 + 8 * k = omega arith in
    let p = pow-add 2 8 (8 * k) in
    let m = mod-pow-add x 8 (8 * k) in
    rw (number_after_lem k (n * 256 + x / 2 ^ (8 * k) % 2 ^ 8) x, e, m, p) (omega arith)

pub bytes_back : (k x : ℕ) → x < 2 ^ (8 * k) → number_from_digits 256 (bytes k x) ≡ x
bytes_back k x h = number_after_lem k 0 x ∙ (rw (zero-mul (2 ^ (8 * k)), zero-add (x % 2 ^ (8 * k))) (mod-eq_of_lt h))

pub bytes_same : (k x y : ℕ) → x < 2 ^ (8 * k) → y < 2 ^ (8 * k) → bytes k x ≡ bytes k y → x ≡ y
bytes_same k x y h l e = sym (bytes_back k x h) ∙ ap (number_from_digits 256) e ∙ bytes_back k y l

pub bytes-two : (x : ℕ) → (x / 256 % 256) ∷ (x % 256) ∷ [] ≡ bytes 2 x
unfolding bytes
bytes-two x = rw (div-one x)
