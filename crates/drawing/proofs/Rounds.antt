-- Enough rounds: a ^ n (a + n) ≤ a (a + 1) ^ n by induction on n, then n = a + 1, and then powers of both sides.
-- Assumes nothing.
use Rattle.std.proofs.Common.{◌≡◌, ℕ, zero, suc, ◌+◌, ◌-◌, ◌*◌, ◌^◌, ◌<◌, ◌≤◌, mul-le-mul, mul-le-mul_left, arith, pow-add}
use native.Mathlib.Nat.{pow-succ', pow-zero, le_of_mul-le-mul_left, pow-le-pow_left, mul-mul-mul_comm}
use Rattle.drawing.specs.Enough.{Halves, Enough}

grows_step : (a n x y : ℕ) → x * (a + n) ≤ a * y → x ≤ y → a * x * (a + suc n) ≤ a * (suc a * y)
grows_step a n x y h l = omega (arith, mul-le-mul_left a h, mul-le-mul_left a l)

grows : (a n : ℕ) → a ^ n * (a + n) ≤ a * (suc a) ^ n
grows a zero = simp pow-zero (omega arith)
grows a (suc n) =
    let less : a ≤ suc a = omega arith in
    simp (pow-succ' a n, pow-succ' (suc a) n) (grows_step a n (a ^ n) (suc a ^ n) (grows a n) (pow-le-pow_left less n))

halves_at : (a : ℕ) → 2 * a ^ suc a ≤ (suc a) ^ suc a
halves_at zero = omega (arith, pow-succ' 1 0)
halves_at (suc b) =
    let a = suc b in
    let h : a * (2 * a ^ suc a) ≤ a * (suc a ^ suc a) = omega (arith, grows a (suc a)) in
    le_of_mul-le-mul_left {k = a} h (omega arith)

pub halves : Halves
halves zero h = absurd (omega arith)
halves (suc a) h = let e : suc a - 1 ≡ a = omega arith in simp e (halves_at a)

pub powers : (m j : ℕ) → 0 < m → 2 ^ j * (m - 1) ^ (j * m) ≤ m ^ (j * m)
powers m zero h = let e : zero * m ≡ 0 = omega arith in simp (e, pow-zero) (omega arith)
powers m (suc j) h =
    let e : suc j * m ≡ m + j * m = omega arith in
    let x = (m - 1) ^ m in
    let y = (m - 1) ^ (j * m) in
    simp (e, pow-succ' 2 j, pow-add (m - 1) m (j * m), pow-add m m (j * m)) (simp (mul-mul-mul_comm 2 x (2 ^ j) y) at (mul-le-mul (halves m h) (powers m j h)))

pub enough : Enough
enough m h = powers m 40 h
