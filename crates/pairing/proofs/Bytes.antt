-- The bytes of a paired coin, from its order and what was written; and bytes as a coin.
use Rattle.std.proofs.Common.{◌≡◌, ℕ, zero, suc, ◌+◌, ◌*◌, ◌^◌, ◌<◌, ◌≤◌, Bool, true, false, cond, T, eqb, ltb, List, [], ◌∷◌, ◌++◌, length, get_or, take, drop, sym, refl, ap, ◌∙◌, mul-le-mul_right, pow-suc, arith, lt→ltb, w8, Fits}
use native.Mathlib.Nat.{pow-le-pow_right}
use lib.Ieee.Fits.{and_i}
use Rattle.std.specs.List.{AllByRecursion as All}
use Rattle.std.proofs.ByRecursion.{All-take, All-drop, All-from_get_or}
use Rattle.std.proofs.lemmas.List.{take_at, drop_at, length-take, length-take-le}
use Rattle.std.proofs.lemmas.Bool.{eqb-true, and_parts}
use Rattle.paths.specs.Plan.{Pair, Task, at, all_below, different}
use Rattle.paths.specs.Show.{pair_at}
use Rattle.paths.specs.Order.{is_order}
use Rattle.paths.specs.Promise.{IsCoin}
use Rattle.paths.specs.Pairing.{beta_at}
use Rattle.paths.proofs.Rows.{length_made}
use Rattle.tasks.specs.Reading.{Got, got, refused, and_then}
use Rattle.pairing.proofs.Promises.{is_true}
use Rattle.pairing.specs.Coins.{paired_order, order_in, coin_for, number_in, chances_in, coin_in, Goes}
use Rattle.pairing.specs.Plans.{Both}

no_got : {A P : Type 0} (f : ℕ) (x : A) → got x ≡ refused f → P
no_got f x e = let z : ◌≡◌ {A = ℕ} 0 1 = cc in absurd (omega arith)

abbrev tests : Bool → Bool → Bool → Pair → List ℕ → Got (List ℕ)
tests a b c x zs = cond a (and_then (cond b (got x) (refused 7)) (λ _. cond c (got zs) (refused 10))) (refused 1)

tests_got : (a b c : Bool) (x : Pair) (zs ys : List ℕ) → got ys ≡ tests a b c x zs → (a ≡ true) × (c ≡ true) × (ys ≡ zs)
tests_got true true true x zs ys e = (refl, refl, cc)
tests_got true true false x zs ys e = no_got 10 ys e
tests_got true false c x zs ys e = no_got 7 ys e
tests_got false b c x zs ys e = no_got 1 ys e

same-got : {A : Type 0} (x y : A) → got x ≡ got y → x ≡ y
same-got x y e = cc

-- a number of so many bytes
number-below : (bs : List ℕ) → All (λ b. b < 256) bs → (n : ℕ) → number_in n bs < (n + 1) * 256 ^ length bs
unfolding number_in
number-below [] h n = omega arith
number-below (b ∷ bs) h n =
    let q = 256 ^ length bs in
    let i : number_in (n * 256 + b) bs < (n * 256 + b + 1) * q = number-below bs h.1 (n * 256 + b) in
    let l : n * 256 + b + 1 ≤ (n + 1) * 256 = omega (arith, h.0) in
    let m : (n * 256 + b + 1) * q ≤ (n + 1) * 256 * q = mul-le-mul_right q l in
    let e : (n + 1) * 256 ^ suc (length bs) ≡ (n + 1) * 256 * q = rw (pow-suc 256 (length bs)) (omega arith) in
    omega arith

chance-below : (bs : List ℕ) → All (λ b. b < 256) bs → number_in 0 (take 32 bs) < 2 ^ 256
chance-below bs h =
    let l : length (take 32 bs) ≤ 32 = simp length-take (omega arith) in
    let i = number-below (take 32 bs) (All-take _ 32 bs h) 0 in
    let m : 256 ^ length (take 32 bs) ≤ 256 ^ 32 = pow-le-pow_right (omega arith) l in
    omega arith

chances-below : (n : ℕ) (bs : List ℕ) → All (λ b. b < 256) bs → T (all_below (2 ^ 256) (chances_in n bs))
unfolding chances_in all_below
chances-below zero bs h = tt
chances-below (suc n) bs h = and_i _ _ (lt→ltb _ _ (chance-below bs h)) (chances-below n (drop 32 bs) (All-drop _ 32 bs h))

length-chances : (n : ℕ) (bs : List ℕ) → length (chances_in n bs) ≡ n
unfolding chances_in
length-chances zero bs = refl
length-chances (suc n) bs = ap suc (length-chances n (drop 32 bs))

-- bytes of the right length that begin with an order are a coin
coin_is : (t : Task) (bs : List ℕ) → All (λ b. b < 256) (drop t.paths bs) → length bs ≡ t.paths + 32 * t.trains → is_order (take t.paths bs) ≡ true → IsCoin t (coin_in t bs)
coin_is t bs small l o =
    let k = length-take-le t.paths bs (omega arith) in
    let r = and_parts (different (take t.paths bs)) (all_below (length (take t.paths bs)) (take t.paths bs)) (and_parts _ _ o).1 in
    let b : all_below t.paths (take t.paths bs) ≡ true = ap (λ n. all_below n (take t.paths bs)) (sym k) ∙ r.1 in
    (k, is_true _ r.0, is_true _ b, length-chances t.trains (drop t.paths bs), chances-below t.trains (drop t.paths bs) small)

module _ (s : Both) (i : ℕ) (bs : List ℕ) where
  -- the coin has its length, its front is an order, and the order that is given is the paired one
  order-says : (ys : List ℕ) → got ys ≡ order_in s i bs → (length bs ≡ s.task.paths + 32 * s.task.trains) × (is_order (take s.task.paths bs) ≡ true) × (ys ≡ paired_order s i (take s.task.paths bs))
  order-says ys e =
      let r = tests_got (eqb (length bs) (s.task.paths + 32 * s.task.trains)) (ltb i (length s.task.pairs)) (is_order (take s.task.paths bs)) (pair_at s.task i) (paired_order s i (take s.task.paths bs)) ys e in
      (eqb-true _ _ r.0, r.1, r.2)

  order-long : (ys : List ℕ) → got ys ≡ order_in s i bs → length ys ≡ s.task.paths
  order-long ys e = ap length (order-says ys e).2 ∙ length_made (λ x. at (take s.task.paths bs) (beta_at s.task s.first s.second i x)) s.task.paths

  pub order_room : (ys : List ℕ) → got ys ≡ order_in s i bs → length ys ≤ length bs
  order_room ys e = omega (arith, order-long ys e, (order-says ys e).0)

  pub coin_refused : (f : ℕ) → refused f ≡ order_in s i bs → coin_for s i bs ≡ refused f
  coin_refused f e = rw (← e) refl

  -- ws is what was written of the order to the front of bs
  pub coin_made : (ys ws new : List ℕ) → got ys ≡ order_in s i bs → ws ≡ ys → new ≡ ws ++ drop (length ws) bs → coin_for s i bs ≡ got new
  coin_made ys ws new e w n = rw (← e) (ap got (sym (n ∙ (ap (λ zs. zs ++ drop (length zs) bs) w ∙ ap (λ k. ys ++ drop k bs) (order-long ys e)))))

  -- so the bytes hold the paired coin
  pub coin_goes : (ys new : List ℕ) → ((j : ℕ) → Fits w8 (get_or new j 0)) → got ys ≡ order_in s i bs → coin_for s i bs ≡ got new → Goes s i bs new
  coin_goes ys new small e f =
      let k = s.task.paths in
      let h = order-says ys e in
      let n : new ≡ ys ++ drop k bs = same-got new (ys ++ drop k bs) (sym f ∙ rw (← e) refl) in
      let order : take k new ≡ paired_order s i (take k bs) = ap (take k) n ∙ (take_at ys (drop k bs) k (order-long ys e) ∙ h.2) in
      let rest : drop k new ≡ drop k bs = ap (drop k) n ∙ drop_at ys (drop k bs) k (order-long ys e) in
      let bytes : All (λ b. b < 256) (drop k bs) = rw rest at (All-drop _ k new (All-from_get_or (λ b. b < 256) new 0 (λ j _. omega (arith, small j)))) in
      record { is_coin = coin_is s.task bs bytes h.0 h.1; goes = λ j. record { order = order j; chances = chances_in s.task.trains (rest j) } }
