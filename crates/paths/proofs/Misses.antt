-- The near misses. Assumes nothing.
use Rattle.std.proofs.Common.{◌≡◌, ℕ, zero, suc, ◌+◌, ◌-◌, ◌*◌, ◌/◌, ◌%◌, ◌<◌, T, ◌≢◌, List, [], ◌∷◌, ◌++◌, length, replicate, refl, sym, ap, ◌∙◌, inl, inr, mod-lt, mod-eq_of_lt, arith, lit<}
use native.Mathlib.Nat.{mod_self, mod-add-div, add-mul-mod_self_left}
use Rattle.std.proofs.lemmas.Bool.{lt-ltb}
use Rattle.paths.specs.Plan.{Task, Plan, Good, at, fits, all_below, apart, pairs_in, different}
use Rattle.paths.specs.Show.{Coin, Shown, box_of, pair_at, round, rounds, view, within}
use Rattle.paths.specs.Cheat.{passes, shown_by}
use Rattle.paths.specs.Promise.{IsCoin}
use Rattle.paths.specs.Misses.{OneOrder, IsOf, first_then, two_duos, shared, own, OrderTwice, turned, gap, duo, TurnsShow, trio, SamePair}
use Rattle.paths.proofs.Rows.{below_at, at-below, apart-at, pairs-at, at-different, same_place, at_made, length_made}
use Rattle.paths.proofs.Alike.{within-there, pairs-alike}
use Rattle.paths.proofs.Paired.{fits-parts, pair-paths}

-- an order used twice
shows : (t : Task) (p : Plan) → T (fits t p) → (c d : Coin) → IsCoin t c → c.order ≡ d.order → (x y : ℕ) → x < t.trains → y < t.trains →
    ((box_of p c x).holds ≡ (box_of p d y).holds → at p x ≡ at p y) × (at p x ≡ at p y → (box_of p c x).holds ≡ (box_of p d y).holds)
shows t p fp c d h e x y xt yt =
    let f = fits-parts t p fp in
    let xk = below_at t.paths p f.1 x (omega arith) in
    let yk = below_at t.paths p f.1 y (omega arith) in
    (λ s. same_place c.order h.1 (at p x) (at p y) (omega arith) (omega arith) (s ∙ ap (λ o. at o (at p y)) (sym e)), λ s. ap (at c.order) s ∙ ap (λ o. at o (at p y)) e)

-- what a round shows of a train of the pair asked for
opened : (t : Task) (p q : Plan) (c e : Coin) (i x : ℕ) → IsOf t i x → round t p c i ≡ round t q e i → (box_of p c x).holds ≡ (box_of q e x).holds
opened t p q c e i x o h = elim o [ inl m ↦ rw m (ap (λ s. s.first.holds) h) | inr m ↦ rw m (ap (λ s. s.second.holds) h) ]

in-two : (t : Task) (p : Plan) (c d : Coin) (i j : ℕ) → i < length t.pairs → j < length t.pairs → view t p (first_then i j) (c ∷ d ∷ []) ≡ round t p c i ∷ round t p d j ∷ []
unfolding rounds
in-two t p c d i j il jl = rw (lt-ltb i (length t.pairs) il, lt-ltb j (length t.pairs) jl) refl

tells : (t : Task) → Good t → (p q : Plan) → T (fits t p) → T (fits t q) → (i j : ℕ) → i < length t.pairs → j < length t.pairs → (x y : ℕ) → IsOf t i x → IsOf t j y →
    at p x ≡ at p y → at q x ≢ at q y → (c d e g : Coin) → OneOrder t c d → OneOrder t e g →
    view t p (first_then i j) (c ∷ d ∷ []) ≢ view t q (first_then i j) (e ∷ g ∷ [])
tells t good p q fp fq i j il jl x y ox oy same other c d e g cd eg s =
    let rs : round t p c i ∷ round t p d j ∷ [] ≡ round t q e i ∷ round t q g j ∷ [] = sym (in-two t p c d i j il jl) ∙ s ∙ in-two t q e g i j il jl in
    let first : round t p c i ≡ round t q e i = cc in
    let second : round t p d j ≡ round t q g j = cc in
    let both = ap (at c.order) same ∙ ap (λ o. at o (at p y)) cd.2 in
    let its = opened t p q c e i x ox first in
    let next = opened t p q d g j y oy second in
    other ((shows t q fq e g eg.0 eg.2 x y (there i x il ox) (there j y jl oy)).0 (sym its ∙ both ∙ next))
  where
    there : (i x : ℕ) → i < length t.pairs → IsOf t i x → x < t.trains
    there i x l o = let h = pairs-at t.trains t.pairs (record { a = 0; e = 0 }) good.0 i l in elim o [ inl m ↦ rw m h.0 | inr m ↦ rw m h.1 ]

pub order-twice : OrderTwice
unfolding all_below apart pairs_in
order-twice =
    let good : Good two_duos = (tt, lit< tt, lit< tt) in
    record {
      shows = shows;
      tells = tells;
      shared_fits = tt;
      own_fits = tt;
      never = tells two_duos good shared own tt tt 0 1 (lit< tt) (lit< tt) 1 3 (inr refl) (inr refl) refl (λ s. omega (arith, s));
      fresh = pairs-alike two_duos good shared own tt tt (first_then 0 1) 2;
    }

-- turns
module _ (k d : ℕ) (pos : 0 < k) where
  turned-at : (x : ℕ) → x < k → at (turned k d) x ≡ (x + d) % k
  turned-at x l = at_made (λ v. (v + d) % k) k x l

  gap-turned : (x y : ℕ) → x < k → y < k → gap k (at (turned k d) x) (at (turned k d) y) ≡ gap k x y
  gap-turned x y xk yk =
      let u = (x + d) % k in
      let v = (y + d) % k in
      let vk = mod-lt (y + d) pos in
      let even : u + (k - v) + k * ((x + d) / k) ≡ x + (k - y) + k * ((y + d) / k) = omega (arith, mod-add-div (x + d) k, mod-add-div (y + d) k) in
      rw (turned-at x xk, turned-at y yk) (sym (add-mul-mod_self_left (u + (k - v)) k ((x + d) / k)) ∙ ap (λ n. n % k) even ∙ add-mul-mod_self_left (x + (k - y)) k ((y + d) / k))

  turned-order : (length (turned k d) ≡ k) × T (different (turned k d)) × T (all_below k (turned k d))
  turned-order = (long, at-different (turned k d) apart', at-below k (turned k d) below)
    where
      long : length (turned k d) ≡ k
      long = length_made (λ v. (v + d) % k) k

      below : (i : ℕ) → i < length (turned k d) → at (turned k d) i < k
      below i l = rw (turned-at i (omega (arith, long))) (mod-lt (i + d) pos)

      -- equal numbers are no gap apart
      apart' : (i j : ℕ) → i < j → j < length (turned k d) → at (turned k d) i ≢ at (turned k d) j
      apart' i j l m e =
          let v = at (turned k d) j in
          let vk = below j m in
          let jk : j < k = omega (arith, long) in
          let none : v + (k - v) ≡ k = omega arith in
          let some : i + (k - j) < k = omega arith in
          omega (arith, rw e at (gap-turned i j (omega arith) jk), ap (λ n. n % k) none ∙ mod_self k, mod-eq_of_lt some)

-- the gap that the first round shows
abbrev gap-seen : List Shown → ℕ
gap-seen [] = 0
gap-seen (s ∷ ss) = gap 3 s.first.holds s.second.holds

pub turns_show : TurnsShow
unfolding all_below apart pairs_in rounds
turns_show =
    record {
      orders = turned-order;
      gaps = λ t good p fp i l d ns.
          let h = pair-paths t good p fp i l in
          gap-turned t.paths d good.2 (at p (pair_at t i).a) (at p (pair_at t i).e) h.1 h.2;
      one_fits = tt;
      other_fits = tt;
      never = λ f d e ms ns s.
          let only : within duo (f []) ≡ 0 = omega (arith, within-there duo (tt, lit< tt, lit< tt) (f [])) in
          omega (arith, sym (gap-turned 3 d (lit< tt) 0 1 (lit< tt) (lit< tt)) ∙ ap gap-seen (rw only at s) ∙ gap-turned 3 e (lit< tt) 0 2 (lit< tt) (lit< tt));
    }

always_content : (r : ℕ) (ss : List Shown) → T (passes trio (λ s. 0 ∷ 1 ∷ 0 ∷ []) (replicate r 0) ss)
unfolding passes
always_content zero ss = tt
always_content (suc r) ss = always_content r (ss ++ (shown_by trio (0 ∷ 1 ∷ 0 ∷ []) 0 ∷ []))

none-fits : (p : Plan) → T (fits trio p) → ⊥
none-fits p h =
    let f = fits-parts trio p h in
    let below = below_at 2 p f.1 in
    let apart' = apart-at p trio.pairs (record { a = 0; e = 0 }) f.2 in
    omega (arith, below 0 (omega arith), below 1 (omega arith), below 2 (omega arith), apart' 0 (lit< tt), apart' 1 (lit< tt), apart' 2 (lit< tt))

pub same-pair : SamePair
same-pair = record { none = none-fits; content = λ r. always_content r [] }
