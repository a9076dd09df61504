-- Messages side by side: a lane of two vectors, and what a column of values and a state have in each lane.
use Rattle.std.proofs.Common.{◌≡◌, ℕ, ◌+◌, ◌<◌, List, map, length, get_or, set, take, arith}
use lib.Lanes.{zip2}
use Rattle.std.specs.List.{range_with_len}
use Rattle.std.proofs.lemmas.List.{get_or-map, length-map, map-set}
use Rattle.std.proofs.lemmas.Grind.{take-set_at}
use Rattle.std.proofs.lemmas.Simd.{get_or-zip2, length-zip2}
use Rattle.sha256.specs.declared.state.State.{State}
use Rattle.sha256.specs.Sha256.{K, word, next, schedule, step, steps}
use Rattle.sha256.specs.Lane.{column}
use Rattle.sha256.proofs.Rounds.{more_first, next-take, schedule-more, steps-more}

-- a lane of what a vector instruction makes of two vectors
pub by_lane : (g : ℕ → ℕ → ℕ) (x y : List ℕ) (j : ℕ) → length x ≡ 8 → length y ≡ 8 → j < 8 → get_or (zip2 g x y) j 0 ≡ g (get_or x j 0) (get_or y j 0)
by_lane g x y j e f h = get_or-zip2 g x y j 0 0 0 (omega arith) (omega arith)

pub ruleset lane_laws = (by_lane, length-zip2)

pub same_states : (s r : State ℕ)
    → s.a ≡ r.a → s.b ≡ r.b → s.c ≡ r.c → s.d ≡ r.d → s.e ≡ r.e → s.f ≡ r.f → s.g ≡ r.g → s.h ≡ r.h → s ≡ r
same_states s r a b c d e f g h = λ i. record { a = a i; b = b i; c = c i; d = d i; e = e i; f = f i; g = g i; h = h i }

module _ {W : Type 0} (lane : W → ℕ → ℕ) where
  length-column : (w : List W) (j : ℕ) → length (column lane w j) ≡ length w
  unfolding column
  length-column w j = length-map w (λ y. lane y j)

  pub in_column : (w : List W) (x : W) (j t : ℕ) → t < length w → x ≡ get_or w t x → get_or (column lane w j) t 0 ≡ lane x j
  unfolding column
  in_column w x j t h e = cc (get_or-map (λ y. lane y j) w t x 0 h)

  column-set : (w : List W) (x : W) (i j : ℕ) → column lane (set w i x) j ≡ set (column lane w j) i (lane x j)
  unfolding column
  column-set w x i j = map-set (λ y. lane y j) w i x

  -- one more value of a block
  pub column_first : (b : List ℕ) (w : List W) (x : W) (t j : ℕ)
      → t < length w → lane x j ≡ word b t → take t (column lane w j) ≡ map (word b) (range_with_len 0 t)
      → take (t + 1) (column lane (set w t x) j) ≡ map (word b) (range_with_len 0 (t + 1))
  column_first b w x t j h ex e =
      let l = length-column w j in
      rw (column-set w x t j) (more_first b (column lane w j) t (lane x j) (omega arith) ex e)

  -- one more round, of a lane
  pub lane_more : (start : State ℕ) (w : List W) (x : W) (j t k : ℕ) → t < length w → k ≡ get_or K t 0 → x ≡ get_or w t x
      → step (steps start (column lane w j) t) k (lane x j) ≡ steps start (column lane w j) (t + 1)
  lane_more start w x j t k h ek ex = cc (in_column w x j t h ex, steps-more start (column lane w j) t)

  -- one more word of the schedule
  pub column_words : (b : List ℕ) (w : List W) (x : W) (n j : ℕ)
      → n + 16 < length w → take (n + 16) (column lane w j) ≡ schedule b n → lane x j ≡ next (column lane w j) n
      → take (n + 1 + 16) (column lane (set w (n + 16) x) j) ≡ schedule b (n + 1)
  column_words b w x n j h e ex =
      let v = column lane w j in
      let l = length-column w j in
      let t = take-set_at v (n + 16) (n + 1 + 16) (lane x j) (omega arith) (omega arith) in
      cc (column-set w x (n + 16) j, schedule-more b n, next-take v n)
