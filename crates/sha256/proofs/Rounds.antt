-- One more word of the schedule and one more round, where they begin and where they end.
use Rattle.std.proofs.Common.{◌≡◌, ℕ, zero, suc, ◌+◌, ◌<◌, ◌≤◌, List, [], ◌∷◌, ◌++◌, map, length, get_or, take, drop, set, refl, ap, add-one, arith}
use Rattle.std.specs.List.{range_with_len}
use Rattle.std.proofs.lemmas.List.FromFn.{map-range_with_len_more}
use Rattle.std.proofs.lemmas.List.{get_or_append_left, get_or-take, length-set, length_push, take-append-drop, take_more_set}
use Rattle.sha256.proofs.Bytes.{word_at}
use Rattle.sha256.specs.declared.state.State.{State}
use Rattle.sha256.specs.Sha256.{K, word, step, steps, next, schedule, sum, compress}

-- one more word of a block, and all sixteen, with which the schedule begins
pub more_first : (b w : List ℕ) (t x : ℕ)
    → t < length w → x ≡ word b t → take t w ≡ map (word b) (range_with_len 0 t)
    → take (t + 1) (set w t x) ≡ map (word b) (range_with_len 0 (t + 1))
more_first b w t x h ex e = cc (take_more_set w t x h, map-range_with_len_more (word b) 0 t t (omega arith))

pub first_words : (b : List ℕ) (t : ℕ) → t ≡ 16 → map (word b) (range_with_len 0 t) ≡ schedule b 0
unfolding schedule
first_words b t e = ap (λ (n : ℕ). map (word b) (range_with_len 0 n)) e

pub ruleset block_laws = (more_first, first_words, word_at, length-set)

-- a next word reads only the words before it
pub next-take : (w : List ℕ) (n : ℕ) → next (take (n + 16) w) n ≡ next w n
unfolding next
next-take w n = grind (arith, get_or-take)

pub schedule-more : (b : List ℕ) (n : ℕ) → schedule b (n + 1) ≡ schedule b n ++ next (schedule b n) n ∷ []
unfolding schedule
schedule-more b n = rw add-one

pub no_steps : (s : State ℕ) (w : List ℕ) → s ≡ steps s w 0
unfolding steps
no_steps s w = refl

pub steps-more : (s : State ℕ) (w : List ℕ) (t : ℕ) → steps s w (t + 1) ≡ step (steps s w t) (get_or K t 0) (get_or w t 0)
unfolding steps
steps-more s w t = rw add-one

-- rounds read only the words before them
pub steps_front : (s : State ℕ) (w v : List ℕ) (t : ℕ) → t ≤ length w → steps s (w ++ v) t ≡ steps s w t
unfolding steps
steps_front s w v zero h = refl
steps_front s w v (suc t) h = cc (steps_front s w v t (omega arith), get_or_append_left w v 0 t h)

length-schedule : (b : List ℕ) (n : ℕ) → length (schedule b n) ≡ n + 16
unfolding schedule
length-schedule b zero = refl
length-schedule b (suc n) = omega (arith, length_push (schedule b n) (next (schedule b n) n), length-schedule b n)

-- all rounds, on all words
pub all_steps : (s : State ℕ) (b w : List ℕ) (t : ℕ) → t ≡ 64 → take 64 w ≡ schedule b 48 → sum s (steps s w t) ≡ compress s b
unfolding compress
all_steps s b w t e h =
    let l = length-schedule b 48 in
    cc (take-append-drop 64 w, steps_front s (schedule b 48) (drop 64 w) 64 (omega arith))
