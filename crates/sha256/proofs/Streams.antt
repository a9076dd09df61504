-- What a hasher holds after one more part: a part that does not fill the block, and one that does.
use Rattle.std.proofs.Common.{◌≡◌, ℕ, ◌+◌, ◌-◌, ◌*◌, ◌/◌, ◌%◌, ◌≤◌, List, ◌++◌, length, take, drop, sym, arith}
use native.Mathlib.Nat.{mod-add-mod}
use Rattle.std.proofs.Math.Seq.{drop-append-add, take-append-add}
use Rattle.std.proofs.lemmas.List.{append-nil, drop-append-le, drop-drop, drop_all, length-append, length-drop}
use Rattle.sha256.specs.declared.state.State.{State}
use Rattle.sha256.specs.Sha256.{block, compress, hashed}
use Rattle.sha256.proofs.Messages.{hashed_drop, hashed_front, hashed_more}

pub ruleset short_laws = (hashed_front, drop-append-le, length-append, mod-add-mod)

-- a part that fills the block: its front does, and its rest lies after that block
module _ (m part : List ℕ) (enough : 64 ≤ length m % 64 + length part) where
  block_full : block (m ++ part) (length m / 64) ≡ drop (64 * (length m / 64)) m ++ take (64 - length m % 64) part
  unfolding block
  block_full =
      let d = drop (64 * (length m / 64)) m in
      let e : length d + (64 - length m % 64) ≡ 64 = omega (arith, length-drop (64 * (length m / 64)) m) in
      cc (drop-append-le (64 * (length m / 64)) m part (omega arith), take-append-add d part (64 - length m % 64))

  rest_after : drop (64 * (length m / 64 + 1)) (m ++ part) ≡ drop (64 - length m % 64) part
  rest_after =
      let e : 64 * (length m / 64 + 1) ≡ length m + (64 - length m % 64) = omega arith in
      cc (drop-append-add m part (64 - length m % 64))

  quotient : length (m ++ part) / 64 ≡ length m / 64 + 1 + length (drop (64 - length m % 64) part) / 64
  quotient = omega (arith, length-append m part, length-drop (64 - length m % 64) part)

  pub state_long : (s : State ℕ) → hashed s (m ++ part) (length (m ++ part) / 64)
      ≡ hashed (compress (hashed s m (length m / 64)) (drop (64 * (length m / 64)) m ++ take (64 - length m % 64) part))
      (drop (64 - length m % 64) part) (length (drop (64 - length m % 64) part) / 64)
  state_long s =
      let f = hashed_front s m part (length m / 64) (omega arith) in
      let one = hashed_more _ s (m ++ part) _ (length m / 64) (sym f) (sym block_full) in
      cc (hashed_drop s (m ++ part) (length m / 64 + 1) (length (drop (64 - length m % 64) part) / 64), quotient, rest_after)

  pub drop_long : drop (64 * (length (m ++ part) / 64)) (m ++ part)
      ≡ drop (64 * (length (drop (64 - length m % 64) part) / 64)) (drop (64 - length m % 64) part)
  drop_long =
      let r = length (drop (64 - length m % 64) part) / 64 in
      let e : 64 * (length (m ++ part) / 64) ≡ 64 * (length m / 64 + 1) + 64 * r = omega (arith, quotient) in
      cc (drop-drop (64 * r) (64 * (length m / 64 + 1)) (m ++ part), rest_after)

pub ruleset long_laws = (state_long, drop_long, length-append, length-drop, drop_all, append-nil, mod-add-mod)
