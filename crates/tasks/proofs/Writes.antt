-- The bytes of one pair more.
use Rattle.std.proofs.Common.{◌≡◌, ℕ, ◌+◌, ◌<◌, List, ◌++◌, map, length, get_or, take}
use Rattle.std.specs.List.{flat_map}
use Rattle.std.proofs.lemmas.List.{flat_map_more}
use Rattle.tasks.specs.declared.pair.Pair.{Pair as CodePair}
use Rattle.tasks.specs.Pair.{pair_of}
use Rattle.tasks.specs.Writing.{pair_bytes}
use Rattle.tasks.proofs.Mapped.{one-passed}

module _ (hs : List ℕ) (xs ys : List CodePair) (same : ys ≡ xs) (i : ℕ) where
  pub write-more : (d : CodePair) → i < length ys → (was now bs : List ℕ) → was ≡ hs ++ flat_map pair_bytes (take i (map pair_of xs)) → now ≡ was ++ bs → bs ≡ pair_bytes (pair_of (get_or ys i d)) →
      now ≡ hs ++ flat_map pair_bytes (take (i + 1) (map pair_of xs))
  write-more d h was now bs e f g =
      let m = flat_map_more pair_bytes hs (take i (map pair_of xs)) (pair_of (get_or ys i d)) in
      let p = one-passed xs ys same i d h in
      cc
