-- Pairs of the code xs, which a loop sees as ys, as pairs of the definitions: one turn more.
use Rattle.std.proofs.Common.{◌≡◌, ℕ, ◌+◌, ◌<◌, List, [], ◌∷◌, ◌++◌, map, length, get_or, take, drop, sym, ap, ◌∙◌, arith}
use lib.ListN.{length-map}
use Rattle.std.proofs.lemmas.List.{get_or-map, take_more, drop_more}
use Rattle.paths.specs.Plan.{Pair}
use Rattle.tasks.specs.declared.pair.Pair.{Pair as CodePair}
use Rattle.tasks.specs.Pair.{pair_of}

module _ (xs ys : List CodePair) (same : ys ≡ xs) where
  pub as_many : length (map pair_of xs) ≡ length ys
  as_many = length-map xs pair_of ∙ ap length (sym same)

  module _ (i : ℕ) (d : CodePair) (h : i < length ys) where
    abbrev pub here : Pair
    here = pair_of (get_or ys i d)

    pub item : get_or (map pair_of xs) i (pair_of d) ≡ here
    item = get_or-map pair_of xs i d (pair_of d) (omega (arith, ap length same)) ∙ ap (λ zs. pair_of (get_or zs i d)) (sym same)

    pub one-passed : take (i + 1) (map pair_of xs) ≡ take i (map pair_of xs) ++ here ∷ []
    one-passed = take_more (map pair_of xs) i (pair_of d) (omega (arith, as_many)) ∙ ap (λ x. take i (map pair_of xs) ++ x ∷ []) item

    pub one_left : drop i (map pair_of xs) ≡ here ∷ drop (i + 1) (map pair_of xs)
    one_left = drop_more (map pair_of xs) i (pair_of d) (omega (arith, as_many)) ∙ ap (λ y. y ∷ drop (i + 1) (map pair_of xs)) item
