-- What the steps of building a task with prohibitions do. Assumes nothing.
use Rattle.std.specs.Prelude.{◌≡◌, ℕ, ◌+◌, Bool, true, cond, ◌&&◌, List, [], ◌∷◌, ◌++◌, map, Result, ◌==◌, OnOk}
use Rattle.std.specs.declared.alloc.AllocError.{AllocError}
use Rattle.std.specs.List.{list_any}
use Rattle.paths.specs.Plan.{Pair}
use Rattle.tasks.specs.declared.pair.Pair.{Pair as CodePair}
use Rattle.tasks.specs.Pair.{pair_of}
use Rattle.tasks.specs.Task.{before}
use Rattle.prohibitions.specs.declared.prohibiting.Prohibition.{Prohibition}

-- each pair comes before the next
unfoldable pub in_order_after : Pair → List Pair → Bool
in_order_after last [] = true
in_order_after last (x ∷ xs) = before last x && in_order_after x xs

abbrev pub in_order : List Pair → Bool
in_order [] = true
in_order (x ∷ xs) = in_order_after x xs

-- pairs were changed by f, or memory was wanting
abbrev pub Makes : (List Pair → List Pair) → List CodePair → List CodePair → Result (Unit {0}) AllocError → Type 0
Makes f old new r = OnOk r (map pair_of new ≡ f (map pair_of old))

abbrev pub is_among : Prohibition → List Prohibition → Bool
is_among b = list_any (λ c. c.train == b.train && c.path == b.path)

-- how many different ones these are, apart from those that were seen
unfoldable pub different_after : List Prohibition → List Prohibition → ℕ
different_after seen [] = 0
different_after seen (b ∷ bs) = cond (is_among b seen) 0 1 + different_after (seen ++ b ∷ []) bs
