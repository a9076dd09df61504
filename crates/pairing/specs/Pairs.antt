-- The paths of a pair's two trains. Assumes nothing.
use Rattle.paths.specs.Plan.{Pair, Plan, at}
use Rattle.paths.specs.declared.partners.TwoPaths.{TwoPaths}
use Rattle.paths.specs.declared.partners.Partners.{Partners}

abbrev pub paths_of : Plan → Pair → TwoPaths
paths_of p x = record { first = at p x.a; second = at p x.e }

-- the paths of the second plan have those of the first as partners
abbrev pub partners_for : Plan → Plan → Pair → Partners
partners_for p q x = record { from = paths_of q x; to = paths_of p x }
