-- A pair of the code as a pair of the definitions. Assumes nothing.
use Rattle.paths.specs.Plan.{Pair}
use Rattle.tasks.specs.declared.pair.Pair.{Pair as CodePair}

abbrev pub pair_of : CodePair → Pair
pair_of x = record { a = x.first; e = x.second }
