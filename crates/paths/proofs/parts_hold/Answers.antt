-- The parts of the promise, each proved where it is brought from.
use Rattle.paths.proofs.parts_hold.Goals as goal
use Rattle.paths.proofs.Content.{passes_all, reads, reads_clipped}
use Rattle.paths.proofs.Caught.{caught}
use Rattle.paths.proofs.Counts.{asks-counted}

pub returns : goal.returns
returns c = record { passes = passes_all; reads = reads; clipped = reads_clipped; caught = caught; counted = asks-counted }
