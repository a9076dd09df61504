-- The main promise, of its three parts. Assumes nothing.
use Rattle.paths.specs.Promise.{Main}
use Rattle.paths.proofs.Content.{passes_all}
use Rattle.paths.proofs.Alike.{pairs-alike}
use Rattle.paths.proofs.Caught.{caught}

pub main : Main
main t good = record { passes_all = passes_all t good; alike = λ p q fp fq f r. (pairs-alike t good p q fp fq f r).alike; caught = caught t good }
