-- The promises of the pairing, each proved where it is brought from.
use Rattle.paths.proofs.pairing_holds.Goals as goal
use Rattle.paths.proofs.Paired.{pairs_coin}
use Rattle.paths.proofs.Coins.{pairs-each, pairs-back}
use Rattle.paths.proofs.Seen.{stops-alike}
use Rattle.paths.proofs.Alike.{pairs-alike}
use Rattle.paths.proofs.Simulated.{simulates}

pub returns : goal.returns
returns c = record { coin = pairs_coin; each = pairs-each; back = pairs-back; alike = pairs-alike; stops = stops-alike; simulated = simulates }
