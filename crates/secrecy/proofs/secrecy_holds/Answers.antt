use Rattle.sha256.specs.Sha256.{sha256}
use Rattle.boxes.proofs.Digests.{length-sha256}
use Rattle.secrecy.proofs.All.{secret}
use Rattle.secrecy.proofs.Simulated.{simulates}
use Rattle.secrecy.proofs.ByLots.{by_lots-all}
use Rattle.secrecy.proofs.Pairs.{pairs_as_coins}
use Rattle.secrecy.proofs.Aiming.{aims_values}
use Rattle.secrecy.proofs.Misses.{glass-shows}
use Rattle.secrecy.proofs.secrecy_holds.Goals as goal

pub returns : goal.returns
returns c = record { secrecy = secret sha256 length-sha256; any_hash = secret; simulated = simulates; by_lots = by_lots-all; as_coins = pairs_as_coins; as_values = aims_values; glass = glass-shows }
