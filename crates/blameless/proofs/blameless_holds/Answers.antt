use Rattle.sha256.specs.Sha256.{sha256}
use Rattle.boxes.proofs.Digests.{length-sha256}
use Rattle.blameless.proofs.Clearing.{blameless}
use Rattle.blameless.proofs.blameless_holds.Goals as goal

pub returns : goal.returns
returns c = record { blameless = blameless sha256 length-sha256; any_hash = blameless }
