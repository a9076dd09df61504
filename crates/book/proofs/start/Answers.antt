use Rattle.boxes.proofs.Digests.{length-sha256}
use Rattle.book.specs.Chain.{after}
use Rattle.book.proofs.Uses.{apart}
use Rattle.book.proofs.start.Goals as goal

pub returns : goal.returns
unfolding after
returns c = record { value = c.digest.ensures; sized = length-sha256; apart = apart }
