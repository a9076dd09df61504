use Rattle.faultless.proofs.Passes.{faultless}
use Rattle.faultless.proofs.faultless_holds.Goals as goal

pub returns : goal.returns
returns c = faultless
