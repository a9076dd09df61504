use Rattle.joined.proofs.Answered.{completes}
use Rattle.joined.proofs.completeness_holds.Goals as goal

pub returns : goal.returns
returns c = completes
