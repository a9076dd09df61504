use Rattle.joined.proofs.Joins.{joins}
use Rattle.joined.proofs.joined_holds.Goals as goal

pub returns : goal.returns
returns c = joins
