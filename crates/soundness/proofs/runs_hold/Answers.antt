use Rattle.soundness.proofs.runs_hold.Goals as goal
use Rattle.soundness.proofs.Runs.{runs_on}

pub returns : goal.returns
returns c = runs_on
