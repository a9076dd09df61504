use Rattle.soundness.proofs.Bounds.{knows_along}
use Rattle.soundness.proofs.Runs.{runs_on}
use Rattle.sides.proofs.asker.start_asker.Goals as goal

pub returns-clause-runs_on : goal.returns-clause-runs_on
returns-clause-runs_on c = runs_on

pub returns-clause-knows : goal.returns-clause-knows
returns-clause-knows c = knows_along
