use Rattle.sides.proofs.Told.{never_blamed}
use Rattle.sides.proofs.planner.start_planner.Goals as goal

pub returns-clause-blameless : goal.returns-clause-blameless
returns-clause-blameless c = never_blamed
