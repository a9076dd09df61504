use Rattle.tasks.specs.Model.{task_of}
use Rattle.cutting.proofs.Rounds.{cuts}
use Rattle.cutting.proofs.hearing.hear.Goals as goal

pub returns-in_err-heard-clause-cuts : goal.returns-in_err-heard-clause-cuts
returns-in_err-heard-clause-cuts c = cuts (task_of c.args.task.now)

pub returns-then-round-ge-MOST_ROUNDS-clause-cuts : goal.returns-then-round-ge-MOST_ROUNDS-clause-cuts
returns-then-round-ge-MOST_ROUNDS-clause-cuts c = cuts (task_of c.args.task.now)

pub returns-clause-cuts : goal.returns-clause-cuts
returns-clause-cuts c = cuts (task_of c.args.task.now)
