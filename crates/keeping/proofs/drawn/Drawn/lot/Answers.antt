use Rattle.tasks.specs.Model.{task_of}
use Rattle.lots.specs.Lots.{lot_in}
use Rattle.lots.proofs.Following.{lot_follows}
use Rattle.keeping.proofs.Rows.{one_row}
use Rattle.keeping.proofs.drawn.Drawn.lot.Goals as goal

pub returns-clause-row : goal.returns-clause-row
returns-clause-row c = let t = task_of c.args.task.now in one_row (lot_in t) (lot_follows t)
