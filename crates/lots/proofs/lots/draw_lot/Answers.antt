use Rattle.tasks.specs.Model.{task_of}
use Rattle.lots.proofs.Coins.{lots_had}
use Rattle.lots.proofs.Following.{lot_follows}
use Rattle.lots.proofs.lots.draw_lot.Goals as goal

pub returns-clause-had : goal.returns-clause-had
returns-clause-had c = lots_had

pub returns-clause-follows : goal.returns-clause-follows
returns-clause-follows c = lot_follows (task_of c.args.task.now)

pub returns-in_err-order-clause-had : goal.returns-in_err-order-clause-had
returns-in_err-order-clause-had c = lots_had

pub returns-in_err-order-clause-follows : goal.returns-in_err-order-clause-follows
returns-in_err-order-clause-follows c = lot_follows (task_of c.args.task.now)
