-- The pairs that were passed are kept apart.
use Rattle.std.proofs.Common.{◌≡◌, true, take, None}
use Rattle.paths.specs.Plan.{apart}
use Rattle.tasks.specs.Model.{task_of, plan_of}
use Rattle.tasks.proofs.fitting.first_unfit.Given as goal

abbrev pub invariant-pairs : goal.invariant-pairs
invariant-pairs l = (l.found ≡ None) × (apart (plan_of l.plan) (take l.i (task_of l.task).pairs) ≡ true)
