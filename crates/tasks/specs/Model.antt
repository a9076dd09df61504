-- Tasks and plans of the code as those of the definitions. Assumes nothing.
use Rattle.std.specs.Prelude.{map, vec_items}
use Rattle.paths.specs.Plan as paths
use Rattle.tasks.specs.declared.task.Task.{Task}
use Rattle.tasks.specs.declared.plan.Plan.{Plan}
use Rattle.tasks.specs.Pair.{pair_of}

abbrev pub task_of : Task → paths.Task
task_of t = record { trains = t.trains; paths = t.paths; pairs = map pair_of (vec_items t.pairs) }

abbrev pub plan_of : Plan → paths.Plan
plan_of p = vec_items p.paths
