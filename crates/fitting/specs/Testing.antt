-- A plan that is to fit a task, tested to the first fault. Assumes nothing.
use Rattle.std.specs.Prelude.{◌≡◌, cond, length, Err, Result, ◌==◌}
use Rattle.paths.specs.Plan.{Task, Plan, all_below, apart}
use Rattle.tasks.specs.declared.fault.Fault.{Fault}
use Rattle.tasks.specs.declared.fault.Fault as fault
use Rattle.tasks.specs.declared.fault.Unfit.{Unfit}
use Rattle.tasks.specs.Fitting.{Lowest}
use Rattle.tasks.specs.Reading.{Got, Looked, got, refused}

-- a plan has a path for each train and no more (1), each path is there (2), and the trains of each pair have different ones (5)
abbrev pub tested : Task → Plan → Got Looked
tested t p = cond (length p == t.trains) (cond (all_below t.paths p) (cond (apart p t.pairs) (got tt) (refused 5)) (refused 2)) (refused 1)

-- a pair that is told is the lowest that the plan fails
abbrev pub TellsPair : {X : Type 0} → Task → Plan → Result X Fault → Type 0
TellsPair t p r = (u : Unfit) → r ≡ Err (fault.TheVariants.Unfit u) → Lowest t p u
