-- A plan that may have been handed over. Assumes nothing.
use Rattle.std.specs.Prelude.{Bool, true, Some, None, Option}
use Rattle.paths.specs.Plan.{Task, Plan, fits}
use Rattle.tasks.specs.declared.plan.Plan.{Plan as CodePlan}
use Rattle.tasks.specs.Model.{plan_of}

abbrev pub plan_in : Option CodePlan → Option Plan
plan_in (Some p) = Some (plan_of p)
plan_in None = None

-- if there is one it fits
abbrev pub fits_if_any : Task → Option Plan → Bool
fits_if_any t (Some p) = fits t p
fits_if_any t None = true
