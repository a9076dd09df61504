-- Two plans that are to fit a task, tested one after the other to the first fault. Assumes nothing.
use Rattle.std.specs.Prelude.{cond}
use Rattle.paths.specs.Plan as paths
use Rattle.paths.specs.Plan.{fits}
use Rattle.tasks.specs.Model.{task_of, plan_of}
use Rattle.tasks.specs.Reading.{Got, got, and_then}
use Rattle.fitting.specs.Testing.{tested}
use Rattle.pairing.specs.declared.plans.Plans.{Plans}

pub record Both : Type 0 where
  pub task : paths.Task
  pub first : paths.Plan
  pub second : paths.Plan

-- the first plan first
abbrev pub tested_both : paths.Task → paths.Plan → paths.Plan → Got Both
tested_both t p q = and_then (tested t p) (λ _. and_then (tested t q) (λ _. got record { task = t; first = p; second = q }))

-- plans of the code as those of the definitions
abbrev pub both_of : Plans → Both
both_of s = record { task = task_of s.task; first = plan_of s.first; second = plan_of s.second }

-- the plan that is told of: the second where the first fits
abbrev pub told : paths.Task → paths.Plan → paths.Plan → paths.Plan
told t p q = cond (fits t p) q p
