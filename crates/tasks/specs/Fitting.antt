-- What is said of a plan: the first pair that it fails. Assumes nothing.
use Rattle.std.specs.Prelude.{◌≡◌, ◌<◌, true, not, ◌&&◌, length, take, is_some, Option, MatchOption}
use Rattle.paths.specs.Plan.{Task, Plan, at, apart, fits}
use Rattle.paths.specs.Show.{pair_at}
use Rattle.tasks.specs.declared.fault.Unfit.{Unfit}
use Rattle.tasks.specs.Writing.{is_plan}

-- the pair is there, its two trains are named and have one path, and the pairs before it are kept apart
pub record Lowest (t : Task) (p : Plan) (u : Unfit) : Type 0 where
  pub there : u.pair < length t.pairs
  pub first : u.first ≡ (pair_at t u.pair).a
  pub second : u.second ≡ (pair_at t u.pair).e
  pub fails : at p u.first ≡ at p u.second
  pub before : apart p (take u.pair t.pairs) ≡ true

-- a plan of the task fits exactly if no pair is told; a pair that is told is the lowest that fails
pub record FirstUnfit (t : Task) (p : Plan) (r : Option Unfit) : Type 0 where
  pub none : fits t p ≡ (is_plan t p && not (is_some r))
  pub some : MatchOption r (apart p t.pairs ≡ true) (λ u. Lowest t p u)
