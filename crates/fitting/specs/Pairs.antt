-- The pair that a question names. Assumes nothing.
use Rattle.std.specs.Prelude.{ℕ, cond, length, nat_lt}
use Rattle.paths.specs.Plan.{Pair, Task}
use Rattle.paths.specs.Show.{pair_at}
use Rattle.tasks.specs.Reading.{Got, got, refused}

-- fault 7 where there is no such pair
abbrev pub asked_pair : Task → ℕ → Got Pair
asked_pair t i = cond (nat_lt i (length t.pairs)) (got (pair_at t i)) (refused 7)
