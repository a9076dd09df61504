-- How many rounds a showing may have. Assumes nothing.
use Rattle.std.specs.Prelude.{ℕ, ◌^◌, cond, nat_le}
use Rattle.tasks.specs.Reading.{Got, got, refused}

abbrev pub asked_rounds : ℕ → Got ℕ
asked_rounds n = cond (nat_le n (2 ^ 24)) (got n) (refused 12)
