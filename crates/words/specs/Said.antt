-- The six words. Assumes nothing.
use Rattle.std.specs.Prelude.{ℕ, Bool, List}
use Rattle.paths.specs.Plan.{Plan}
use Rattle.boxes.specs.Box.{Opening}

-- what a side says: Task is its bytes, as the two sides agree on a task by its bytes; Boxes has the digests one after the other, 32 bytes each; an End that
-- says true says that the asker is content with the round
pub data Said : Type 0 where
  task : List ℕ → Said
  plan : Plan → Said
  boxes : ℕ → List ℕ → Said
  ask : ℕ → ℕ → Said
  opened : ℕ → Opening → Opening → Said
  end : ℕ → Bool → Said
