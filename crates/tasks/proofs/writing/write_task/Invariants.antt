-- The head, and the pairs so far.
use Rattle.std.proofs.Common.{◌≡◌, ◌++◌, take, vec_items, vec_len}
use Rattle.std.specs.List.{flat_map}
use Rattle.tasks.specs.Model.{task_of}
use Rattle.tasks.specs.Writing.{head_bytes, pair_bytes}
use Rattle.tasks.proofs.writing.write_task.Given as goal

abbrev pub invariant-loop-pair : goal.invariant-loop-pair
invariant-loop-pair l = vec_items l.bytes ≡ head_bytes l.task.trains l.task.paths (vec_len l.task.pairs) ++ flat_map pair_bytes (take l.pair-index (task_of l.task).pairs)
