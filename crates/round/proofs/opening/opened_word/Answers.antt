use Rattle.std.proofs.Common.{arith}
use Rattle.tasks.specs.Model.{task_of}
use Rattle.round.proofs.Rounds.{asked_code}
use Rattle.round.proofs.opening.opened_word.Goals as goal

pub opening_for-first-requires : goal.opening_for-first-requires
opening_for-first-requires c = omega (arith, (asked_code (task_of c.args.task.now) _ _ _ c.args.task.now.rising_pairs c.pair_at.ensures c.in_ok-asked.ensures.value).0)

pub opening_for-second-requires : goal.opening_for-second-requires
opening_for-second-requires c = omega (arith, (asked_code (task_of c.args.task.now) _ _ _ c.args.task.now.rising_pairs c.pair_at.ensures c.in_ok-asked.ensures.value).1)
