use Rattle.std.proofs.Common.{rules}
use Rattle.asking.proofs.awaiting.Awaiting.test_task.Goals as goal

pub returns-then-ne : goal.returns-then-ne
returns-then-ne c = let e = rw c.as_slice.ensures.value at c.if-ne.ensures in search rules

pub returns : goal.returns
returns c = let e = rw c.as_slice.ensures.value at c.if-ne.ensures in search rules
