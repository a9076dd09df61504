use Rattle.std.proofs.Common.{rules}
use Rattle.asking.proofs.drawn.Drawn.question.Goals as goal

pub returns-in_err-map_err : goal.returns-in_err-map_err
returns-in_err-map_err c = let e = rw c.deref.ensures.value at c.test_boxes.ensures in search rules

pub returns : goal.returns
returns c = let e = rw c.deref.ensures.value at c.test_boxes.ensures in search rules
