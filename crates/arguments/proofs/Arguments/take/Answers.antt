use Rattle.std.proofs.Common.{rules}
use Rattle.arguments.proofs.Places.{removed_twice}
use Rattle.arguments.proofs.Arguments.take.Goals as goal

pub returns : goal.returns
returns c = rw c.in_ok-place.ensures.0 (search (rules, removed_twice))
