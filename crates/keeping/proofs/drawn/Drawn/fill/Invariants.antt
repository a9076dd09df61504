-- What was said is of the bytes that are held, and these go on from what the last round left over.
use Rattle.std.proofs.Common.{◌≡◌}
use Rattle.std.specs.Fn.{FnReturnsAt}
use Rattle.keeping.specs.Drawn.{held, took, GoesOn}
use Rattle.keeping.proofs.drawn.Drawn.fill.Given as goal

abbrev pub invariant-loop : goal.invariant-loop
invariant-loop g l =
    record { goes_on : GoesOn l.fn.self l.self; said : FnReturnsAt g.F.Fn l.takes (held l.self) l.said; took : took l.self ≡ 0 }
