-- After an end there is no round.
use Rattle.std.proofs.Common.{◌≡◌, Err}
use Rattle.round.specs.declared.over.Over.{Over}
use Rattle.keeping.specs.declared.showing.Stop.TheVariants.{Over as Ended}
use Rattle.keeping.proofs.showing.run.Given as goal

abbrev pub invariant-loop : goal.invariant-loop
invariant-loop g l = (over : Over) → l.fn.first ≡ Err over → (l.turn ≡ Err (Ended over)) × (l.counter ≡ 0)
