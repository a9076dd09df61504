-- What is counted of those that come later.
use Rattle.std.proofs.Common.{◌≡◌, ◌≤◌, [], drop}
use Rattle.prohibitions.proofs.Lasts.{lasts}
use Rattle.prohibitions.proofs.prohibiting.few_different.Given as goal

abbrev pub invariant-loop-i : goal.invariant-loop-i
invariant-loop-i l = (l.count ≡ lasts [] (drop l.i l.prohibitions)) × (l.count ≤ l.most)
