-- After the loop, n is 48.
use Rattle.std.proofs.Common.{◌≡◌, arith}
use Rattle.sha256.proofs.compress.put_all.Goals as goal

pub returns : goal.returns
returns g c = λ j b l h. let e : c.loop-n.n ≡ 48 = omega arith in rw e at (c.loop-n.invariant.0 j b l h)
