use Rattle.std.proofs.Common.{sym, arith}
use Rattle.sha256.specs.Sha256.{sha256}
use Rattle.boxes.specs.Model.{opening_of}
use Rattle.boxes.proofs.Binds.{opened_twice_lem}
use Rattle.boxes.proofs.binding.collision.Goals as goal

pub returns-clause-collides : goal.returns-clause-collides
returns-clause-collides c =
    let x = opening_of c.args.first in
    let y = opening_of c.args.second in
    rw (c.text.ensures, c.text-2.ensures) (opened_twice_lem x y sha256 c.args.digest c.args.round (omega arith) (omega arith) (sym c.if-not-opened_twice.ensures))
