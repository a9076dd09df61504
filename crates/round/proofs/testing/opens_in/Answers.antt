use Rattle.boxes.specs.Model.{opening_of}
use Rattle.round.proofs.Rounds.{opens-part}
use Rattle.round.proofs.testing.opens_in.Goals as goal

pub returns : goal.returns
returns c = opens-part c.args.round c.args.digests.now (opening_of c.args.opening) c.part_of.result c.is_some_and.result c.part_of.ensures c.is_some_and.ensures
