-- The near misses are proved in proofs/Misses.antt.
use Rattle.paths.proofs.misses_hold.Goals as goal
use Rattle.paths.proofs.Misses.{order-twice, turns_show, same-pair}

pub returns : goal.returns
returns c = record { twice = order-twice; turns = turns_show; same = same-pair }
