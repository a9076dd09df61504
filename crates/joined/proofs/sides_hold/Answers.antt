use Rattle.joined.proofs.Refused.{refused_ends}
use Rattle.joined.proofs.Sides.{joined_is, sides_run, nothing_after}
use Rattle.joined.proofs.sides_hold.Goals as goal

pub returns : goal.returns
returns c = record { runs = sides_run; joined = joined_is; after = nothing_after; refused = refused_ends }
