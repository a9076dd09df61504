use Rattle.std.proofs.Common.{◌^◌}
use Rattle.drawing.proofs.Aiming.{aims, aim-in_turn}
use Rattle.drawing.proofs.Turns.{in_turn_lem}
use Rattle.drawing.proofs.values_are_aimed.Goals as goal

pub returns : goal.returns
returns c = record { aims = aims (2 ^ 32); draws_in_turn = in_turn_lem (2 ^ 32); aims_in_turn = aim-in_turn (2 ^ 32) }
