-- Each is proved where it is brought from.
use Rattle.soundness.proofs.Bounds.{one_each, knows_along, sound-along, sound-whole}
use Rattle.soundness.proofs.Few.{puts_few}
use Rattle.soundness.proofs.Found.{found_boxes}
use Rattle.soundness.proofs.Shares.{knows-along-drawn, knows-enough, sound-along-drawn, sound-drawn, sound-along-enough, sound-enough}
use Rattle.soundness.proofs.soundness_holds.Goals as goal

pub returns : goal.returns
returns c =
    record {
      along = sound-along;
      whole = sound-whole;
      along_drawn = sound-along-drawn;
      whole_drawn = sound-drawn;
      along_enough = sound-along-enough;
      whole_enough = sound-enough;
      found = found_boxes;
      few = puts_few;
      knows = knows_along;
      knows_drawn = knows-along-drawn;
      knows_enough = knows-enough;
      knows_few = one_each;
    }
