use Rattle.soundness.proofs.Examples.{examples, read_off}
use Rattle.soundness.proofs.examples_hold.Goals as goal

pub returns : goal.returns
returns c = record { cheats = examples; read_off = read_off }
