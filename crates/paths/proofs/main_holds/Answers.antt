-- The main promise is proved in proofs/Main.antt.
use Rattle.paths.proofs.main_holds.Goals as goal
use Rattle.paths.proofs.Main.{main}

pub returns : goal.returns
returns c = main
