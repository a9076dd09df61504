use Rattle.blameless.proofs.Examples.{examples}
use Rattle.blameless.proofs.examples_hold.Goals as goal

pub returns : goal.returns
returns c = examples
