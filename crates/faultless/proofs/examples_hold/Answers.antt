use Rattle.faultless.proofs.Examples.{examples}
use Rattle.faultless.proofs.examples_hold.Goals as goal

pub returns : goal.returns
returns c = examples
