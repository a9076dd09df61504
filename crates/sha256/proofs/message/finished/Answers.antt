-- The digest, from the whole blocks and the rest. Named at the function, these laws take the check five seconds more.
use Rattle.std.proofs.Common.{arith, length-drop}
use Rattle.sha256.proofs.Messages.{sha256_left}
use Rattle.sha256.proofs.message.finished.Goals as goal

pub returns : goal.returns
returns c = grind (arith, sha256_left, length-drop)
