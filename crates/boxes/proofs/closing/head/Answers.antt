use Rattle.sha256.proofs.Bytes.{bytes-four}
use Rattle.boxes.proofs.Bytes.{bytes-two}
use Rattle.boxes.proofs.closing.head.Goals as goal

pub returns : goal.returns
returns c = rw (c.to_be_bytes.ensures, c.to_be_bytes-2.ensures, ← bytes-four c.args.round, ← bytes-two c.args.train)
