use Rattle.std.proofs.Common.{◌∙◌, arith}
use Rattle.round.proofs.Rounds.{part-is}
use Rattle.round.proofs.opening.part_of.Goals as goal

pub returns : goal.returns
returns c =
    let g = c.get.ensures.lookup in
    c.copied.ensures ∙ part-is c.args.bytes.now c.as_chunks.result.0.now c.args.train c.get.result c.as_chunks.ensures.front c.as_chunks.ensures.front_len g.0 (g.4 (omega arith))
