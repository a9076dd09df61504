-- A word alone is its own lane.
use Rattle.std.proofs.Common.{take, ap, ◌∙◌, arith}
use Rattle.std.proofs.lemmas.List.{map-id}
use Rattle.sha256.specs.Lane.{column, state_at}
use Rattle.sha256.proofs.block.compress.Goals as goal

pub returns : goal.returns
unfolding column state_at
returns c = c.compress_words.ensures 0 (omega arith) c.args.block.now (ap (take 16) (map-id c.words.result) ∙ c.words.ensures)
