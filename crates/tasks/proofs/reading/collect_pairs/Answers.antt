use Rattle.std.proofs.Common.{rules, ◌/◌, length}
use Rattle.std.proofs.lemmas.Iterator.{items_from_collect, YieldsList-from_map, YieldsList-from_slice}
use Rattle.std.proofs.lemmas.Iterator.Consumers.{YieldsList-at}
use Rattle.std.specs.Simd.{first_chunks}
use Rattle.tasks.proofs.Steps.{code_pair, as_code_pair, pairs_collected}
use Rattle.tasks.proofs.reading.collect_pairs.Goals as goal

pub returns : goal.returns
returns c =
    let n = length c.args.bytes.now / 4 in
    pairs_collected n c.args.bytes.now _ (items_from_collect _ c.collect.ensures.ran (
    YieldsList-from_map _ code_pair (YieldsList-at c.map.ensures.source (YieldsList-from_slice (first_chunks 4 n c.args.bytes.now) cc)) c.map.ensures.closure (λ x r q k. let e = as_code_pair r x.now in search rules)
    ))
