use Rattle.std.proofs.Common.{ap, ◌∙◌, map}
use Rattle.tasks.specs.Pair.{pair_of}
use Rattle.prohibitions.proofs.Placing.{put_found, put_made}
use Rattle.prohibitions.proofs.prohibiting.put.Goals as goal

pub returns-in_default : goal.returns-in_default
returns-in_default c = put_found c.args.pair _ _ c.deref.ensures.value c.requires _ c.in_default.ensures.bound c.in_default.ensures.ok

pub returns : goal.returns
returns c =
    let m = put_made c.args.pair _ _ c.deref.ensures.value c.requires _ c.in-Err.ensures.bound c.in-Err.ensures.position in
    ap (map pair_of) c.in_ok-insert.ensures.items ∙ m
