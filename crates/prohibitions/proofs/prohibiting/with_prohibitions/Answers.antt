use Rattle.std.proofs.Common.{vec_items, sym, arith}
use lib.ListN.{length-map}
use Rattle.tasks.specs.Pair.{pair_of}
use Rattle.prohibitions.proofs.Building.{build_guarantees, build_fixes}
use Rattle.prohibitions.proofs.prohibiting.with_prohibitions.Goals as goal

pub invariant_of-result : goal.invariant_of-result
invariant_of-result c =
    let v = c.in_ok-pairs.pairs in
    let g = build_guarantees c.args.task.now c.args.prohibitions.now v (sym c.if-not-can_build.ensures) c.in_ok-pairs.ensures in
    let l = length-map (vec_items v) pair_of in
    let n = v.ok.0 in
    record { some_train = g.some_train; few_trains = g.few_trains; some_path = g.some_path; few_paths = g.few_paths; some_pair = omega (arith, g.some_pair, l, n); few_pairs = omega (arith, g.few_pairs, l, n); rising_pairs = g.rises }

pub returns-clause-fixes : goal.returns-clause-fixes
returns-clause-fixes c = build_fixes c.args.task.now c.args.prohibitions.now c.in_ok-pairs.pairs (sym c.if-not-can_build.ensures) c.in_ok-pairs.ensures
