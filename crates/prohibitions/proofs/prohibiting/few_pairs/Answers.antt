use Rattle.std.proofs.Common.{arith, vec_items}
use Rattle.std.proofs.lemmas.Bool.Decides.{nat_tests}
use lib.ListN.{length-map}
use Rattle.tasks.specs.Model.{task_of}
use Rattle.tasks.specs.Pair.{pair_of}
use Rattle.prohibitions.proofs.Building.{is_sound}
use Rattle.prohibitions.proofs.Counting.{counted}
use Rattle.prohibitions.proofs.prohibiting.few_pairs.Goals as goal

pub returns-then-others-most : goal.returns-then-others-most
returns-then-others-most c =
    let t = c.args.task.now in
    let n = counted (task_of t) c.args.prohibitions.now (is_sound t) c.requires (omega arith) in
    let l = length-map (vec_items t.pairs) pair_of in
    let k = t.pairs.ok.0 in
    grind (arith, nat_tests)

pub returns-else-others-most : goal.returns-else-others-most
returns-else-others-most c =
    let t = c.args.task.now in
    let n = counted (task_of t) c.args.prohibitions.now (is_sound t) c.requires (omega arith) in
    let l = length-map (vec_items t.pairs) pair_of in
    let k = t.pairs.ok.0 in
    grind (arith, nat_tests)
