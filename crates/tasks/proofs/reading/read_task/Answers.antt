use Rattle.std.proofs.Common.{vec_items, sym, inl, arith}
use lib.ListN.{length-map}
use Rattle.std.proofs.lemmas.List.{take_rest}
use Rattle.tasks.specs.Head.{head_of}
use Rattle.tasks.specs.Pair.{pair_of}
use Rattle.tasks.proofs.TaskLaws.{task_law, task-sound, task-kept, guarantees}
use Rattle.tasks.proofs.Fronts.{task_front}
use Rattle.tasks.proofs.Words.{bytes_below}
use Rattle.tasks.proofs.reading.read_task.Goals as goal

pub invariant_of-result : goal.invariant_of-result
invariant_of-result c =
    let e = task-kept c.args.bytes.now (head_of c.in_ok-head.head) _ c.in_ok-head.ensures (rw take_rest at c.in_ok-pairs.ensures) in
    let g = guarantees _ (task-sound c.args.bytes.now _ (sym e)) in
    let l = length-map (vec_items c.in_ok-pairs.pairs) pair_of in
    let n = c.in_ok-pairs.pairs.ok.0 in
    record { some_train = g.some_train; few_trains = g.few_trains; some_path = g.some_path; few_paths = g.few_paths; some_pair = omega (arith, g.some_pair, l, n); few_pairs = omega (arith, g.few_pairs, l, n); rising_pairs = g.rises }

pub returns : goal.returns
returns c =
    let bs = c.args.bytes.now in
    let e = task-kept bs (head_of c.in_ok-head.head) _ c.in_ok-head.ensures (rw take_rest at c.in_ok-pairs.ensures) in
    record { answer = inl e; written = sym (task_law.only bs _ (bytes_below bs c.type_inv.bytes) (sym e)).1; law = task_law; front = task_front }
