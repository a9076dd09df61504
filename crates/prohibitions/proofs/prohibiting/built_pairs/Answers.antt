use Rattle.std.proofs.Common.{map, refl, ap, ◌∙◌}
use Rattle.tasks.specs.Model.{task_of}
use Rattle.tasks.specs.Pair.{pair_of}
use Rattle.prohibitions.specs.Putting.{in_order}
use Rattle.prohibitions.proofs.Placing.{order_of_task}
use Rattle.prohibitions.proofs.Building.{all-put}
use Rattle.prohibitions.proofs.prohibiting.built_pairs.Goals as goal

pub put_all-requires : goal.put_all-requires
put_all-requires c =
    let e = c.in_ok-pairs.ensures.items ∙ c.as_slice.ensures.value in
    let t = c.args.task.now in
    ap (λ xs. in_order (map pair_of xs)) e ∙ order_of_task t.trains _ t.rising_pairs

pub returns : goal.returns
returns c =
    c.in_ok-put_all.ensures
    ∙ all-put (task_of c.args.task.now) c.args.prohibitions.now _ _ _ _ _ _ c.new-more.ensures.items c.in_ok-add_every_two.ensures c.in_ok-add_prohibited.ensures c.as_slice-2.ensures.value (c.in_ok-pairs.ensures.items ∙ c.as_slice.ensures.value) refl
