use Rattle.std.proofs.Common.{rules, tests, ◌∙◌}
use Rattle.std.proofs.lemmas.Iterator.{YieldsList-from_slice}
use Rattle.std.proofs.lemmas.Iterator.Search.{all_from_yields_List}
use Rattle.tasks.specs.Model.{task_of}
use Rattle.prohibitions.specs.Prohibiting.{is_named}
use Rattle.prohibitions.proofs.Adding.{named_is}
use Rattle.prohibitions.proofs.prohibiting.all_named.Goals as goal

pub returns : goal.returns
returns c =
    let t = task_of c.args.task.now in
    all_from_yields_List (is_named t) _ _ _ c.all.ensures.ran (YieldsList-from_slice c.args.prohibitions.now cc) (λ x b q k. search (rules, tests))
    ∙ named_is t c.args.prohibitions.now
