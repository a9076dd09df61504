use Rattle.std.proofs.Common.{ap, ◌∙◌, rules}
use Rattle.book.specs.Chain.{after}
use Rattle.sha256.specs.Sha256.{sha256}
use Rattle.asking.proofs.awaiting.Awaiting.meet.Goals as goal

pub returns-in_err-map_err : goal.returns-in_err-map_err
unfolding after
returns-in_err-map_err c =
    let own = c.args.self.own_bytes in
    let d = c.start-digest.ensures.value ∙ ap sha256 (c.deref.ensures.value ∙ own) in
    let e = rw own at c.test_task.ensures in
    search rules

pub returns : goal.returns
unfolding after
returns c =
    let own = c.args.self.own_bytes in
    let d = c.start-digest.ensures.value ∙ ap sha256 (c.deref.ensures.value ∙ own) in
    let e = rw own at c.test_task.ensures in
    search rules
