use Rattle.std.proofs.Common.{sym, rules}
use Rattle.tasks.specs.Model.{task_of}
use Rattle.asking.proofs.Answered.{opened-long}
use Rattle.asking.proofs.ready.Ready.opened_in.Goals as goal

pub returns-then-not-is_opened : goal.returns-then-not-is_opened
returns-then-not-is_opened c = let e = rw c.requires at c.if-not-is_opened.ensures in search rules

pub returns : goal.returns
returns c =
    let e = rw c.requires at c.if-not-is_opened.ensures in
    let long = opened-long (task_of c.args.self.now.task) c.args.self.now.round c.args.word.now (sym e) in
    search rules
