use Rattle.std.proofs.Common.{rules, arith}
use Rattle.tasks.specs.Model.{task_of}
use Rattle.tasks.specs.Reading.{read_task}
use Rattle.tasks.proofs.Fronts.{task_front}
use Rattle.command.proofs.Refusals.{if_read, if_refused}
use Rattle.command.proofs.files.task_from.Goals as goal

pub returns-clause-reads : goal.returns-clause-reads
returns-clause-reads g c =
    if_read task_of read_task 16391 (task_front 16391 (omega arith)) (λ l. l.bytes.items) (λ l. l.value) _ _ (λ l v. search rules) c.load.result c.load.ensures.value c.load.ensures.bytes

pub returns-clause-told : goal.returns-clause-told
returns-clause-told g c =
    if_refused task_of read_task 16391 (task_front 16391 (omega arith)) _ c.args.name _ (λ bs f r. search rules) c.load.result c.load.ensures.told
