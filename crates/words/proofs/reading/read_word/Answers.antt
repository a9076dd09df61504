use Rattle.std.proofs.Common.{arith, rules}
use Rattle.tasks.specs.Model.{task_of}
use Rattle.words.proofs.Laws.{unknown, word_law}
use Rattle.words.proofs.reading.read_word.Goals as goal

pub returns-in_err-try_from-clause-answer : goal.returns-in_err-try_from-clause-answer
returns-in_err-try_from-clause-answer c = let u = unknown _ c.in_err-try_from.ensures.1 in rw (u.not1, u.not2, u.not3, u.not4, u.not5, u.not6) (search rules)

pub returns-in_default-clause-law : goal.returns-in_default-clause-law
returns-in_default-clause-law c = word_law (task_of c.args.task.now) (omega arith)

pub returns-in_err-try_from-clause-law : goal.returns-in_err-try_from-clause-law
returns-in_err-try_from-clause-law c = word_law (task_of c.args.task.now) (omega arith)

pub returns-in-Task-clause-law : goal.returns-in-Task-clause-law
returns-in-Task-clause-law c = word_law (task_of c.args.task.now) (omega arith)

pub returns-in-Plan-clause-law : goal.returns-in-Plan-clause-law
returns-in-Plan-clause-law c = word_law (task_of c.args.task.now) (omega arith)

pub returns-in-Boxes-clause-law : goal.returns-in-Boxes-clause-law
returns-in-Boxes-clause-law c = word_law (task_of c.args.task.now) (omega arith)

pub returns-in-Ask-clause-law : goal.returns-in-Ask-clause-law
returns-in-Ask-clause-law c = word_law (task_of c.args.task.now) (omega arith)

pub returns-in-Opened-clause-law : goal.returns-in-Opened-clause-law
returns-in-Opened-clause-law c = word_law (task_of c.args.task.now) (omega arith)

pub returns-in-End-clause-law : goal.returns-in-End-clause-law
returns-in-End-clause-law c = word_law (task_of c.args.task.now) (omega arith)
