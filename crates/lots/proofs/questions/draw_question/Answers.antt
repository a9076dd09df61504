use Rattle.tasks.specs.Model.{task_of}
use Rattle.lots.proofs.Following.{question_follows}
use Rattle.lots.proofs.questions.draw_question.Goals as goal

pub returns-clause-follows : goal.returns-clause-follows
returns-clause-follows c = question_follows (task_of c.args.task.now)

pub returns-in_err-number-clause-follows : goal.returns-in_err-number-clause-follows
returns-in_err-number-clause-follows c = question_follows (task_of c.args.task.now)
