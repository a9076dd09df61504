use Rattle.sha256.specs.Sha256.{sha256}
use Rattle.tasks.specs.Model.{task_of}
use Rattle.asking.proofs.Answered.{sound_of}
use Rattle.round.proofs.Contents.{exact}
use Rattle.asking.proofs.asked.Asked.test.Goals as goal

pub returns-clause-exact : goal.returns-clause-exact
returns-clause-exact c = let task = c.args.self.drawn.ready.task in exact sha256 (task_of task) (sound_of task)
