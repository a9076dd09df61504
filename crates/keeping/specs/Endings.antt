-- When a showing ended well. Assumes nothing.
use Rattle.command.specs.declared.problem.Ending.{Ending}
use Rattle.command.specs.declared.problem.Ending.TheVariants.{Well, Ill}
use Rattle.round.specs.Over.{Outcome, content, not_content, fault, task_fault}

-- where the asker was content in all rounds
abbrev pub ending_of : Outcome → Ending
ending_of (content r) = Well
ending_of (not_content n) = Ill
ending_of (fault f n) = Ill
ending_of (task_fault f) = Ill
