use Rattle.std.proofs.Common.{rules}
use Rattle.command.proofs.Numbers.{number_more, number-stop, number-end}
use Rattle.command.proofs.rounds.number.Goals as goal

pub returns-in_err-count : goal.returns-in_err-count
returns-in_err-count c = search (rules, number-stop)

pub loop-digit-preserved : goal.loop-digit-preserved
loop-digit-preserved c = search (rules, number_more)

pub returns : goal.returns
returns c = search (rules, number-end)
