-- What is left to read makes of the number so far what the whole text asks for.
use Rattle.std.proofs.Common.{◌≡◌, drop}
use Rattle.std.specs.Option.{option_map}
use Rattle.tasks.specs.Rounds.{asked_rounds}
use Rattle.command.specs.Rounds.{number_after}
use Rattle.command.proofs.rounds.number.Given as goal

abbrev pub invariant-loop-digit : goal.invariant-loop-digit
invariant-loop-digit l = option_map asked_rounds (number_after l.count (drop l.digit-index l.text)) ≡ option_map asked_rounds (number_after 0 l.text)
