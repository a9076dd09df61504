-- How many rounds a showing has. Assumes nothing.
use Rattle.std.specs.Prelude.{◌≡◌, ℕ, MatchOption, Option, Ok, Err, Result, String}
use Rattle.std.specs.declared.alloc.Global.{Global}
use Rattle.tasks.specs.declared.fault.Fault.{Fault}
use Rattle.tasks.specs.declared.rounds.Rounds.{Rounds}
use Rattle.tasks.specs.Fault.{number}
use Rattle.tasks.specs.Reading.{got, refused}
use Rattle.tasks.specs.Rounds.{asked_rounds}
use Rattle.command.specs.declared.problem.Problem.{Problem}
use Rattle.command.specs.declared.problem.Problem.TheVariants.{Fault as Told}
use Rattle.command.specs.Rounds.{Heard}

-- as many as this, or the fault that they are too many
abbrev pub SoMany : ℕ → Result Rounds Problem → Type 0
SoMany count (Ok n) = asked_rounds count ≡ got n.count
SoMany count (Err p) = (f : Fault) × (asked_rounds count ≡ refused (number f)) × (p ≡ Told f)

-- as many as the text says, and the default where there is none
abbrev pub RoundsFor : Option (String Global) → ℕ → Result Rounds Problem → Type 0
RoundsFor text default r = MatchOption text (SoMany default r) (λ t. Heard t r)
