-- The number of rounds that a text asks for, in decimal digits. Assumes nothing.
use Rattle.std.specs.Prelude.{◌≡◌, ℕ, ◌+◌, ◌-◌, ◌*◌, ◌^◌, cond, List, [], ◌∷◌, Some, None, Ok, Err, string_bytes, Option, Result, String, nat_le}
use Rattle.std.specs.declared.alloc.Global.{Global}
use Rattle.std.specs.Option.{option_map}
use Rattle.tasks.specs.declared.rounds.Rounds.{Rounds}
use Rattle.tasks.specs.Fault.{number}
use Rattle.tasks.specs.Reading.{Got, got, refused}
use Rattle.tasks.specs.Rounds.{asked_rounds}
use Rattle.tasks.specs.Task.{within}
use Rattle.command.specs.declared.problem.Problem.{Problem}
use Rattle.command.specs.declared.problem.Problem.TheVariants.{Argument, File, Written, Fault, InFile, InRound, Unfit, Stream, Memory}
use Rattle.arguments.specs.declared.Wrong.TheVariants.{Word}

-- the number that digits write, after those of n; none where another byte stands
unfoldable pub number_after : ℕ → List ℕ → Option ℕ
number_after n [] = Some n
number_after n (c ∷ cs) = cond (within 48 57 c) (number_after (n * 10 + (c - 48)) cs) None

abbrev pub number_in : List ℕ → Option ℕ
number_in [] = None
number_in (c ∷ cs) = number_after 0 (c ∷ cs)

-- so many rounds, or fault 12; none where the text is no number
abbrev pub asked : List ℕ → Option (Got ℕ)
asked text = option_map asked_rounds (number_in text)

-- one digit more, where the number is not too large already
abbrev pub more : ℕ → ℕ → Option ℕ
more n c = cond (within 48 57 c) (Some (cond (nat_le n (2 ^ 24)) (n * 10 + (c - 48)) n)) None

-- a text that is no number is told as a wrong argument
abbrev pub Told : String Global → Problem → Type 0
Told text (Argument w) = (w ≡ Word text) × (asked (string_bytes text) ≡ None)
Told text (File n e) = ⊥
Told text (Written n e) = ⊥
Told text (Fault f) = asked (string_bytes text) ≡ Some (refused (number f))
Told text (InFile f n) = ⊥
Told text (InRound f r n) = ⊥
Told text (Unfit u n) = ⊥
Told text (Stream e) = ⊥
Told text Memory = ⊥

abbrev pub Heard : String Global → Result Rounds Problem → Type 0
Heard text (Ok n) = asked (string_bytes text) ≡ Some (got n.count)
Heard text (Err p) = Told text p
