-- When a program ends with status 0. Assumes nothing.
use Rattle.std.specs.Prelude.{◌≡◌, ◌⊎◌, ℕ, Bool, true, false, cond, List, length, codes, Ok, Err, Result, String, IfOk, nat_lt}
use Rattle.std.specs.declared.alloc.Global.{Global}
use Rattle.arguments.specs.declared.Arguments.{Arguments}
use Rattle.arguments.specs.Words.{place_of}
use Rattle.command.specs.declared.problem.Ending.{Ending}
use Rattle.command.specs.declared.problem.Ending.TheVariants.{Well, Ill}
use Rattle.command.specs.declared.problem.Problem.{Problem}

-- there was no problem, and all is well
abbrev pub is_well : Result Ending Problem → Bool
is_well (Ok Well) = true
is_well (Ok Ill) = false
is_well (Err p) = false

abbrev pub status_of : Result Ending Problem → ℕ
status_of outcome = cond (is_well outcome) 0 1

-- a word is the one that asks for help
abbrev pub asks_help : List (String Global) → Bool
asks_help words = nat_lt (place_of (codes "--help") words) (length words)

abbrev pub AsksNoHelp : Arguments → Type 0
AsksNoHelp given = asks_help given.words.items ≡ false

-- The status with which a program ends on these words. Where they ask for help, all is well, unless that could not be told; else it is as the program itself ends
-- on them.
abbrev pub Ran : (List (String Global) → Result Ending Problem → Type 0) → List (String Global) → ℕ → Type 0
Ran ends words status =
    (outcome : Result Ending Problem) × (status ≡ status_of outcome)
    × (((asks_help words ≡ true) × IfOk outcome (λ e. e ≡ Well)) ⊎ ((asks_help words ≡ false) × ends words outcome))
