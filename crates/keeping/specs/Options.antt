-- How the options of both sides stand in the command line. Assumes nothing.
use Rattle.std.specs.Prelude.{ℕ, List, codes, Some, String}
use Rattle.std.specs.declared.alloc.Global.{Global}
use Rattle.arguments.specs.Words.{Taken, Struck}
use Rattle.keeping.specs.declared.options.Options.{Options}

-- the value is the word after the option
abbrev pub TakenFrom : List ℕ → List (String Global) → String Global → Type 0
TakenFrom name words value = (rest : List (String Global)) × Taken name words rest (Some value)

-- each option in turn is taken out of what those before it left, and in the end `left` is left
pub record Each (given : List (String Global)) (o : Options) (left : List (String Global)) : Type 0 where
  pub rest : List (String Global)
  pub rest1 : List (String Global)
  pub rest2 : List (String Global)
  pub rest3 : List (String Global)
  pub drawn : Taken (codes "--drawn") given rest (Some o.drawn)
  pub rounds : Taken (codes "--rounds") rest rest1 o.rounds
  pub book : Taken (codes "--book") rest1 rest2 o.book
  pub words : Taken (codes "--words") rest2 rest3 o.words
  pub progress : Struck (codes "--progress") rest3 left o.progress
