-- The pair that bytes ask for: they are read as any word, and then tested. Assumes nothing.
use Rattle.std.specs.Prelude.{ℕ, List}
use Rattle.paths.specs.Plan.{Task}
use Rattle.tasks.specs.Reading.{Got, got, and_then}
use Rattle.fitting.specs.Pairs.{asked_pair}
use Rattle.words.specs.Reading.{read_word}
use Rattle.words.specs.Awaited.{on_ask}

-- an Ask of this round, else fault 6; then a pair that is there, else 7
abbrev pub read_ask : Task → ℕ → List ℕ → Got ℕ
read_ask t round bs = and_then (and_then (read_word t bs) (on_ask round)) (λ i. and_then (asked_pair t i) (λ _. got i))
