-- All that is promised of the planner's secrecy. H is any function in the place of SHA-256. Assumes nothing.
use Rattle.std.specs.Prelude.{ℕ, T, List}
use Rattle.paths.specs.Plan.{Task, Plan, fits}
use Rattle.round.specs.Line.{Other}
use Rattle.secrecy.specs.Twins.{Digests, OnlyNumbers}
use Rattle.secrecy.specs.Secret.{SecretByLots}
use Rattle.secrecy.specs.Drawn.{SameRuns, SecretByBytes}

-- over lots, and over the drawn bytes that give them; what the digests are of that an asker is taken not to look into; and where they differ
pub record Secrecy (H : List ℕ → List ℕ) : Type 0 where
  pub lots : SecretByLots H
  pub drawn : SecretByBytes H
  pub digests : Digests H
  pub numbers : OnlyNumbers H

-- In a showing of plan p in r rounds an asker that is unaware of digests sees what it would see of any other plan that fits.
abbrev pub SecretOfPlan : (List ℕ → List ℕ) → Task → Plan → ℕ → Type 0
SecretOfPlan H t p r = T (fits t p) → (q : Plan) → T (fits t q) → (f : Other) → SameRuns H t p q f r
