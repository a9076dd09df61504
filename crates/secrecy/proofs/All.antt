-- All that is promised of the planner's secrecy. Assumes nothing.
use Rattle.std.proofs.Common.{◌≡◌, ℕ, List, length}
use Rattle.secrecy.specs.Secrecy.{Secrecy}
use Rattle.secrecy.proofs.Twins.{digests, only_numbers}
use Rattle.secrecy.proofs.Secret.{keeps_secret}
use Rattle.secrecy.proofs.Drawn.{keeps_secret_drawn}

pub secret : (H : List ℕ → List ℕ) → ((x : List ℕ) → length (H x) ≡ 32) → Secrecy H
secret H size = record { lots = keeps_secret H size; drawn = keeps_secret_drawn H size; digests = digests H size; numbers = only_numbers H size }
