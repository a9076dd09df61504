-- What the closure answers.
use Rattle.std.proofs.Common.{◌≡◌}
use Rattle.sha256.specs.Sha256.{sha256}
use Rattle.boxes.specs.Box.{opens_box}
use Rattle.boxes.specs.Model.{opening_of}
use Rattle.round.proofs.testing.fn.opens_in.is_some_and.Given as goal

abbrev pub ensures : goal.ensures
ensures l r = r ≡ opens_box sha256 l.digest l.round (opening_of l.opening)
