-- From the bytes that are left the same number is drawn.
use Rattle.std.proofs.Common.{◌≡◌, length}
use Rattle.lots.specs.Lots.{number_in}
use Rattle.lots.specs.Views.{EndOf}
use Rattle.lots.proofs.numbers.draw_number.Given as goal

abbrev pub invariant-loop-four : goal.invariant-loop-four
invariant-loop-four l = (number_in l.below l.rest ≡ number_in l.below l.bytes) × EndOf l.bytes l.rest

abbrev pub decreases-loop-four : goal.decreases-loop-four
decreases-loop-four l = length l.rest
