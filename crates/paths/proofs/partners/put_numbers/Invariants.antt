-- The numbers so far.
use Rattle.std.proofs.Common.{◌≡◌, map, length, take}
use Rattle.paths.specs.Plan.{at}
use Rattle.paths.specs.Cheat.{up_to}
use Rattle.paths.specs.Partners.{partner_of}
use Rattle.paths.proofs.partners.put_numbers.Given as goal

abbrev pub invariant-loop-path : goal.invariant-loop-path
invariant-loop-path l = (length l.theirs ≡ length l.numbers) × (take l.path l.theirs ≡ map (λ x. at l.numbers (partner_of l.partners x)) (up_to l.path))
