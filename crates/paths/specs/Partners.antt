-- An order paired: two paths and their partners are given, and the other paths go with one another in rising order. Assumes nothing.
use Rattle.std.specs.Prelude.{ℕ, Bool, not, ◌&&◌, List, map, length, Option, ◌==◌, nat_lt}
use Rattle.std.specs.Bool.{then_some}
use Rattle.paths.specs.Plan.{at}
use Rattle.paths.specs.Cheat.{up_to}
use Rattle.paths.specs.Pairing.{beta}
use Rattle.paths.specs.declared.partners.TwoPaths.{TwoPaths}
use Rattle.paths.specs.declared.partners.Partners.{Partners}

-- two different paths below k
abbrev pub are_two : ℕ → TwoPaths → Bool
are_two k t = nat_lt t.first k && nat_lt t.second k && not (t.first == t.second)

-- the partner of each path
abbrev pub partner_of : Partners → ℕ → ℕ
partner_of p = beta p.from.first p.from.second p.to.first p.to.second

-- each path gets the number of its partner
abbrev pub paired_by : Partners → List ℕ → List ℕ
paired_by p xs = map (λ x. at xs (partner_of p x)) (up_to (length xs))

abbrev pub paired : Partners → List ℕ → Option (List ℕ)
paired p xs = then_some (are_two (length xs) p.from && are_two (length xs) p.to) (paired_by p xs)
