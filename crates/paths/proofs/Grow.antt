-- Each round adds one to what is shown, and what was shown stays.
-- Assumes nothing.
use Rattle.std.proofs.Common.{◌≡◌, ◌+◌, List, [], ◌∷◌, ◌++◌, length, refl, arith}
use Rattle.paths.specs.Plan.{Task, Plan}
use Rattle.paths.specs.Show.{Coin, Asker, Shown, rounds, round, within}

one_more : (ss : List Shown) (s : Shown) → length (ss ++ (s ∷ [])) ≡ length ss + 1
one_more [] s = refl
one_more (x ∷ xs) s = omega (arith, one_more xs s)

pub as_many : (t : Task) (p : Plan) (f : Asker) (cs : List Coin) (ss : List Shown) → length (rounds t p f cs ss) ≡ length ss + length cs
unfolding rounds
as_many t p f [] ss = omega arith
as_many t p f (c ∷ cs) ss =
    let more = ss ++ (round t p c (within t (f ss)) ∷ []) in
    omega (arith, as_many t p f cs more, one_more ss (round t p c (within t (f ss))))
