-- The Opened that a lot gives is of its coin. Assumes nothing.
use Rattle.std.proofs.Common.{◌≡◌, ℕ, zero, suc, ◌+◌, ◌*◌, ◌<◌, List, length, take, drop, get_or, refl, ap, ◌∙◌, mul-zero, mul-suc, arith}
use Rattle.std.proofs.lemmas.List.{drop-drop, length-drop, length-take-le}
use Rattle.paths.specs.Plan.{Plan}
use Rattle.paths.specs.Show.{pair_at}
use Rattle.paths.proofs.Rows.{pairs-at}
use Rattle.tasks.specs.Task.{lowest}
use Rattle.drawing.specs.Drawing.{parts, number_of}
use Rattle.lots.specs.Lots.{Lot}
use Rattle.paths.specs.Plan.{Task}
use Rattle.lots.specs.Lots.{coin_of_lot}
use Rattle.round.specs.Round.{opening_for}
use Rattle.round.specs.Laws.{OpensTrain, OpensByLot}

part-at : (n : ℕ) (bs : List ℕ) (j : ℕ) → j < n → get_or (parts (number_of 256) 32 n bs) j 0 ≡ number_of 256 (take 32 (drop (32 * j) bs))
unfolding parts
part-at zero bs j h = absurd (omega arith)
part-at (suc n) bs zero h = refl
part-at (suc n) bs (suc j) h =
    let e : 32 + 32 * j ≡ 32 * suc j = omega arith in
    part-at n (drop 32 bs) j (omega arith) ∙ ap (λ xs. number_of 256 (take 32 xs)) (drop-drop (32 * j) 32 bs ∙ ap (λ k. drop k bs) e)

opens_train : (t : Task) (p : Plan) (l : Lot) → length l.chances ≡ 32 * t.trains → (j : ℕ) → j < t.trains → OpensTrain p (coin_of_lot t l) j (opening_for p l j)
opens_train t p l many j h =
    record {
      train = refl;
      number = refl;
      bytes = length-take-le 32 _ (simp length-drop (omega (arith, many)));
      chance = rw (part-at t.trains l.chances j h) refl;
    }

pub opens_by_lot : OpensByLot
opens_by_lot t good p l many n i h =
    let s = pairs-at t.trains t.pairs lowest good.0 i h in
    record { x = _; y = _; word = refl; first = opens_train t p l many (pair_at t i).a s.0; second = opens_train t p l many (pair_at t i).e s.1 }
