-- Lots paired: as many, lots again, and back. Assumes nothing.
use Rattle.std.proofs.Common.{◌≡◌, ℕ, zero, suc, ◌^◌, ◌<◌, T, List, [], ◌∷◌, length, replicate, refl, ap}
use lib.ListN.{length-replicate}
use Rattle.paths.specs.Plan.{Task, Good, Plan, fits, all_below}
use Rattle.paths.specs.Show.{Coin}
use Rattle.paths.specs.Promise.{IsCoin}
use Rattle.paths.specs.Pairing.{by_question}
use Rattle.paths.specs.Paired.{PairedCoin}
use Rattle.paths.proofs.Rows.{below_parts}
use Rattle.paths.proofs.Paired.{pairs_coin}
use Rattle.drawing.specs.Uniform.{IsOrder}
use Rattle.lots.specs.Lots.{Lot, coin_of_lot}
use Rattle.secrecy.specs.Lots.{IsLot, Lots, pair_lot, PairsAsCoins}

pub by-long : (f : ℕ → Lot → Lot) (is : List ℕ) (ls : List Lot) → length (by_question f is ls) ≡ length ls
unfolding by_question
by-long f is [] = refl
by-long f [] (l ∷ ls) = refl
by-long f (i ∷ is) (l ∷ ls) = ap suc (by-long f is ls)

-- a coin with this order
abbrev coin_with : Task → List ℕ → Coin
coin_with t o = record { order = o; chances = replicate t.trains 0 }

zeros-below : (n : ℕ) → T (all_below (2 ^ 256) (replicate n 0))
unfolding all_below
zeros-below zero = tt
zeros-below (suc n) = zeros-below n

is_coin : (t : Task) (o : List ℕ) → IsOrder t.paths o → IsCoin t (coin_with t o)
is_coin t o h = (h.0, h.1, h.2, length-replicate t.trains 0, zeros-below t.trains)

-- a change of lots that gives lots again, and is undone by the other
pub record Undone (t : Task) (there back : ℕ → Lot → Lot) : Type 0 where
  pub fits : (i : ℕ) → i < length t.pairs → (l : Lot) → IsLot t l → IsLot t (there i l)
  pub undo : (i : ℕ) → i < length t.pairs → (l : Lot) → IsLot t l → back i (there i l) ≡ l

module _ (t : Task) (there back : ℕ → Lot → Lot) (u : Undone t there back) where
  pub by_fits : (is : List ℕ) → T (all_below (length t.pairs) is) → (ls : List Lot) → Lots t ls → Lots t (by_question there is ls)
  unfolding by_question Lots
  by_fits is b [] h = tt
  by_fits [] b (l ∷ ls) h = h
  by_fits (i ∷ is) b (l ∷ ls) h = let d = below_parts _ i is b in (u.fits i d.0 l h.0, by_fits is d.1 ls h.1)

  pub by-back : (is : List ℕ) → T (all_below (length t.pairs) is) → (ls : List Lot) → Lots t ls → by_question back is (by_question there is ls) ≡ ls
  unfolding by_question Lots
  by-back is b [] h = refl
  by-back [] b (l ∷ ls) h = refl
  by-back (i ∷ is) b (l ∷ ls) h = let d = below_parts _ i is b in rw (u.undo i d.0 l h.0, by-back is d.1 ls h.1)

-- lots are changed so where they are paired as coins are, for each question by two plans
pub paired-undone : (t : Task) (p q : ℕ → Plan) → ((i : ℕ) → i < length t.pairs → PairedCoin t (p i) (q i) i) → Undone t (λ i. pair_lot t (p i) (q i) i) (λ i. pair_lot t (q i) (p i) i)
paired-undone t p q c = record { fits = fits; undo = undo }
  where
    fits : (i : ℕ) → i < length t.pairs → (l : Lot) → IsLot t l → IsLot t (pair_lot t (p i) (q i) i l)
    fits i k l h =
        let d = (c i k).is_coin (coin_with t l.order) (is_coin t l.order h.order) in
        record { order = (d.0, d.1, d.2); chances = h.chances; bytes = h.bytes }

    undo : (i : ℕ) → i < length t.pairs → (l : Lot) → IsLot t l → pair_lot t (q i) (p i) i (pair_lot t (p i) (q i) i l) ≡ l
    undo i k l h =
        let e = (c i k).back (coin_with t l.order) (is_coin t l.order h.order) in
        λ j. record { order = (e j).order; chances = l.chances }

pub lots-undone : (t : Task) → Good t → (p q : Plan) → T (fits t p) → T (fits t q) → Undone t (pair_lot t p q) (pair_lot t q p)
lots-undone t good p q fp fq = paired-undone t (λ i. p) (λ i. q) (pairs_coin t good p q fp fq)

pub pairs_as_coins : PairsAsCoins
unfolding by_question
pairs_as_coins t p q is [] = refl
pairs_as_coins t p q [] (l ∷ ls) = refl
pairs_as_coins t p q (i ∷ is) (l ∷ ls) = ap (λ cs. coin_of_lot t (pair_lot t p q i l) ∷ cs) (pairs_as_coins t p q is ls)
