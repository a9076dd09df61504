-- Of any two plans that fit, any asker sees the same. Assumes nothing.
use Rattle.std.proofs.Common.{◌≡◌, ℕ, T, List, [], length, sym, refl, ap, ◌∙◌}
use Rattle.paths.specs.Plan.{Task, Good, Plan, fits}
use Rattle.paths.proofs.Paired.{fits-parts}
use Rattle.lots.specs.Lots.{Lot}
use Rattle.round.specs.Line.{Other}
use Rattle.secrecy.specs.View.{unaware}
use Rattle.secrecy.specs.Lots.{Lots, show_lots, asked, pair_lot}
use Rattle.secrecy.specs.Secret.{paired, SameByLots, SecretByLots}
use Rattle.secrecy.specs.Twins.{begun}
use Rattle.secrecy.proofs.Pairs.{by-long, by_fits, by-back, lots-undone}
use Rattle.secrecy.proofs.Twins.{twins-hidden, Same, two-turn, goes}

module _ (H : List ℕ → List ℕ) (size : (x : List ℕ) → length (H x) ≡ 32) (t : Task) (good : Good t) (f : Other) (r : ℕ) where
  whole : (p q : Plan) (fp : T (fits t p)) (fq : T (fits t q)) (ls : List Lot) →
      Same H size t good p q fp fq r (unaware f) (λ xs ys. ap f) [] [] ls (paired H f t p q r ls) (show_lots H (unaware f) t p r ls) (show_lots H (unaware f) t q r (paired H f t p q r ls)) (asked H (unaware f) t p r ls) (asked H (unaware f) t q r (paired H f t p q r ls))
  whole p q fp fq ls = goes H size t good p q fp fq r (unaware f) (λ xs ys. ap f) r 0 [] [] refl _ _ (two-turn H size t good p q fp fq r (unaware f) (λ xs ys. ap f) 0 _ _) ls _ _ begun

  back : (p q : Plan) (fp : T (fits t p)) (fq : T (fits t q)) (ls : List Lot) → Lots t ls → paired H f t q p r (paired H f t p q r ls) ≡ ls
  back p q fp fq ls h = let w = whole p q fp fq ls in rw w.asked (by-back t _ _ (lots-undone t good p q fp fq) _ w.below ls h)

  secret : (p q : Plan) → T (fits t p) → T (fits t q) → SameByLots H t p q f r
  secret p q fp fq =
      record {
        questions = λ ls. (whole p q fp fq ls).below;
        fitting = λ ls h. by_fits t _ _ (lots-undone t good p q fp fq) _ (whole p q fp fq ls).below ls h;
        as_many = λ ls. by-long (pair_lot t p q) _ ls;
        back_there = back p q fp fq;
        there_back = back q p fq fp;
        same = λ ls. let w = whole p q fp fq ls in let e = twins-hidden H size t p q ((fits-parts t p fp).0 ∙ sym (fits-parts t q fq).0) _ _ _ _ w.twins in let o = w.outcome in λ j. record { line = e j; outcome = o j };
        twins = λ ls. let w = whole p q fp fq ls in (w.rounds, w.twins);
      }

pub keeps_secret : (H : List ℕ → List ℕ) → ((x : List ℕ) → length (H x) ≡ 32) → SecretByLots H
keeps_secret H size t good p q fp fq f r = secret H size t good f r p q fp fq
