-- What an asker sees of a plan that fits is what is told without a plan. Assumes nothing.
use Rattle.std.proofs.Common.{◌≡◌, ℕ, ◌<◌, cond, T, eqb, ◌≢◌, List, [], ◌∷◌, ◌++◌, length, sym, refl, ap, ◌∙◌, arith}
use Rattle.std.proofs.lemmas.Bool.{ne_eqb, eq-eqb}
use Rattle.paths.specs.Plan.{Task, Plan, Good, at, fits}
use Rattle.paths.specs.Show.{Coin, Shown, Asker, pair_at, within, round, view}
use Rattle.paths.specs.Pairing.{pair_coin}
use Rattle.paths.specs.Paired.{PairedCoin}
use Rattle.paths.specs.Simulated.{simulated_round, simulation, simulate, pretend, Simulates}
use Rattle.paths.proofs.Rows.{pairs-at, at_made}
use Rattle.paths.proofs.Paired.{FitsAt, pair-paths, coin_round, paired_at}
use Rattle.paths.proofs.Seen.{Teller, telling, by_plan}
use Rattle.paths.proofs.Alike.{steady, steady_goes, view_told, Views, views_together}

-- what it gives the two trains of its pair, which are different where some plan fits
pub pretend_at : (t : Task) → Good t → (p : Plan) → T (fits t p) → (i : ℕ) → i < length t.pairs → (at (pretend t i) (pair_at t i).a ≡ 0) × (at (pretend t i) (pair_at t i).e ≡ 1)
pretend_at t good p fp i l =
    let x = pair_at t i in
    let s = pairs-at t.trains t.pairs (record { a = 0; e = 0 }) good.0 i l in
    let d : x.a ≢ x.e = λ e. (pair-paths t good p fp i l).0 (ap (at p) e) in
    (at_made (λ y. cond (eqb y x.e) 1 0) t.trains x.a s.0 ∙ rw (ne_eqb _ _ d) refl, at_made (λ y. cond (eqb y x.e) 1 0) t.trains x.e s.1 ∙ rw (eq-eqb _ _ refl) refl)

module _ (t : Task) (good : Good t) (p : Plan) (fp : T (fits t p)) where
  pub pretend_fits : (i : ℕ) → i < length t.pairs → FitsAt t (pretend t i) i
  pretend_fits i l =
      let h = pair-paths t good p fp i l in
      let e = pretend_at t good p fp i l in
      rw (e.0, e.1) (λ z. omega arith, omega arith, omega arith)

  pretends : (i : ℕ) → i < length t.pairs → (c : Coin) → simulated_round t c i ≡ round t (pretend t i) c i
  pretends i l c = let e = pretend_at t good p fp i l in rw (e.0, e.1) refl

-- told so, as by a teller
abbrev simulator : Task → Teller
simulator t i c = simulated_round t c i

as_simulated : (t : Task) → Good t → (f : Asker) (cs : List Coin) (ss : List Shown) → (telling t (simulator t) (steady t f) cs ss).shown ≡ simulation t f cs ss
unfolding simulation telling
as_simulated t good f [] ss = refl
as_simulated t good f (c ∷ cs) ss =
    ap (λ s. s.shown) (steady_goes t good (simulator t) f c cs ss) ∙ as_simulated t good f cs (ss ++ (simulated_round t c (within t (f ss)) ∷ []))

pub simulates : Simulates
simulates t good p fp f r = record {
  pretends = pretends t good p fp;
  there_fits = s.there_fits;
  back_fits = s.back_fits;
  back_there = s.back_there;
  there_back = s.there_back;
  same = λ cs h. s.same cs;
}
  where
    there : (i : ℕ) → i < length t.pairs → PairedCoin t p (pretend t i) i
    there i l = paired_at t i p (pretend t i) (pair-paths t good p fp i l) (pretend_fits t good p fp i l)

    back : (i : ℕ) → i < length t.pairs → PairedCoin t (pretend t i) p i
    back i l = paired_at t i (pretend t i) p (pretend_fits t good p fp i l) (pair-paths t good p fp i l)

    round_there : (i : ℕ) → i < length t.pairs → (c : Coin) → round t p c i ≡ simulated_round t (pair_coin t p (pretend t i) i c) i
    round_there i l c = coin_round t i p (pretend t i) (pair-paths t good p fp i l) (pretend_fits t good p fp i l) c ∙ sym (pretends t good p fp i l _)

    round_back : (i : ℕ) → i < length t.pairs → (c : Coin) → simulated_round t c i ≡ round t p (pair_coin t (pretend t i) p i c) i
    round_back i l c = pretends t good p fp i l c ∙ coin_round t i (pretend t i) p (pretend_fits t good p fp i l) (pair-paths t good p fp i l) c

    s : Views t r (λ i. pair_coin t p (pretend t i) i) (λ i. pair_coin t (pretend t i) p i) (view t p f) (simulate t f)
    s =
        views_together t (by_plan t p) (simulator t) _ _
        record {
          own = λ i c. refl;
          own' = λ i c. refl;
          same = round_there;
          same' = round_back;
          undone = record { fits = λ i l. (there i l).is_coin; undo = λ i l. (there i l).back };
          undone' = record { fits = λ i l. (back i l).is_coin; undo = λ i l. (back i l).back };
        }
        (steady t f) r _ _ (view_told t good p f) (λ j cs. as_simulated t good f cs [] j)
