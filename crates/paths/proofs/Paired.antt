-- One coin paired: it shows the same of the other plan, it is a coin, and pairing it back gives the first coin again. Assumes nothing.
use Rattle.std.proofs.Common.{◌≡◌, ℕ, ◌<◌, ◌&&◌, T, eqb, ◌≢◌, length, sym, refl, ap, ◌∙◌, arith, eqb→eq}
use lib.Dec.{eqb_refl}
use lib.Ieee.Fits.{and_i, and_l, and_r}
use Rattle.std.proofs.lemmas.List.{ext_get_or}
use Rattle.paths.specs.Plan.{Task, Plan, Good, at, fits, all_below, apart}
use Rattle.paths.specs.Show.{Coin, round, pair_at}
use Rattle.paths.specs.Promise.{IsCoin}
use Rattle.paths.specs.Pairing.{beta_at, pair_coin, rank}
use Rattle.paths.specs.Paired.{PairedCoin, PairsCoin}
use Rattle.paths.proofs.Rows.{below_at, at-below, apart-at, pairs-at, same_place, at-different, at_made, length_made}
use Rattle.paths.proofs.Beta.{beta-first, beta-second, beta-inside, beta-back, beta-other, beta-rising, beta-matched, beta-only, nth-other}

-- the parts of a plan that fits
pub fits-parts : (t : Task) (p : Plan) → T (fits t p) → (length p ≡ t.trains) × T (all_below t.paths p) × T (apart p t.pairs)
fits-parts t p h =
    let g = and_l (eqb (length p) t.trains && all_below t.paths p) (apart p t.pairs) h in
    (eqb→eq (length p) t.trains (and_l (eqb (length p) t.trains) (all_below t.paths p) g), and_r (eqb (length p) t.trains) (all_below t.paths p) g, and_r (eqb (length p) t.trains && all_below t.paths p) (apart p t.pairs) h)

pub fits_from : (t : Task) (p : Plan) → length p ≡ t.trains → T (all_below t.paths p) → T (apart p t.pairs) → T (fits t p)
fits_from t p l b a =
    and_i (eqb (length p) t.trains && all_below t.paths p) (apart p t.pairs) (and_i (eqb (length p) t.trains) (all_below t.paths p) (rw l (eqb_refl t.trains)) b) a

-- the plan gives the two trains of pair i paths that are there, and not the same: no more is needed of it where this pair is asked for
abbrev pub FitsAt : Task → Plan → ℕ → Type 0
FitsAt t p i = (at p (pair_at t i).a ≢ at p (pair_at t i).e) × (at p (pair_at t i).a < t.paths) × (at p (pair_at t i).e < t.paths)

pub pair-paths : (t : Task) → Good t → (p : Plan) → T (fits t p) → (i : ℕ) → i < length t.pairs → FitsAt t p i
pair-paths t good p fp i l =
    let f = fits-parts t p fp in
    let s = pairs-at t.trains t.pairs (record { a = 0; e = 0 }) good.0 i l in
    (apart-at p t.pairs (record { a = 0; e = 0 }) f.2 i l, below_at t.paths p f.1 (pair_at t i).a (omega arith), below_at t.paths p f.1 (pair_at t i).e (omega arith))

module _ (t : Task) (i : ℕ) where
  beta_at-inside : (p q : Plan) → FitsAt t p i → FitsAt t q i → (x : ℕ) → x < t.paths → beta_at t p q i x < t.paths
  beta_at-inside p q hp hq x xk =
      beta-inside (at p (pair_at t i).a) (at p (pair_at t i).e) (at q (pair_at t i).a) (at q (pair_at t i).e) hp.0 hq.0 t.paths hp.1 hp.2 hq.1 hq.2 x xk

  beta_at-back : (p q : Plan) → FitsAt t p i → FitsAt t q i → (x : ℕ) → beta_at t q p i (beta_at t p q i x) ≡ x
  beta_at-back p q hp hq x = beta-back (at p (pair_at t i).a) (at p (pair_at t i).e) (at q (pair_at t i).a) (at q (pair_at t i).e) hp.0 hq.0 x

  module _ (p q : Plan) (hp : FitsAt t p i) (hq : FitsAt t q i) (c : Coin) where
    order_at_lem : (x : ℕ) → x < t.paths → at (pair_coin t p q i c).order x ≡ at c.order (beta_at t p q i x)
    order_at_lem x xk = at_made (λ x. at c.order (beta_at t p q i x)) t.paths x xk

    pub coin_round : round t p c i ≡ round t q (pair_coin t p q i c) i
    coin_round =
        let one = order_at_lem (at q (pair_at t i).a) hq.1 ∙ ap (at c.order) (beta-first (at p (pair_at t i).a) (at p (pair_at t i).e) (at q (pair_at t i).a) (at q (pair_at t i).e) hp.0 hq.0) in
        let two = order_at_lem (at q (pair_at t i).e) hq.2 ∙ ap (at c.order) (beta-second (at p (pair_at t i).a) (at p (pair_at t i).e) (at q (pair_at t i).a) (at q (pair_at t i).e) hp.0 hq.0) in
        rw (one, two)

    pub coin_fits : IsCoin t c → IsCoin t (pair_coin t p q i c)
    coin_fits h =
        (long, at-different (pair_coin t p q i c).order apart', at-below t.paths (pair_coin t p q i c).order below, h.3, h.4)
      where
        long : length (pair_coin t p q i c).order ≡ t.paths
        long = length_made (λ x. at c.order (beta_at t p q i x)) t.paths

        below : (x : ℕ) → x < length (pair_coin t p q i c).order → at (pair_coin t p q i c).order x < t.paths
        below x m =
            let xk : x < t.paths = omega (arith, long) in
            rw (order_at_lem x xk) (below_at t.paths c.order h.2 (beta_at t p q i x) (omega (arith, beta_at-inside p q hp hq x xk)))

        apart' : (x y : ℕ) → x < y → y < length (pair_coin t p q i c).order → at (pair_coin t p q i c).order x ≢ at (pair_coin t p q i c).order y
        apart' x y xy m e =
            let yk : y < t.paths = omega (arith, long) in
            let xk : x < t.paths = omega arith in
            let bx = beta_at-inside p q hp hq x xk in
            let by = beta_at-inside p q hp hq y yk in
            let same = same_place c.order h.1 (beta_at t p q i x) (beta_at t p q i y) (omega arith) (omega arith) (sym (order_at_lem x xk) ∙ e ∙ order_at_lem y yk) in
            omega (arith, sym (beta_at-back p q hp hq x) ∙ ap (beta_at t q p i) same ∙ beta_at-back p q hp hq y)

    pub coin_back : IsCoin t c → pair_coin t q p i (pair_coin t p q i c) ≡ c
    coin_back h = λ j. record { order = orders j; chances = c.chances }
      where
        orders : (pair_coin t q p i (pair_coin t p q i c)).order ≡ c.order
        orders =
            let long = length_made (λ x. at (pair_coin t p q i c).order (beta_at t q p i x)) t.paths in
            ext_get_or 0 (pair_coin t q p i (pair_coin t p q i c)).order c.order (omega arith) λ x m.
            let xk : x < t.paths = omega arith in
            at_made (λ x. at (pair_coin t p q i c).order (beta_at t q p i x)) t.paths x xk ∙ order_at_lem (beta_at t q p i x) (beta_at-inside q p hq hp x xk) ∙ ap (at c.order) (beta_at-back q p hq hp x)

pub paired_at : (t : Task) (i : ℕ) (p q : Plan) → FitsAt t p i → FitsAt t q i → PairedCoin t p q i
paired_at t i p q hp hq =
    let a = at p (pair_at t i).a in
    let b = at p (pair_at t i).e in
    let c = at q (pair_at t i).a in
    let d = at q (pair_at t i).e in
    record {
      order_is = order_at_lem t i p q hp hq;
      first = beta-first a b c d hp.0 hq.0;
      second = beta-second a b c d hp.0 hq.0;
      other = λ x o. rw (beta-other a b c d hp.0 hq.0 x o.0 o.1) (nth-other a b (rank c d x) hp.0);
      matched = beta-matched a b c d hp.0 hq.0 t.paths hp.1 hp.2 hq.1 hq.2;
      only = beta-only a b c d hp.0 hq.0 t.paths hp.1 hp.2 hq.1 hq.2;
      rising = λ x y ox oy. beta-rising a b c d hp.0 hq.0 x y ox.0 ox.1 oy.0 oy.1;
      inside = beta_at-inside t i p q hp hq;
      inverse = beta_at-back t i p q hp hq;
      first_order = λ c. ap (λ s. s.first.holds) (sym (coin_round t i p q hp hq c));
      second_order = λ c. ap (λ s. s.second.holds) (sym (coin_round t i p q hp hq c));
      chances_stay = λ c. refl;
      is_coin = coin_fits t i p q hp hq;
      back = coin_back t i p q hp hq;
    }

pub pairs_coin : PairsCoin
pairs_coin t good p q fp fq i l = paired_at t i p q (pair-paths t good p fp i l) (pair-paths t good q fq i l)
