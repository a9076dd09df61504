-- A plan that fits makes an asker content; and boxes that make it content for every pair hold a plan that fits. Assumes nothing.
use Rattle.std.proofs.Common.{◌≡◌, ℕ, ◌<◌, true, cond, not, ◌&&◌, T, eqb, ltb, ◌≢◌, List, [], ◌∷◌, ◌++◌, length, refl, ◌∙◌, arith, ltb→lt, lt→ltb}
use lib.Ieee.Fits.{and_i, and_l, and_r}
use Rattle.std.specs.List.{AllByRecursion as All}
use Rattle.std.proofs.lemmas.List.{get_or-map, length-map}
use Rattle.std.proofs.lemmas.Bool.{lt-ltb, cond_both, ltb-true}
use Rattle.paths.specs.Plan.{Task, Pair, Plan, Good, at, fits, all_below}
use Rattle.paths.specs.Show.{Coin, Asker, Shown, round, rounds, within, pair_at, content, all_content}
use Rattle.paths.specs.Cheat.{shown_by}
use Rattle.paths.specs.Promise.{IsCoin, Passes, Reads}
use Rattle.paths.specs.Clip.{clip, ReadsClipped}
use Rattle.paths.proofs.Rows.{ne→neqb, neqb→ne, below_parts, below_at, at-below, at-apart, pairs-at, same_place}
use Rattle.paths.proofs.Paired.{fits_from, pair-paths}
use Rattle.paths.proofs.Coins.{all_coins}
use Rattle.paths.proofs.Alike.{within-there}

-- what it is to be content
content-says : (t : Task) (s : Shown) → T (content t s) → (s.first.holds < t.paths) × (s.second.holds < t.paths) × (s.first.holds ≢ s.second.holds)
content-says t s h =
    let x = s.first.holds in
    let y = s.second.holds in
    let g = and_l (ltb x t.paths && ltb y t.paths) (not (eqb x y)) h in
    (ltb→lt x t.paths (and_l (ltb x t.paths) (ltb y t.paths) g), ltb→lt y t.paths (and_r (ltb x t.paths) (ltb y t.paths) g), neqb→ne x y (and_r (ltb x t.paths && ltb y t.paths) (not (eqb x y)) h))

content_from_lem : (t : Task) (s : Shown) → s.first.holds < t.paths → s.second.holds < t.paths → s.first.holds ≢ s.second.holds → T (content t s)
content_from_lem t s l m n =
    let x = s.first.holds in
    let y = s.second.holds in
    and_i (ltb x t.paths && ltb y t.paths) (not (eqb x y)) (and_i (ltb x t.paths) (ltb y t.paths) (lt→ltb x t.paths l) (lt→ltb y t.paths m)) (ne→neqb x y n)

content_push : (t : Task) (ss : List Shown) (s : Shown) → T (all_content t ss) → T (content t s) → T (all_content t (ss ++ (s ∷ [])))
unfolding all_content
content_push t [] s h g = and_i (content t s) true g tt
content_push t (x ∷ xs) s h g = and_i (content t x) (all_content t (xs ++ (s ∷ []))) (and_l (content t x) (all_content t xs) h) (content_push t xs s (and_r (content t x) (all_content t xs) h) g)

round-content : (t : Task) → Good t → (p : Plan) → T (fits t p) → (c : Coin) → IsCoin t c → (i : ℕ) → i < length t.pairs → T (content t (round t p c i))
round-content t good p fp c h i l =
    let g = pair-paths t good p fp i l in
    let x = at p (pair_at t i).a in
    let y = at p (pair_at t i).e in
    let xk : x < length c.order = omega arith in
    let yk : y < length c.order = omega arith in
    content_from_lem t (round t p c i) (below_at t.paths c.order h.2 x xk) (below_at t.paths c.order h.2 y yk) (λ e. g.0 (same_place c.order h.1 x y xk yk e))

rounds-content : (t : Task) → Good t → (p : Plan) → T (fits t p) → (f : Asker) (cs : List Coin) (ss : List Shown) → All (IsCoin t) cs → T (all_content t ss) → T (all_content t (rounds t p f cs ss))
unfolding rounds
rounds-content t good p fp f [] ss h g = g
rounds-content t good p fp f (c ∷ cs) ss h g =
    let s = round t p c (within t (f ss)) in
    rounds-content t good p fp f cs (ss ++ (s ∷ [])) h.1 (content_push t ss s g (round-content t good p fp c h.0 (within t (f ss)) (within-there t good (f ss))))

pub passes_all : Passes
unfolding all_content
passes_all t good p fp f r cs h = rounds-content t good p fp f cs [] (all_coins t cs h.1) tt

pub reads_clipped : ReadsClipped
reads_clipped t good b long h = record { fit = fits_from t (clip t.paths b) (length-map b to ∙ long) (at-below t.paths (clip t.paths b) below) (at-apart (clip t.paths b) t.pairs none apart'); kept = kept }
  where
    to : ℕ → ℕ
    to x = cond (ltb x t.paths) x 0

    none : Pair
    none = record { a = 0; e = 0 }

    to_same : (x : ℕ) → x < t.paths → to x ≡ x
    to_same x l = rw (lt-ltb x t.paths l)

    below : (x : ℕ) → x < length (clip t.paths b) → at (clip t.paths b) x < t.paths
    below x l = rw (get_or-map to b x 0 0 (omega (arith, length-map b to))) (cond_both (ltb (at b x) t.paths) (at b x) 0 (λ x. x < t.paths) (ltb-true (at b x) t.paths) (λ _. good.2))

    kept : (i : ℕ) → i < length t.pairs → (at (clip t.paths b) (pair_at t i).a ≡ at b (pair_at t i).a) × (at (clip t.paths b) (pair_at t i).e ≡ at b (pair_at t i).e)
    kept i l =
        let c = content-says t (shown_by t b i) (h i l) in
        let s = pairs-at t.trains t.pairs none good.0 i l in
        (get_or-map to b (pair_at t i).a 0 0 (omega arith) ∙ to_same (at b (pair_at t i).a) c.0, get_or-map to b (pair_at t i).e 0 0 (omega arith) ∙ to_same (at b (pair_at t i).e) c.1)

    apart' : (i : ℕ) → i < length t.pairs → at (clip t.paths b) (pair_at t i).a ≢ at (clip t.paths b) (pair_at t i).e
    apart' i l = let k = kept i l in rw (k.0, k.1) (content-says t (shown_by t b i) (h i l)).2

clip-same : (k : ℕ) (b : List ℕ) → T (all_below k b) → clip k b ≡ b
clip-same k [] h = refl
clip-same k (x ∷ xs) h = let g = below_parts k x xs h in rw (lt-ltb x k g.0, clip-same k xs g.1)

pub reads : Reads
reads t good b long below h = rw (clip-same t.paths b below) at (reads_clipped t good b long h).fit
