-- The built task has a plan that fits exactly if the first task has one that fits and keeps the prohibitions.
-- Assumes nothing.
use Rattle.std.proofs.Common.{◌≡◌, ℕ, zero, suc, ◌+◌, ◌<◌, ◌≤◌, true, not, ◌&&◌, T, eqb, List, [], ◌∷◌, ◌++◌, map, length, take, drop, refl, ap, ◌∙◌, arith, length-append, length-drop, take-suc}
use lib.ListN.{length-map}
use Rattle.std.proofs.lemmas.List.{get_or-map, get_or-take, get_or-drop, take_all, take_at, drop_at, length-take-le}
use Rattle.std.proofs.lemmas.Bool.Decides.{nat_tests}
use Rattle.paths.specs.Plan.{Task, Pair, Plan, at, all_below, apart, fits, different, is_in}
use Rattle.paths.specs.Cheat.{up_to}
use Rattle.tasks.specs.Task.{rising, lowest, sound}
use Rattle.prohibitions.specs.declared.prohibiting.Prohibition.{Prohibition}
use Rattle.prohibitions.specs.Prohibiting.{Fixes, with_each, every_two, pair_for, built, named, keeps, extended, renamed, place}
use Rattle.prohibitions.proofs.Pigeon.{each_in}
use Rattle.prohibitions.proofs.Puts.{apart-put_all}
use Rattle.prohibitions.proofs.Places.{below-append, below_at, below_from, is_in_push, different_push, at_place, place_at, length-up_to, below-up_to, different-up_to, place-up_to}

apart-append : (p : Plan) (xs ys : List Pair) → apart p (xs ++ ys) ≡ (apart p xs && apart p ys)
unfolding apart
apart-append p [] ys = refl
apart-append p (x ∷ xs) ys = let h = apart-append p xs ys in grind arith

-- the trains from n on are apart exactly if their paths differ
apart-each : (n j : ℕ) (q : Plan) (i : ℕ) → i ≤ length (drop n q) → apart q (with_each n j i) ≡ not (is_in (at q (n + j)) (take i (drop n q)))
unfolding apart with_each is_in
apart-each n j q zero l = refl
apart-each n j q (suc i) l =
    rw (take-suc (drop n q) i 0, is_in_push, get_or-drop n q i 0, apart-append q (with_each n j i), apart-each n j q i (omega arith)) (grind (arith, nat_tests))

apart-two : (n : ℕ) (q : Plan) (j : ℕ) → j ≤ length (drop n q) → apart q (every_two n j) ≡ different (take j (drop n q))
unfolding apart every_two different
apart-two n q zero l = refl
apart-two n q (suc j) l =
    rw (take-suc (drop n q) j 0, different_push, get_or-drop n q j 0, apart-append q (every_two n j), apart-two n q j (omega arith), apart-each n j q j (omega arith))

length_rest : (n k : ℕ) (q : Plan) → length q ≡ n + k → length (drop n q) ≡ k
length_rest n k q l = rw length-drop (omega arith)

built-apart : (t : Task) (bs : List Prohibition) (q : Plan) → length q ≡ t.trains + t.paths →
    apart q (built t bs).pairs ≡ (apart q (map (pair_for t.trains) bs) && (different (drop t.trains q) && apart q t.pairs))
built-apart t bs q len =
    let l = length_rest t.trains t.paths q len in
    rw (apart-put_all, apart-put_all, apart-two t.trains q t.paths (omega arith), take_all t.paths (drop t.trains q) (omega arith))

same_test : (a b c d : ℕ) → (a ≡ b → c ≡ d) → (c ≡ d → a ≡ b) → eqb a b ≡ eqb c d
same_test a b c d f g = grind (arith, nat_tests)

fits-parts : (t : Task) (p : Plan) → T (fits t p) → (length p ≡ t.trains) × (all_below t.paths p ≡ true) × (apart p t.pairs ≡ true)
fits-parts t p f = grind (arith, nat_tests)

fits_from : (t : Task) (p : Plan) → length p ≡ t.trains → all_below t.paths p ≡ true → apart p t.pairs ≡ true → T (fits t p)
fits_from t p l b a = grind (arith, nat_tests)

-- a plan of the built task's trains of which the more ones have different paths, and the first ones under their new names
module _ (t : Task) (q : Plan) (len : length q ≡ t.trains + t.paths) (below : all_below t.paths q ≡ true) (diff : different (drop t.trains q) ≡ true) where
  abbrev n : ℕ
  n = t.trains

  abbrev k : ℕ
  k = t.paths

  abbrev new : Plan
  new = renamed t q

  length_new : length new ≡ n
  length_new = rw length-map (length-take-le n q (omega arith))

  new_at : (i : ℕ) → i < n → at new i ≡ place (drop n q) (at q i)
  new_at i l = get_or-map (place (drop n q)) (take n q) i 0 0 (omega (arith, length-take-le n q (omega arith))) ∙ ap (place (drop n q)) (get_or-take n q i 0 l)

  new_tells : (i : ℕ) → i < n → (at new i < k) × (at q i ≡ at q (n + at new i))
  new_tells i l =
      let rest = length_rest n k q len in
      let b = below_from k (drop n q) (λ j h. rw get_or-drop (below_at k q (n + j) below (omega arith))) in
      let p = at_place (at q i) (drop n q) (each_in k (at q i) (drop n q) diff b rest (below_at k q i below (omega arith))) in
      rw (new_at i l, ← get_or-drop n q (place (drop n q) (at q i)) 0) (omega arith)

  new_below : all_below k new ≡ true
  new_below = below_from k new (λ i l. (new_tells i (omega (arith, length_new))).0)

  same_names : (i j : ℕ) → i < n → j < n → eqb (at new i) (at new j) ≡ eqb (at q i) (at q j)
  same_names i j l m =
      let a = (new_tells i l).1 in
      let b = (new_tells j m).1 in
      let c = new_at i l in
      let d = new_at j m in
      same_test _ _ _ _ (λ e. cc) (λ e. cc)

  same_path : (i j : ℕ) → i < n → j < k → eqb (at new i) j ≡ eqb (at q i) (at q (n + j))
  same_path i j l m =
      let a = (new_tells i l).1 in
      let b = place_at (drop n q) j diff (omega (arith, length_rest n k q len)) in
      let c = new_at i l in
      let d = get_or-drop n q j 0 in
      same_test _ _ _ _ (λ e. cc) (λ e. cc)

  new_apart : (last : Pair) (xs : List Pair) → rising n last xs ≡ true → apart q xs ≡ apart new xs
  unfolding rising apart
  new_apart last [] r = refl
  new_apart last (x ∷ xs) r =
      let h = new_apart x xs in
      let e = same_names x.a x.e in
      grind (arith, nat_tests)

  new_keeps : (bs : List Prohibition) → named t bs ≡ true → apart q (map (pair_for n) bs) ≡ keeps bs new
  unfolding named apart keeps
  new_keeps [] m = refl
  new_keeps (b ∷ bs) m =
      let h = new_keeps bs in
      let e = same_path b.train b.path in
      grind (arith, nat_tests)

  new_fits : (bs : List Prohibition) → sound t ≡ true → named t bs ≡ true → apart q (built t bs).pairs ≡ (keeps bs new && apart new t.pairs)
  new_fits bs s m =
      let r : rising n lowest t.pairs ≡ true = grind arith in
      rw (built-apart t bs q len, diff, new_keeps bs m, new_apart lowest t.pairs r)

named_back : (k : ℕ) (p : Plan) → all_below k p ≡ true → map (place (up_to k)) p ≡ p
unfolding all_below
named_back k [] b = refl
named_back k (x ∷ xs) b =
    let h : map (place (up_to k)) xs ≡ xs = named_back k xs (grind arith) in
    let e : place (up_to k) x ≡ x = place-up_to k x (grind (arith, nat_tests)) in
    cc

returned : (t : Task) (p : Plan) → T (fits t p) → renamed t (extended t p) ≡ p
returned t p f =
    let (l, b, _) = fits-parts t p f in
    rw (take_at p (up_to t.paths) t.trains l, drop_at p (up_to t.paths) t.trains l) (named_back t.paths p b)

pub fixes : (t : Task) (bs : List Prohibition) → sound t ≡ true → named t bs ≡ true → Fixes t bs (built t bs)
fixes t bs s m =
    record {
      extends = extends;
      restricts = restricts;
      names =
          λ q f i l.
          let (len, below, a) = fits-parts (built t bs) q f in
          (new_tells t q len below (differ q len a) i l).1;
      returns = returned t;
    }
  where
    differ : (q : Plan) → length q ≡ t.trains + t.paths → apart q (built t bs).pairs ≡ true → different (drop t.trains q) ≡ true
    differ q len a = let e = built-apart t bs q len in grind arith

    extends : (p : Plan) → T (fits t p) → T (keeps bs p) → T (fits (built t bs) (extended t p))
    extends p f kept =
        let (l, b, a) = fits-parts t p f in
        let q = extended t p in
        let k = t.paths in
        let len : length q ≡ t.trains + k = rw length-append (omega (arith, length-up_to k)) in
        let below : all_below k q ≡ true = rw (below-append k p (up_to k), b, below-up_to k k (omega arith)) in
        let diff : different (drop t.trains q) ≡ true = rw (drop_at p (up_to k) t.trains l) (different-up_to k) in
        fits_from (built t bs) q len below (rw (new_fits t q len below diff bs s m, returned t p f) (grind arith))

    restricts : (q : Plan) → T (fits (built t bs) q) → T (fits t (renamed t q)) × T (keeps bs (renamed t q))
    restricts q f =
        let (len, below, a) = fits-parts (built t bs) q f in
        let d = differ q len a in
        let e = new_fits t q len below d bs s m in
        (fits_from t (renamed t q) (length_new t q len below d) (new_below t q len below d) (grind arith), grind arith)
