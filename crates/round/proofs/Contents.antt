-- An Opened is accepted exactly where it contents the asker. Assumes nothing.
use Rattle.std.proofs.Common.{◌≡◌, ℕ, ◌<◌, Bool, true, false, cond, not, ◌&&◌, eqb, ltb, ◌⊎◌, List, [], ◌∷◌, length, sym, refl, ap, ◌∙◌, inl, inr, arith}
use Rattle.std.proofs.lemmas.List.{get_or_past}
use Rattle.std.proofs.lemmas.Bool.{cases_Bool, eqb-true, ltb-true, ltb-false, lt-ltb, eq-eqb, ne_eqb, and_parts, false≢true}
use Rattle.paths.specs.Plan.{Task}
use Rattle.paths.specs.Show.{pair_at}
use Rattle.paths.proofs.Rows.{pairs-at}
use Rattle.paths.proofs.Same.{same_decides}
use Rattle.tasks.specs.Reading.{Got, Looked, got, refused, and_then}
use Rattle.tasks.specs.Task.{sound, lowest}
use Rattle.tasks.proofs.TaskLaws.{guarantees}
use Rattle.tasks.proofs.Units.{cond-got, then_got}
use Rattle.boxes.specs.Box.{Opening}
use Rattle.words.specs.Said.{Said, task, plan, boxes, ask, opened, end}
use Rattle.words.specs.Reading.{read_word}
use Rattle.words.specs.Writing.{is_got}
use Rattle.round.specs.Contents.{Contents, Exact}
use Rattle.round.specs.Round.{opens_in, content_with, test_opened}
use Rattle.round.proofs.Rounds.{rising_in}

module _ (H : List ℕ → List ℕ) (t : Task) (good : sound t ≡ true) where
  -- the trains of each pair are there, and so are those that stand for a pair that isn't there
  trains-there : (i : ℕ) → ((pair_at t i).a < t.trains) × ((pair_at t i).e < t.trains)
  trains-there i = go (cases_Bool (ltb i (length t.pairs)))
    where
      go : (ltb i (length t.pairs) ≡ true) ⊎ (ltb i (length t.pairs) ≡ false) → ((pair_at t i).a < t.trains) × ((pair_at t i).e < t.trains)
      go (inl e) = pairs-at t.trains t.pairs lowest (rising_in t.trains lowest t.pairs (guarantees t good).rises) i (ltb-true _ _ e)
      go (inr e) = rw (get_or_past t.pairs i lowest (ltb-false i (length t.pairs) e)) (omega (arith, (guarantees t good).some_train), omega (arith, (guarantees t good).some_train))

  module _ (n i : ℕ) (ds : List ℕ) where
    accepted : (r : ℕ) (x y : Opening) → test_opened H t n i ds (opened r x y) ≡ got tt → (r ≡ n) × Contents H t n i ds x y
    accepted r x y e =
        let there = ltb x.train t.trains && ltb y.train t.trains in
        let a = cond-got there 2 _ tt e in
        let b = cond-got (eqb r n) 6 _ tt a.1 in
        let c = cond-got (eqb x.train (pair_at t i).a && eqb y.train (pair_at t i).e) 8 _ tt b.1 in
        let d = cond-got (opens_in H n ds x && opens_in H n ds y) 9 _ tt c.1 in
        let f = cond-got (content_with t.paths x.number y.number) 10 _ tt d.1 in
        let trains = and_parts _ _ c.0 in
        let opens = and_parts (opens_in H n ds x) (opens_in H n ds y) d.0 in
        let numbers = and_parts _ (not (eqb x.number y.number)) f.0 in
        let lows = and_parts _ _ numbers.0 in (
          eqb-true _ _ b.0,
          record {
            first = eqb-true _ _ trains.0;
            second = eqb-true _ _ trains.1;
            first_opens = (same_decides _ _).0 opens.0;
            second_opens = (same_decides _ _).0 opens.1;
            first_there = ltb-true _ _ lows.0;
            second_there = ltb-true _ _ lows.1;
            different = λ q. false≢true (sym (ap not (eq-eqb _ _ q)) ∙ numbers.1);
          },
        )

    pub accepts : (x y : Opening) → Contents H t n i ds x y → test_opened H t n i ds (opened n x y) ≡ got tt
    accepts x y c =
        let a : x.train < t.trains = rw c.first (trains-there i).0 in
        let b : y.train < t.trains = rw c.second (trains-there i).1 in
        rw (
          lt-ltb x.train t.trains a,
          lt-ltb y.train t.trains b,
          eq-eqb n n refl,
          eq-eqb x.train _ c.first,
          eq-eqb y.train _ c.second,
          (same_decides _ _).1 c.first_opens,
          (same_decides _ _).1 c.second_opens,
          lt-ltb x.number _ c.first_there,
          lt-ltb y.number _ c.second_there,
          ne_eqb _ _ c.different,
        )
        refl

    -- a word that passes the test
    pub passed : (v : Said) → test_opened H t n i ds v ≡ got tt → (x y : Opening) × (v ≡ opened n x y) × Contents H t n i ds x y
    passed (task bs) h = cc
    passed (plan p) h = cc
    passed (boxes r bs) h = cc
    passed (ask r j) h = cc
    passed (opened r x y) h = let c = accepted r x y h in (x, y, ap (λ m. opened m x y) c.0, c.1)
    passed (end r c) h = cc

    pub contents : (w : List ℕ) → and_then (read_word t w) (test_opened H t n i ds) ≡ got tt → (x y : Opening) × (read_word t w ≡ got (opened n x y)) × Contents H t n i ds x y
    contents w h =
        let p = then_got (read_word t w) (test_opened H t n i ds) tt h in
        let q = passed p.0 p.2 in
        (q.0, q.1, p.1 ∙ ap got q.2, q.3)

  pub exact : Exact H t
  exact n i ds v = (
    (λ e. passed n i ds v (is_got_lem (test_opened H t n i ds v) e)),
    λ q. ap is_got (ap (test_opened H t n i ds) q.2 ∙ accepts n i ds q.0 q.1 q.3),
  )
    where
      is_got_lem : (g : Got Looked) → is_got g ≡ true → g ≡ got tt
      is_got_lem (got u) e = refl
      is_got_lem (refused f) e = absurd (false≢true e)
