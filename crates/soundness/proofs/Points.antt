-- One point of the line: where the asker accepts an answer to every question and no two texts of the openings collide, they tell a plan that fits. Assumes nothing.
use Rattle.std.proofs.Common.{◌≡◌, ℕ, zero, suc, ◌^◌, ◌<◌, Bool, true, false, cond, T, eqb, ◌≢◌, List, [], ◌∷◌, ◌++◌, map, length, drop, sym, refl, ap, ◌∙◌, subst, inl, inr, arith}
use Rattle.std.specs.List.{AllByRecursion as All}
use Rattle.std.proofs.ByRecursion.{All-append}
use Rattle.std.proofs.lemmas.Bool.{both_ways, cases_Bool, cases_eq, cond_both, eq-eqb, eqb-true, eqb-false, or_parts}
use Rattle.paths.specs.Plan.{Task, Plan, Good, at, fits}
use Rattle.paths.specs.Show.{pair_at}
use Rattle.paths.proofs.Rows.{at-below, at-apart, pairs-at, at_made, length_made}
use Rattle.paths.proofs.Paired.{fits_from}
use Rattle.tasks.specs.Reading.{Got, Looked, got, refused}
use Rattle.tasks.specs.Task.{sound, lowest}
use Rattle.tasks.proofs.TaskLaws.{guarantees}
use Rattle.boxes.specs.Box.{Opening, text_of}
use Rattle.boxes.specs.Binding.{collides, texts_of}
use Rattle.paths.proofs.Same.{same_decides}
use Rattle.boxes.proofs.Binds.{opened-same}
use Rattle.words.specs.Said.{opened}
use Rattle.words.specs.Writing.{is_got}
use Rattle.round.specs.Line.{Event, Other}
use Rattle.round.specs.Round.{part_of}
use Rattle.round.proofs.Rounds.{rising_in}
use Rattle.asking.specs.Asking.{Ready}
use Rattle.round.specs.Contents.{Contents}
use Rattle.round.proofs.Contents.{contents}
use Rattle.soundness.specs.Texts.{says, answer, accepted, openings_of, openings, of_train, twos, texts_at}
use Rattle.soundness.specs.Found.{SaidThere}
use Rattle.soundness.specs.Knows.{number_of, plan_at}
use Rattle.soundness.proofs.Runs.{accepts}
use Rattle.soundness.proofs.Hits.{hit, hit_more, hit_append}

all-parts : {X : Type 0} (P : X → Type 0) (xs ys : List X) → All P (xs ++ ys) → All P xs × All P ys
all-parts P [] ys h = (tt, h)
all-parts P (x ∷ xs) ys h = let q = all-parts P xs ys h.1 in ((h.0, q.0), q.1)

-- openings that agree: no two of one train with different numbers
abbrev Same : Opening → Opening → Type 0
Same x y = x.train ≡ y.train → x.number ≡ y.number

abbrev Agree : List Opening → Type 0
Agree [] = Unit {0}
Agree (x ∷ xs) = All (Same x) xs × Agree xs

abbrev Tells : List Opening → Opening → Type 0
Tells xs x = number_of x.train xs ≡ x.number

tells_more : (x : Opening) (xs ys : List Opening) → All (Same x) ys → All (Tells xs) ys → All (Tells (x ∷ xs)) ys
unfolding number_of
tells_more x xs [] s h = tt
tells_more x xs (y ∷ ys) s h =
    let one = cond_both (eqb x.train y.train) x.number (number_of y.train xs) (λ n. n ≡ y.number) (λ e. s.0 (eqb-true _ _ e)) (λ _. h.0) in
    (one, tells_more x xs ys s.1 h.1)

tells : (xs : List Opening) → Agree xs → All (Tells xs) xs
unfolding number_of
tells [] a = tt
tells (x ∷ xs) a = (rw (eq-eqb x.train x.train refl), tells_more x xs xs a.0 (tells xs a.1))

number_below : (k j : ℕ) → 0 < k → (xs : List Opening) → All (λ x. x.number < k) xs → number_of j xs < k
unfolding number_of
number_below k j l [] h = l
number_below k j l (x ∷ xs) h = cond_both (eqb x.train j) x.number (number_of j xs) (λ n. n < k) (λ _. h.0) (λ _. number_below k j l xs h.1)

module _ (H : List ℕ → List ℕ) (n : ℕ) (ds : List ℕ) where
  abbrev pub Opens : Opening → Type 0
  Opens x = (x.train < 2 ^ 16) × (H (text_of n x) ≡ part_of ds x.train)

  agree-two : (x y : Opening) → Opens x → Opens y → collides H (texts_of n x y) ≡ false → Same x y
  agree-two x y o p c e =
      elim (opened-same x y H (part_of ds x.train) n o.0 p.0 ((same_decides _ _).1 o.1) ((same_decides _ _).1 (p.1 ∙ ap (part_of ds) (sym e)))) [
        | inl q ↦ ap (λ z. z.number) q
        | inr q ↦ absurd (both_ways _ c q)
      ]

  -- an opening and those of its train
  agree-one : (x : Opening) → Opens x → (ys : List Opening) → All Opens ys → hit H (map (texts_of n x) (of_train x.train ys)) ≡ false → All (Same x) ys
  agree-one x o [] os e = tt
  agree-one x o (y ∷ ys) os e = go (eqb y.train x.train) refl e (agree-one x o ys os.1)
    where
      mine : List Opening
      mine = of_train x.train ys

      go : (b : Bool) → eqb y.train x.train ≡ b → hit H (map (texts_of n x) (cond b (y ∷ mine) mine)) ≡ false →
          (hit H (map (texts_of n x) mine) ≡ false → All (Same x) ys) → All (Same x) (y ∷ ys)
      go true t e later =
          let p = or_parts (collides H (texts_of n x y)) (hit H (map (texts_of n x) mine)) (sym (hit_more H (texts_of n x y) (map (texts_of n x) mine)) ∙ e) in
          (agree-two x y o os.0 p.0, later p.1)
      go false t e later = ((λ q. absurd (eqb-false _ _ t (sym q))), later e)

  agree : (xs : List Opening) → All Opens xs → hit H (twos n xs) ≡ false → Agree xs
  unfolding twos
  agree [] os e = tt
  agree (x ∷ xs) os e =
      let mine = map (texts_of n x) (of_train x.train xs) in
      let p = or_parts (hit H mine) (hit H (twos n xs)) (sym (hit_append H mine (twos n xs)) ∙ e) in
      (agree-one x os.0 xs os.1 p.0, agree xs os.1 p.1)

module _ (H : List ℕ → List ℕ) (other : Other) (s : Ready) (good : sound s.task ≡ true) (line : List Event) where
  abbrev pub t : Task
  t = s.task

  abbrev pub ds : List ℕ
  ds = drop 7 (other line)

  pub good_task : Good t
  good_task =
      let g = guarantees t good in
      (rising_in t.trains lowest t.pairs g.rises, omega (arith, g.some_pair), omega (arith, g.some_path))

  -- an accepted answer has two openings that content the asker
  two : (i : ℕ) → accepts H other s line i ≡ true → (x y : Opening) × (answer other s line i ≡ got (opened s.round x y)) × (accepted H other s line i ≡ (x ∷ y ∷ [])) × Contents H t s.round i ds x y
  two i e =
      let c = contents H t good s.round i ds (says other s line i) (is_got_lem _ e) in
      (c.0, c.1, c.2, ap (λ b. cond b (openings_of (answer other s line i)) []) e ∙ ap openings_of c.2, c.3)
    where
      is_got_lem : (g : Got Looked) → is_got g ≡ true → g ≡ got tt
      is_got_lem (got u) e = refl
      is_got_lem (refused f) e = absurd (both_ways _ refl e)

  -- what holds of any two openings that content the asker holds of all that are accepted
  of_accepted : (P : Opening → Type 0) (i : ℕ) → ((x y : Opening) → answer other s line i ≡ got (opened s.round x y) → Contents H t s.round i ds x y → P x × P y) → All P (accepted H other s line i)
  of_accepted P i h =
      elim (cases_Bool (accepts H other s line i)) [
        | inl e ↦ (
            let c = two i e in
            let p = h c.0 c.1 c.2 c.4 in
            subst (All P) (sym c.3) (p.0, (p.1, tt)))
        | inr e ↦ subst (λ b. All P (cond b (openings_of (answer other s line i)) [])) (sym e) tt
      ]

  of_all : (P : Opening → Type 0) (m : ℕ) → ((i : ℕ) → i < m → (x y : Opening) → answer other s line i ≡ got (opened s.round x y) → Contents H t s.round i ds x y → P x × P y) → All P (openings H other s line m)
  unfolding openings
  of_all P zero h = tt
  of_all P (suc m) h = All-append P (openings H other s line m) (accepted H other s line m) (of_all P m (λ i l. h i (omega arith))) (of_accepted P m (h m (omega arith)))

  there : (i : ℕ) → i < length t.pairs → ((pair_at t i).a < t.trains) × ((pair_at t i).e < t.trains)
  there = pairs-at t.trains t.pairs lowest good_task.0

  few : {a b : ℕ} → a ≡ b → b < t.trains → a < 2 ^ 16
  few e l = omega (arith, (guarantees t good).few_trains)

  abbrev pub all : List Opening
  all = openings H other s line (length t.pairs)

  pub all_open : All (Opens H s.round ds) all
  all_open = of_all (Opens H s.round ds) (length t.pairs) (λ i l x y a k. ((few k.first (there i l).0, k.first_opens), (few k.second (there i l).1, k.second_opens)))

  pub all_said : All (SaidThere other s line) all
  all_said = of_all (SaidThere other s line) (length t.pairs) (λ i l x y a k. ((i, x, y, a, inl refl), (i, x, y, a, inr refl)))

  -- what holds of all openings holds of those of one question
  of_one : (P : Opening → Type 0) (m : ℕ) → All P (openings H other s line m) → (i : ℕ) → i < m → All P (accepted H other s line i)
  unfolding openings
  of_one P zero h i l = absurd (omega arith)
  of_one P (suc m) h i l =
      let q = all-parts P (openings H other s line m) (accepted H other s line m) h in
      elim (cases_eq i m) [ inl e ↦ subst (λ j. All P (accepted H other s line j)) (sym e) q.1 | inr ne ↦ of_one P m q.0 i (omega arith) ]

  abbrev told : ℕ → ℕ
  told j = number_of j all

  abbrev plan : Plan
  plan = plan_at H other s line

  told_below : (j : ℕ) → told j < t.paths
  told_below j = number_below t.paths j good_task.2 all (of_all (λ x. x.number < t.paths) (length t.pairs) (λ i l x y a k. (k.first_there, k.second_there)))

  module _ (e : hit H (texts_at H other s line) ≡ false) (h : (i : ℕ) → i < length t.pairs → accepts H other s line i ≡ true) where
    -- the two trains of each pair have the numbers that they were opened with
    differ : (i : ℕ) → i < length t.pairs → at plan (pair_at t i).a ≢ at plan (pair_at t i).e
    differ i l =
        let c = two i (h i l) in
        let k = c.4 in
        let agreed = agree H s.round ds all all_open e in
        let said = subst (All (Tells all)) c.3 (of_one (Tells all) (length t.pairs) (tells all agreed) i l) in
        let x = at_made told t.trains (pair_at t i).a (there i l).0 ∙ ap told (sym k.first) ∙ said.0 in
        let y = at_made told t.trains (pair_at t i).e (there i l).1 ∙ ap told (sym k.second) ∙ said.1.0 in
        rw (x, y) k.different

    pub plan-fits : T (fits t plan)
    plan-fits =
        let long = length_made told t.trains in
        fits_from t plan long (at-below t.paths plan (λ j l. rw (at_made told t.trains j (omega arith)) (told_below j))) (at-apart plan t.pairs lowest differ)
