-- Of the faults of an answer that apply the lowest is told. Assumes nothing.
use Rattle.std.proofs.Common.{◌≡◌, ◌≢◌, ℕ, ◌≤◌, Bool, true, false, not, ◌&&◌, cond, eqb, ltb, ◌⊎◌, List, refl, ap, inl, inr, arith}
use Rattle.std.proofs.lemmas.Bool.{cases_Bool, and_cases, and_left, and_right, eq-eqb, ne_eqb, eqb-true, eqb-false, le-ltb, ltb-false}
use Rattle.paths.specs.Plan.{Task}
use Rattle.paths.specs.Show.{pair_at}
use Rattle.paths.specs.Count.{same_row}
use Rattle.paths.proofs.Same.{same_decides}
use Rattle.tasks.specs.Reading.{got, refused}
use Rattle.boxes.specs.Box.{Opening, text_of}
use Rattle.words.specs.Said.{Said, task, plan, boxes, ask, opened, end}
use Rattle.round.specs.Round.{part_of, opens_in, content_with, test_opened}
use Rattle.round.specs.Laws.{Applies, no_train, other_round, not_awaited, other_trains, not_opened, bad_number, Lowest, TellsLowest}

true_not : (b : Bool) → b ≡ true → b ≡ false → ⊥
true_not true e h = cc
true_not false e h = cc

differ : (xs ys : List ℕ) → same_row xs ys ≡ false → xs ≢ ys
differ xs ys h q = true_not _ ((same_decides xs ys).1 q) h

not_same : (xs ys : List ℕ) → xs ≢ ys → same_row xs ys ≡ false
not_same xs ys h = elim (cases_Bool (same_row xs ys)) [ inl e ↦ absurd (h ((same_decides xs ys).0 e)) | inr e ↦ e ]

not-false : (b : Bool) → not b ≡ false → b ≡ true
not-false true e = refl
not-false false e = cc

module _ (H : List ℕ → List ℕ) (t : Task) (n i : ℕ) (digests : List ℕ) (r : ℕ) (x y : Opening) where
  abbrev Fault : ℕ → Type 0
  Fault = Applies H t n i digests (opened r x y)

  abbrev there : Bool
  there = ltb x.train t.trains && ltb y.train t.trains

  abbrev trains : Bool
  trains = eqb x.train (pair_at t i).a && eqb y.train (pair_at t i).e

  abbrev opens : Bool
  opens = opens_in H n digests x && opens_in H n digests y

  abbrev content : Bool
  content = content_with t.paths x.number y.number

  -- what fails each test
  fails_2 : there ≡ false → Fault 2
  fails_2 h = elim (and_cases _ _ h) [ inl k ↦ no_train r x y (inl (ltb-false _ _ k)) | inr k ↦ no_train r x y (inr (ltb-false _ _ k)) ]

  fails_8 : trains ≡ false → Fault 8
  fails_8 h = elim (and_cases _ _ h) [ inl k ↦ other_trains r x y (inl (eqb-false _ _ k)) | inr k ↦ other_trains r x y (inr (eqb-false _ _ k)) ]

  fails_9 : opens ≡ false → Fault 9
  fails_9 h = elim (and_cases _ _ h) [ inl k ↦ not_opened r x y (inl (differ _ _ k)) | inr k ↦ not_opened r x y (inr (differ _ _ k)) ]

  fails_10 : content ≡ false → Fault 10
  fails_10 h =
      elim (and_cases _ _ h) [
        | inl k ↦ elim (and_cases _ _ k) [ inl m ↦ bad_number r x y (inl (inl (ltb-false _ _ m))) | inr m ↦ bad_number r x y (inl (inr (ltb-false _ _ m))) ]
        | inr k ↦ bad_number r x y (inr (eqb-true _ _ (not-false _ k)))
      ]

  -- and each fault that applies fails its test
  by_test : (P : ℕ → Type 0) → (there ≡ false → P 2) → (eqb r n ≡ false → P 6) → (trains ≡ false → P 8) → (opens ≡ false → P 9) → (content ≡ false → P 10) → (f : ℕ) → Fault f → P f
  by_test P a b c d e _ (no_train _ _ _ (inl h)) = a (and_left _ _ (le-ltb _ _ h))
  by_test P a b c d e _ (no_train _ _ _ (inr h)) = a (and_right _ _ (le-ltb _ _ h))
  by_test P a b c d e _ (other_round _ _ _ h) = b (ne_eqb r n h)
  by_test P a b c d e _ (not_awaited _ h) = absurd (h r x y refl)
  by_test P a b c d e _ (other_trains _ _ _ (inl h)) = c (and_left _ _ (ne_eqb _ _ h))
  by_test P a b c d e _ (other_trains _ _ _ (inr h)) = c (and_right _ _ (ne_eqb _ _ h))
  by_test P a b c d e _ (not_opened _ _ _ (inl h)) = d (and_left _ _ (not_same _ _ h))
  by_test P a b c d e _ (not_opened _ _ _ (inr h)) = d (and_right _ _ (not_same _ _ h))
  by_test P a b c d e _ (bad_number _ _ _ (inl (inl h))) = e (and_left _ _ (and_left _ _ (le-ltb _ _ h)))
  by_test P a b c d e _ (bad_number _ _ _ (inl (inr h))) = e (and_left _ _ (and_right _ _ (le-ltb _ _ h)))
  by_test P a b c d e _ (bad_number _ _ _ (inr h)) = e (and_right _ _ (ap not (eq-eqb _ _ h)))

  -- the tests in turn: where one fails its fault is told, and the tests before it passed
  by_10 : there ≡ true → eqb r n ≡ true → trains ≡ true → opens ≡ true → (b : Bool) → content ≡ b → Lowest Fault (cond b (got tt) (refused 10))
  by_10 c2 c6 c8 c9 true q = by_test (λ _. ⊥) (true_not _ c2) (true_not _ c6) (true_not _ c8) (true_not _ c9) (true_not _ q)
  by_10 c2 c6 c8 c9 false q = (
    fails_10 q,
    by_test (λ g. 10 ≤ g) (λ h. absurd (true_not _ c2 h)) (λ h. absurd (true_not _ c6 h)) (λ h. absurd (true_not _ c8 h)) (λ h. absurd (true_not _ c9 h)) (λ _. omega arith),
  )

  by_9 : there ≡ true → eqb r n ≡ true → trains ≡ true → (b : Bool) → opens ≡ b → Lowest Fault (cond b (cond content (got tt) (refused 10)) (refused 9))
  by_9 c2 c6 c8 true q = by_10 c2 c6 c8 q content refl
  by_9 c2 c6 c8 false q = (
    fails_9 q,
    by_test (λ g. 9 ≤ g) (λ h. absurd (true_not _ c2 h)) (λ h. absurd (true_not _ c6 h)) (λ h. absurd (true_not _ c8 h)) (λ _. omega arith) (λ _. omega arith),
  )

  by_8 : there ≡ true → eqb r n ≡ true → (b : Bool) → trains ≡ b → Lowest Fault (cond b (cond opens (cond content (got tt) (refused 10)) (refused 9)) (refused 8))
  by_8 c2 c6 true q = by_9 c2 c6 q opens refl
  by_8 c2 c6 false q = (fails_8 q, by_test (λ g. 8 ≤ g) (λ h. absurd (true_not _ c2 h)) (λ h. absurd (true_not _ c6 h)) (λ _. omega arith) (λ _. omega arith) (λ _. omega arith))

  by_6 : there ≡ true → (b : Bool) → eqb r n ≡ b →
      Lowest Fault (cond b (cond trains (cond opens (cond content (got tt) (refused 10)) (refused 9)) (refused 8)) (refused 6))
  by_6 c2 true q = by_8 c2 q trains refl
  by_6 c2 false q = (
    other_round r x y (eqb-false r n q),
    by_test (λ g. 6 ≤ g) (λ h. absurd (true_not _ c2 h)) (λ _. omega arith) (λ _. omega arith) (λ _. omega arith) (λ _. omega arith),
  )

  by_2 : (b : Bool) → there ≡ b →
      Lowest Fault (cond b (cond (eqb r n) (cond trains (cond opens (cond content (got tt) (refused 10)) (refused 9)) (refused 8)) (refused 6)) (refused 2))
  by_2 true q = by_6 q (eqb r n) refl
  by_2 false q = (fails_2 q, by_test (λ g. 2 ≤ g) (λ _. omega arith) (λ _. omega arith) (λ _. omega arith) (λ _. omega arith) (λ _. omega arith))

module _ (H : List ℕ → List ℕ) (t : Task) (n i : ℕ) (digests : List ℕ) where
  -- a word of another kind
  least : (w : Said) → ((r : ℕ) (x y : Opening) → w ≢ opened r x y) → (g : ℕ) → Applies H t n i digests w g → 6 ≤ g
  least _ h _ (no_train r x y k) = absurd (h r x y refl)
  least _ h _ (other_round r x y k) = omega arith
  least _ h _ (not_awaited _ k) = omega arith
  least _ h _ (other_trains r x y k) = omega arith
  least _ h _ (not_opened r x y k) = omega arith
  least _ h _ (bad_number r x y k) = omega arith

  other-word : (w : Said) → ((r : ℕ) (x y : Opening) → w ≢ opened r x y) → Applies H t n i digests w 6 × ((g : ℕ) → Applies H t n i digests w g → 6 ≤ g)
  other-word w h = (not_awaited w h, least w h)

pub tells_lowest : (H : List ℕ → List ℕ) → TellsLowest H
tells_lowest H t n i digests (opened r x y) = by_2 H t n i digests r x y _ refl
tells_lowest H t n i digests (task bs) = other-word H t n i digests (task bs) (λ r x y q. cc)
tells_lowest H t n i digests (plan p) = other-word H t n i digests (plan p) (λ r x y q. cc)
tells_lowest H t n i digests (boxes r ds) = other-word H t n i digests (boxes r ds) (λ r x y q. cc)
tells_lowest H t n i digests (ask r j) = other-word H t n i digests (ask r j) (λ r x y q. cc)
tells_lowest H t n i digests (end r c) = other-word H t n i digests (end r c) (λ r x y q. cc)
