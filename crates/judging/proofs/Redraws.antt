-- The finding of the plan and the drawn bytes is told exactly where it is so. Assumes nothing.
use Rattle.std.proofs.Common.{◌≡◌, ℕ, zero, suc, ◌+◌, ◌<◌, ◌≤◌, Bool, true, false, cond, not, eqb, ltb, ◌⊎◌, List, [], ◌∷◌, length, Some, None, Option, sym, refl, ap, ◌∙◌, inl, inr, arith}
use Rattle.std.proofs.lemmas.Bool.{cases_Bool, cases_lt, eqb-true, eqb-false, eq-eqb, ltb-true, ltb-false, lt-ltb, le-ltb, false≢true}
use Rattle.paths.specs.Plan.{Task, Plan}
use Rattle.paths.specs.Show.{pair_at}
use Rattle.paths.specs.Count.{same_row}
use Rattle.tasks.specs.Reading.{Got, got, refused}
use Rattle.boxes.specs.Box.{boxes_of}
use Rattle.paths.proofs.Same.{same_decides}
use Rattle.lots.specs.Lots.{Had, Lot, lot_in}
use Rattle.words.specs.Writing.{said_bytes}
use Rattle.round.specs.Round.{held, part_of, opened_for}
use Rattle.judging.specs.Verdict.{Redrawn, first_drawn}
use Rattle.cutting.specs.Cutting.{Round}
use Rattle.judging.specs.Judging.{digests_of, first_from, other_box, opening_in, other_opening, other_answer, or_else, other_train, differs_at, compared_in, left_in, redrawn_from}
use Rattle.judging.specs.Redrawing.{SameBox, SameBoxes, IsOpened, Same, Other, box, no_pair, first, second, Finds, all_agree, used_up, differ, agree, TellsDifference}

same_true : (xs ys : List ℕ) → xs ≡ ys → same_row xs ys ≡ true
same_true xs ys e = (same_decides xs ys).1 e

same_false : (xs ys : List ℕ) → (xs ≡ ys → ⊥) → same_row xs ys ≡ false
same_false xs ys ne = elim (cases_Bool (same_row xs ys)) [ inl e ↦ absurd (ne ((same_decides xs ys).0 e)) | inr e ↦ e ]

-- the first of m numbers from i on for which a test holds, or none
module _ (is : ℕ → Bool) where
  data First (i m : ℕ) : Option ℕ → Type 0 where
    found : (j : ℕ) → i ≤ j → j < i + m → ((k : ℕ) → i ≤ k → k < j → is k ≡ false) → is j ≡ true → First i m (Some j)
    none : ((k : ℕ) → i ≤ k → k < i + m → is k ≡ false) → First i m None

  also_false : (i : ℕ) → is i ≡ false → (m : ℕ) (o : Option ℕ) → First (i + 1) m o → First i (suc m) o
  also_false i e m o (found j a b c d) = found j (omega arith) (omega arith) (λ k x y. elim (cases_lt i k) [ inl h ↦ c k (omega arith) y | inr h ↦ (let z : k ≡ i = omega arith in rw z e) ]) d
  also_false i e m o (none c) = none (λ k x y. elim (cases_lt i k) [ inl h ↦ c k (omega arith) (omega arith) | inr h ↦ (let z : k ≡ i = omega arith in rw z e) ])

  first_of : (i m : ℕ) → First i m (first_from is i m)
  unfolding first_from
  first_of i zero = none (λ k x y. absurd (omega arith))
  first_of i (suc m) = go (is i) refl (first_of (i + 1) m)
    where
      go : (b : Bool) → is i ≡ b → First (i + 1) m (first_from is (i + 1) m) → First i (suc m) (cond b (Some i) (first_from is (i + 1) m))
      go true e f = found i (omega arith) (omega arith) (λ k x y. absurd (omega arith)) e
      go false e f = also_false i e m _ f

not_true : (b : Bool) → not b ≡ true → b ≡ false
not_true true e = absurd (false≢true e)
not_true false e = refl

not_false : (b : Bool) → not b ≡ false → b ≡ true
not_false true e = refl
not_false false e = absurd (false≢true (sym e))

both : (b : Bool) → b ≡ true → b ≡ false → ⊥
both b e f = false≢true (sym f ∙ e)

module _ (H : List ℕ → List ℕ) (t : Task) (p : Plan) where
  module _ (n : ℕ) (l : Lot) (r : Round) where
    abbrev given : List ℕ
    given = boxes_of H n 0 (held p l.order) l.chances

    abbrev is : ℕ → Bool
    is = other_box (digests_of r) given

    box-same : (i : ℕ) → is i ≡ false → SameBox H t p n l r i
    box-same i e = (same_decides _ _).0 (not_false (same_row (part_of (digests_of r) i) (part_of given i)) e)

    same-box : (i : ℕ) → SameBox H t p n l r i → is i ≡ false
    same-box i e = ap not (same_true _ _ e)

    other_box_lem : (i : ℕ) → (SameBox H t p n l r i → ⊥) → is i ≡ true
    other_box_lem i ne = ap not (same_false _ _ ne)

    abbrev word : List ℕ
    word = said_bytes (opened_for t n p l r.asked.pair)

    -- the round is the same, or another for this train
    data Compared : Option ℕ → Type 0 where
      same : Same H t p n l r → Compared None
      other : (i : ℕ) → Other H t p n l r i → Compared (Some i)

    answer : SameBoxes H t p n l r t.trains → Compared (other_answer t n p l r)
    answer h = opened (eqb (length r.opened) 75) refl
      where
        openings : IsOpened H t p n l r → r.asked.pair < length t.pairs → (b c : Bool) → same_row (opening_in 5 r.opened) (opening_in 5 word) ≡ b →
            same_row (opening_in 40 r.opened) (opening_in 40 word) ≡ c → Compared (cond b (cond c None (Some (pair_at t r.asked.pair).e)) (Some (pair_at t r.asked.pair).a))
        openings o k true true x y = same record { boxes_same = h; pair_there = λ _. k; first_same = λ _. (same_decides _ _).0 x; second_same = λ _. (same_decides _ _).0 y }
        openings o k true false x y = other _ (second h o k ((same_decides _ _).0 x) (λ q. both _ (same_true _ _ q) y))
        openings o k false c x y = other _ (first h o k (λ q. both _ (same_true _ _ q) x))

        pair : IsOpened H t p n l r → (b : Bool) → ltb r.asked.pair (length t.pairs) ≡ b →
            Compared (cond b (other_opening (pair_at t r.asked.pair).a (pair_at t r.asked.pair).e r.opened word) (Some 0))
        pair o true e = openings o (ltb-true _ _ e) _ _ refl refl
        pair o false e = other 0 (no_pair h o (ltb-false _ _ e))

        opened : (b : Bool) → eqb (length r.opened) 75 ≡ b →
            Compared (cond b (cond (ltb r.asked.pair (length t.pairs)) (other_opening (pair_at t r.asked.pair).a (pair_at t r.asked.pair).e r.opened word) (Some 0)) None)
        opened true e = pair (eqb-true _ _ e) _ refl
        opened false e =
            let no = eqb-false (length r.opened) 75 e in
            same record { boxes_same = h; pair_there = λ o. absurd (no o); first_same = λ o. absurd (no o); second_same = λ o. absurd (no o) }

    compared : Compared (other_train H t n p l r)
    compared = go _ (first_of is 0 t.trains)
      where
        go : (o : Option ℕ) → First is 0 t.trains o → Compared (or_else o (other_answer t n p l r))
        go o (found j a b c d) = other j (box j (omega arith) (λ k h. box-same k (c k (omega arith) h)) (λ q. both _ d (same-box j q)))
        go o (none c) = answer (λ k h. box-same k (c k (omega arith) (omega arith)))

    -- and so is told

    no_other : SameBoxes H t p n l r t.trains → first_from is 0 t.trains ≡ None
    no_other h = go _ (first_of is 0 t.trains)
      where
        go : (o : Option ℕ) → First is 0 t.trains o → o ≡ None
        go o (found j a b c d) = absurd (both _ d (same-box j (h j (omega arith))))
        go o (none c) = refl

    first-other : (i : ℕ) → i < t.trains → SameBoxes H t p n l r i → (SameBox H t p n l r i → ⊥) → first_from is 0 t.trains ≡ Some i
    first-other i k h ne = go _ (first_of is 0 t.trains)
      where
        go : (o : Option ℕ) → First is 0 t.trains o → o ≡ Some i
        go o (found j a b c d) =
            elim (cases_lt i j) [
              | inl x ↦ absurd (both _ (other_box_lem i ne) (c i (omega arith) x))
              | inr x ↦
                  elim (cases_lt j i) [
                    | inl y ↦ absurd (both _ d (same-box j (h j y)))
                    | inr y ↦ ap Some (omega arith)
                  ]
            ]
        go o (none c) = absurd (both _ (other_box_lem i ne) (c i (omega arith) (omega arith)))

    opened_as : SameBoxes H t p n l r t.trains → other_train H t n p l r ≡ other_answer t n p l r
    opened_as h = ap (λ o. or_else o (other_answer t n p l r)) (no_other h)

    told_same : Same H t p n l r → other_train H t n p l r ≡ None
    told_same s = opened_as s.boxes_same ∙ go (cases_Bool (eqb (length r.opened) 75))
      where
        go : (eqb (length r.opened) 75 ≡ true) ⊎ (eqb (length r.opened) 75 ≡ false) → other_answer t n p l r ≡ None
        go (inl e) = let o = eqb-true _ _ e in rw (e, lt-ltb _ _ (s.pair_there o), same_true _ _ (s.first_same o), same_true _ _ (s.second_same o)) refl
        go (inr e) = rw e refl

    told-other : (i : ℕ) → Other H t p n l r i → other_train H t n p l r ≡ Some i
    told-other i (box j k h ne) = ap (λ o. or_else o (other_answer t n p l r)) (first-other i k h ne)
    told-other i (no_pair h o k) = opened_as h ∙ rw (eq-eqb _ _ o, le-ltb _ _ k) refl
    told-other i (first h o k ne) = opened_as h ∙ rw (eq-eqb _ _ o, lt-ltb _ _ k, same_false _ _ ne) refl
    told-other i (second h o k s ne) = opened_as h ∙ rw (eq-eqb _ _ o, lt-ltb _ _ k, same_true _ _ s, same_false _ _ ne) refl

  abbrev tells_of : ℕ → Round → List Round → Got (Had Lot) → Redrawn
  tells_of n r rs g = first_drawn (compared_in H t n p r g) (redrawn_from H t (Some p) (n + 1) (left_in g) rs)

  one_round_lem : (n : ℕ) (drawn : List ℕ) (r : Round) (rs : List Round) → ((left : List ℕ) → Finds H t p (n + 1) left rs (redrawn_from H t (Some p) (n + 1) left rs)) →
      (g : Got (Had Lot)) → lot_in t drawn ≡ g → Finds H t p n drawn (r ∷ rs) (tells_of n r rs g)
  one_round_lem n drawn r rs ih (refused f) e = used_up n drawn r rs f e
  one_round_lem n drawn r rs ih (got h) e = go _ (compared n h.what r)
    where
      go : (o : Option ℕ) → Compared n h.what r o → Finds H t p n drawn (r ∷ rs) (first_drawn (differs_at n o) (redrawn_from H t (Some p) (n + 1) h.left rs))
      go o (same s) = agree n drawn r rs h _ e s (ih h.left)
      go o (other i x) = differ n drawn r rs h i e x

  finds : (n : ℕ) (drawn : List ℕ) (rs : List Round) → Finds H t p n drawn rs (redrawn_from H t (Some p) n drawn rs)
  unfolding redrawn_from
  finds n drawn [] = all_agree n drawn
  finds n drawn (r ∷ rs) = one_round_lem n drawn r rs (λ left. finds (n + 1) left rs) (lot_in t drawn) refl

  told : (n : ℕ) (drawn : List ℕ) (rs : List Round) (d : Redrawn) → Finds H t p n drawn rs d → redrawn_from H t (Some p) n drawn rs ≡ d
  unfolding redrawn_from
  told n drawn rs d (all_agree n' drawn') = refl
  told n drawn rs d (used_up n' drawn' r rs' f e) = ap (tells_of n r rs') e
  told n drawn rs d (differ n' drawn' r rs' h i e x) = ap (tells_of n r rs') e ∙ ap (λ o. first_drawn (differs_at n o) (redrawn_from H t (Some p) (n + 1) h.left rs')) (told-other n h.what r i x)
  told n drawn rs d (agree n' drawn' r rs' h d' e s f) =
      ap (tells_of n r rs') e ∙ ap (λ o. first_drawn (differs_at n o) (redrawn_from H t (Some p) (n + 1) h.left rs')) (told_same n h.what r s) ∙ told (n + 1) h.left rs' d f

pub tells_difference : (H : List ℕ → List ℕ) → TellsDifference H
tells_difference H t p n drawn rs = (finds H t p n drawn rs, told H t p n drawn rs)
