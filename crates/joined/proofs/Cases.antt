-- The worked cases hold. Assumes nothing.
use Rattle.std.proofs.Common.{◌≡◌, ℕ, zero, suc, ◌<◌, ◌≤◌, true, false, ◌≢◌, ◌⊎◌, List, [], ◌∷◌, length, refl, ap, ◌∙◌, inl, inr, pow-suc, arith, lit<, length-drop, length-take}
use Rattle.std.proofs.lemmas.Bool.{eq-eqb, and_from, cases_Bool}
use Rattle.paths.specs.Plan.{pairs_in}
use Rattle.paths.specs.Cheat.{Cheat, lucky, passes, up_to, before, asks, count}
use Rattle.paths.specs.Misses.{trio}
use Rattle.paths.proofs.Rows.{below_at, apart-at}
use Rattle.paths.proofs.Paired.{fits-parts}
use Rattle.paths.proofs.Caught.{caught}
use Rattle.paths.proofs.Misses.{same-pair}
use Rattle.tasks.specs.Reading.{got, refused, and_then}
use Rattle.sha256.specs.Sha256.{sha256}
use Rattle.tasks.specs.Task.{sound, rising}
use Rattle.round.specs.Line.{Other}
use Rattle.book.specs.Chain.{Sized}
use Rattle.boxes.specs.Box.{Opening, text_of, boxes_of}
use Rattle.boxes.specs.Binding.{collides, texts_of}
use Rattle.boxes.proofs.Binds.{opened-same}
use Rattle.boxes.proofs.Boxes.{laid}
use Rattle.boxes.proofs.Digests.{length-sha256}
use Rattle.paths.proofs.Same.{same_decides, same_itself}
use Rattle.words.specs.Said.{opened, end}
use Rattle.words.specs.Reading.{read_word}
use Rattle.words.specs.Writing.{said_bytes}
use Rattle.words.proofs.Laws.{word_law}
use Rattle.round.specs.Round.{part_of, opening_for, opens_in, test_opened}
use Rattle.asking.specs.Asking.{is_opened_of, test, settle}
use Rattle.soundness.specs.Texts.{find}
use Rattle.soundness.proofs.Bounds.{sound-whole}
use Rattle.soundness.proofs.Examples.{examples}
use Rattle.sha256.specs.Sha256.{bytes}
use Rattle.drawing.specs.Drawing.{draw, order_moduli, values_of}
use Rattle.tasks.specs.Reading.{read_each}
use Rattle.joined.specs.Cases.{AllHold, faults, cases, three, two, wins, NoPlan, Cheats, lot_of, asked, altered, answer, NotOpened, AnotherChance}

none-two : NoPlan two
none-two p fp =
    let f = fits-parts two p fp in
    let below = below_at 1 p f.1 in
    omega (arith, below 0 (omega arith), below 1 (omega arith), apart-at p two.pairs (record { a = 0; e = 0 }) f.2 0 (lit< tt))

sound-two : sound two ≡ true
unfolding rising
sound-two = refl

at_most_four : (f : Cheat) → Cheats trio f → lucky trio f 2 ≤ 4
unfolding pairs_in
at_most_four f long = caught trio (tt, lit< tt, lit< tt) same-pair.none f long 2

never-two : (f : Cheat) → Cheats two f → (r : ℕ) → 0 < r → lucky two f r ≡ 0
unfolding pairs_in
never-two f long zero k = absurd (omega arith)
never-two f long (suc r) k = omega (arith, caught two (tt, lit< tt, lit< tt) none-two f long (suc r), pow-suc 0 r)

-- over the asker's steps
few-trio : (H : List ℕ → List ℕ) (other : Other) → (collides H (find H other trio 2) ≡ true) ⊎ (wins H other trio 2 ≤ 4)
few-trio H other = sound-whole H other trio examples.task same-pair.none 2

never_two : (H : List ℕ → List ℕ) (other : Other) (r : ℕ) → 0 < r → (collides H (find H other two r) ≡ true) ⊎ (wins H other two r ≡ 0)
never_two H other zero k = absurd (omega arith)
never_two H other (suc r) k = elim (sound-whole H other two sound-two none-two (suc r)) [
  | inl c ↦ inl c
  | inr e ↦ inr (omega (arith, e, pow-suc 0 r))
]

-- The opening with another chance
module _ (H : List ℕ → List ℕ) (sized : Sized H) (digest chances another : List ℕ) (long : length chances ≡ 96) (own : length another ≡ 32) where
  abbrev digests : List ℕ
  digests = boxes_of H 0 0 (2 ∷ 0 ∷ 1 ∷ []) chances

  abbrev second : Opening
  second = opening_for (0 ∷ 1 ∷ 2 ∷ []) (lot_of chances) 2

  tested_so : (w : List ℕ) → is_opened_of 0 (read_word three w) ≡ true → and_then (read_word three w) (test_opened H three 0 1 digests) ≡ refused 9 →
      test H (asked H digest chances another) w ≡ record { asked = asked H digest chances another; opened = w; end = said_bytes (end 0 false); test = refused 9 }
  tested_so w k e = rw (k, e) refl

  answer_read : read_word three (answer H digest chances another) ≡ got (opened 0 (altered H digest chances another) second)
  answer_read =
      let part : length (part_of chances 2) ≡ 32 = simp (length-take, length-drop) (omega arith) in
      (word_law three (lit< tt)).reads (opened 0 (altered H digest chances another) second) (and_from _ _ (eq-eqb _ _ own) (eq-eqb _ _ part))

  -- the box is shut, or the two openings open it both
  shut : another ≢ part_of chances 0 → (opens_in H 0 digests (altered H digest chances another) ≡ false) ⊎
      (collides H (texts_of 0 (altered H digest chances another) (opening_for (0 ∷ 1 ∷ 2 ∷ []) (lot_of chances) 0)) ≡ true)
  shut differ =
      let x = altered H digest chances another in
      let y = opening_for (0 ∷ 1 ∷ 2 ∷ []) (lot_of chances) 0 in
      elim (cases_Bool (opens_in H 0 digests x)) [
        | inl e ↦
            let same : H (text_of 0 x) ≡ H (text_of 0 y) = (same_decides _ _).0 e ∙ (laid H sized).each 0 0 (2 ∷ 0 ∷ 1 ∷ []) chances 0 (lit< tt) in
            elim (opened-same x y H (H (text_of 0 y)) 0 (lit< tt) (lit< tt) ((same_decides _ _).1 same) (same_itself (H (text_of 0 y)))) [
              | inl q ↦ absurd (differ (ap (λ o. o.chance) q))
              | inr c ↦ inr c
            ]
        | inr e ↦ inl e
      ]

  no_other_chance : opens_in H 0 digests (altered H digest chances another) ≡ false → NotOpened H digest chances another
  no_other_chance closed =
      let read = answer_read in
      let nine : test_opened H three 0 1 digests (opened 0 (altered H digest chances another) second) ≡ refused 9 = rw closed refl in
      let e = tested_so (answer H digest chances another) (ap (is_opened_of 0) read) (ap (λ g. and_then g (test_opened H three 0 1 digests)) read ∙ nine) in
      record { nine = ap (λ x. x.test) e; end0 = ap (λ x. x.end) e; over = ap (settle H) e }

another_chance : (H : List ℕ → List ℕ) → Sized H → AnotherChance H
another_chance H sized digest chances another long own differ =
    elim (shut H sized digest chances another long own differ) [
      | inl e ↦ inl (no_other_chance H sized digest chances another long own e)
      | inr c ↦ inr c
    ]

pub all-cases : AllHold cases
unfolding AllHold up_to before asks count passes
all-cases =
    (refl, ((λ chances. refl), (refl, ((λ chances. refl), (same-pair.none, (refl, (refl, (refl, (at_most_four, (examples.four, (few-trio, (none-two, (never-two, (never_two, (refl, (another_chance sha256 length-sha256, (another_chance, tt)))))))))))))))))

pub all_faults : AllHold faults
unfolding AllHold bytes read_each rising draw order_moduli values_of
all_faults =
    ((λ H ds c d. refl), ((λ H ds c d. refl), ((λ H ds c d. refl), ((λ H ds c d. refl), ((λ H ds. refl), (refl, (refl, (refl, (refl, (refl, (refl, (refl, (refl, (refl, (refl, (refl, (refl, tt)))))))))))))))))
