-- What is found are two openings of one box. Assumes nothing.
use Rattle.std.proofs.Common.{◌≡◌, ℕ, ◌+◌, true, false, not, eqb, ltb, List, [], ◌∷◌, map, length, drop, sym, refl, ap, ◌∙◌, subst, inl, inr}
use Rattle.std.specs.List.{flat_map, AllByRecursion as All}
use Rattle.std.proofs.ByRecursion.{All-append}
use Rattle.std.proofs.lemmas.Bool.{and_from, and_parts, both_ways, cases_Bool, cond_both, eqb-true, not_from_false, not-true}
use Rattle.paths.specs.Plan.{Task}
use Rattle.paths.specs.Count.{same_row}
use Rattle.paths.specs.Cheat.{asks}
use Rattle.tasks.specs.Task.{sound}
use Rattle.boxes.specs.Box.{Opening, text_of}
use Rattle.boxes.specs.Binding.{TwoTexts, collides, same_opening, texts_of}
use Rattle.paths.proofs.Same.{same_decides, same_itself}
use Rattle.boxes.proofs.Binds.{same_opening_lem}
use Rattle.round.specs.Line.{Event, heard, Other}
use Rattle.round.specs.Over.{Over, on, out}
use Rattle.round.specs.Round.{part_of}
use Rattle.asking.specs.Asking.{Ready, turn}
use Rattle.soundness.specs.Texts.{first_of, of_train, twos, texts_at, texts_along, texts_in}
use Rattle.soundness.specs.Found.{SaidThere, BoxTwice, FoundBoxes}
use Rattle.soundness.proofs.Runs.{ready, by_round, by_task}
use Rattle.soundness.proofs.Points.{Opens, all_open, all_said}

both : (P Q : Opening → Type 0) (xs : List Opening) → All P xs → All Q xs → All (λ x. P x × Q x) xs
both P Q [] h k = tt
both P Q (x ∷ xs) h k = ((h.0, k.0), both P Q xs h.1 k.1)

module _ (H : List ℕ → List ℕ) (other : Other) where
  -- if these texts collide, they are of one box
  abbrev Shows : TwoTexts → Type 0
  Shows x = collides H x ≡ true → BoxTwice H other x

  first-shows : (xs : List TwoTexts) → All Shows xs → Shows (first_of H xs)
  unfolding first_of
  first-shows [] h = λ e. absurd (both_ways false refl e)
  first-shows (x ∷ xs) h = cond_both (collides H x) x (first_of H xs) Shows (λ _. h.0) (λ _. first-shows xs h.1)

  all-joined : (f : List ℕ → List TwoTexts) → ((x : List ℕ) → All Shows (f x)) → (xs : List (List ℕ)) → All Shows (flat_map f xs)
  all-joined f h [] = tt
  all-joined f h (x ∷ xs) = All-append Shows (f x) (flat_map f xs) (h x) (all-joined f h xs)

  module _ (s : Ready) (line : List Event) where
    abbrev n : ℕ
    n = s.round

    abbrev ds : List ℕ
    ds = drop 7 (other line)

    -- an opening that the planner says here, and that opens its box
    abbrev Is : Opening → Type 0
    Is x = Opens H n ds x × SaidThere other s line x

    two_show : (x y : Opening) → Is x → Is y → y.train ≡ x.train → Shows (texts_of n x y)
    two_show x y (o, o_said) (p, p_said) e c =
        record {
          state = s;
          line = line;
          one = x;
          two = y;
          one_said = o_said;
          two_said = p_said;
          texts = refl;
          train = sym e;
          twice = and_from _ _ (and_from _ _ (not_from_false _ other_opening_lem) ((same_decides _ _).1 o.1)) ((same_decides _ _).1 (p.1 ∙ ap (part_of ds) e));
        }
      where
        other_text : same_row (text_of n x) (text_of n y) ≡ false
        other_text = not-true _ (and_parts (not (same_row (text_of n x) (text_of n y))) _ c).0

        other_opening_lem : same_opening x y ≡ false
        other_opening_lem =
            elim (cases_Bool (same_opening x y)) [
              | inl s ↦ absurd (both_ways _ other_text (subst (λ z. same_row (text_of n x) (text_of n z) ≡ true) (same_opening_lem x y s) (same_itself (text_of n x))))
              | inr s ↦ s
            ]

    one-shows : (x : Opening) → Is x → (ys : List Opening) → All Is ys → All Shows (map (texts_of n x) (of_train x.train ys))
    one-shows x o [] os = tt
    one-shows x o (y ∷ ys) os =
        cond_both (eqb y.train x.train) (y ∷ of_train x.train ys) (of_train x.train ys) (λ zs. All Shows (map (texts_of n x) zs))
        (λ e. (two_show x y o os.0 (eqb-true _ _ e), one-shows x o ys os.1)) (λ _. one-shows x o ys os.1)

    twos_show : (xs : List Opening) → All Is xs → All Shows (twos n xs)
    unfolding twos
    twos_show [] os = tt
    twos_show (x ∷ xs) os = All-append Shows (map (texts_of n x) (of_train x.train xs)) (twos n xs) (one-shows x os.0 xs os.1) (twos_show xs os.1)

  module _ (t : Task) (good : sound t ≡ true) (r : ℕ) where
    out-shows : (is : List ℕ) (o : Over) (line : List Event) → All Shows (texts_along H other is (out o) line)
    unfolding texts_along
    out-shows [] o line = tt
    out-shows (i ∷ is) o line = tt

    turn-shows : (is : List ℕ) (n : ℕ) (d : List ℕ) (line : List Event) → All Shows (texts_along H other is (turn (ready H other t r n d)) line)
    unfolding texts_along
    turn-shows [] n d line = tt
    turn-shows (i ∷ is) n d line =
        let s = ready H other t r n d in
        cond_both (ltb n r) (on s) (out _) (λ lead. All Shows (texts_along H other (i ∷ is) lead line))
        (λ _. All-append Shows (texts_at H other s line) _ (twos_show s line _ (both _ _ _ (all_open H other s good line) (all_said H other s good line)))
        (by_round H other t r n d line i (λ g. All Shows (texts_along H other is g.to g.line)) (λ o l e. out-shows is o l) (λ e l a. turn-shows is (n + 1) e l)))
        (λ _. tt)

    pub in_shows : (is : List ℕ) → All Shows (texts_in H other t r is)
    in_shows is = by_task H other t r (λ lead. All Shows (texts_along H other is lead (heard (other []) ∷ []))) (λ o e. out-shows is o _) (λ d. turn-shows is 0 d _)

pub found_boxes : FoundBoxes
found_boxes H other t good r =
    let f = texts_in H other t r in
    let rows = asks (length t.pairs) r in
    record {
      by_row = λ is. first-shows H other (f is) (in_shows H other t good r is);
      by_all = first-shows H other (flat_map f rows) (all-joined H other f (in_shows H other t good r) rows);
    }
