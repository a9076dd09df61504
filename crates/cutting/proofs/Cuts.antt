-- How the words of a round are cut off. Assumes nothing.
use Rattle.std.proofs.Common.{◌≡◌, ℕ, ◌+◌, ◌^◌, ◌<◌, Bool, true, false, cond, eqb, ltb, List, [], ◌∷◌, refl, ap, ◌∙◌}
use Rattle.std.proofs.lemmas.Bool.{lt-ltb, eq-eqb}
use Rattle.paths.specs.Plan.{Task}
use Rattle.tasks.specs.Reading.{got, refused, and_then}
use Rattle.boxes.specs.Box.{Opening}
use Rattle.words.specs.Said.{boxes, ask, opened, end}
use Rattle.words.specs.Reading.{read_word}
use Rattle.words.specs.Awaited.{on_boxes, on_ask, on_end}
use Rattle.cutting.specs.Cutting.{Asked, Round, Awaits, for_boxes, for_ask, for_answer, for_end, for_nothing, Heard, waits, closes, on_answer, answered, awaited, hear, behind, also_round, cut_on, cut_from}

module _ (t : Task) (n : ℕ) (few : n < 2 ^ 24) where
  kept : (a : Awaits) (w : List ℕ) (h : Heard) → awaited t n a w ≡ got h → hear t n a w ≡ got h
  kept a w h e = ap (λ g. and_then g (λ h. cond (ltb n (2 ^ 24)) (got h) (refused 12))) e ∙ rw (lt-ltb n (2 ^ 24) few) refl

  own : eqb n n ≡ true
  own = eq-eqb n n refl

  hear-boxes : (w ds : List ℕ) → read_word t w ≡ got (boxes n ds) → hear t n for_boxes w ≡ got (waits (for_ask w))
  hear-boxes w ds e = kept for_boxes w _ (ap (λ g. and_then (and_then g (on_boxes n)) (λ _. got (waits (for_ask w)))) e ∙ rw own refl)

  hear-ask : (b w : List ℕ) (i : ℕ) → read_word t w ≡ got (ask n i) → hear t n (for_ask b) w ≡ got (waits (for_answer record { boxes = b; ask = w; pair = i }))
  hear-ask b w i e = kept (for_ask b) w _ (ap (λ g. and_then (and_then g (on_ask n)) (λ i. got (waits (for_answer record { boxes = b; ask = w; pair = i })))) e ∙ rw own refl)

  hear-opened : (a : Asked) (w : List ℕ) (x y : Opening) → read_word t w ≡ got (opened n x y) → hear t n (for_answer a) w ≡ got (waits (for_end a w))
  hear-opened a w x y e = kept (for_answer a) w _ (ap (λ g. and_then (and_then g (on_answer n)) (λ k. got (answered a w k))) e ∙ rw own refl)

  hear-short : (a : Asked) (w : List ℕ) → read_word t w ≡ got (end n false) → hear t n (for_answer a) w ≡ got (closes record { asked = a; opened = []; end = w; content = false })
  hear-short a w e = kept (for_answer a) w _ (ap (λ g. and_then (and_then g (on_answer n)) (λ k. got (answered a w k))) e ∙ rw own refl)

  hear-end : (a : Asked) (o w : List ℕ) (c : Bool) → read_word t w ≡ got (end n c) → hear t n (for_end a o) w ≡ got (closes record { asked = a; opened = o; end = w; content = c })
  hear-end a o w c e =
      kept (for_end a o) w _ (ap (λ g. and_then (and_then g (on_end n)) (λ c. got (closes record { asked = a; opened = o; end = w; content = c }))) e ∙ rw own refl)

  one : (a : Awaits) (w : List ℕ) (ws : List (List ℕ)) (h : Heard) → hear t n a w ≡ got h →
      cut_from t n a (w ∷ ws) ≡ cut_on n (got h) (λ b. cut_from t n b ws) (λ r. cut_from t (n + 1) (behind r) ws)
  unfolding cut_from
  one a w ws h e = ap (λ g. cut_on n g (λ b. cut_from t n b ws) (λ r. cut_from t (n + 1) (behind r) ws)) e

  module _ (b ds a : List ℕ) (i : ℕ) (rb : read_word t b ≡ got (boxes n ds)) (ra : read_word t a ≡ got (ask n i)) (e : List ℕ) where
    abbrev pub round_with : List ℕ → Bool → Round
    round_with o c = record { asked = record { boxes = b; ask = a; pair = i }; opened = o; end = e; content = c }

    pub cut-whole : (o : List ℕ) (x y : Opening) (c : Bool) → read_word t o ≡ got (opened n x y) → read_word t e ≡ got (end n c) → (ws : List (List ℕ)) →
        cut_from t n for_boxes (b ∷ a ∷ o ∷ e ∷ ws) ≡ also_round (round_with o c) (cut_from t (n + 1) (behind (round_with o c)) ws)
    cut-whole o x y c ro re ws =
        one for_boxes b (a ∷ o ∷ e ∷ ws) _ (hear-boxes b ds rb) ∙ one (for_ask b) a (o ∷ e ∷ ws) _ (hear-ask b a i ra)
        ∙ one (for_answer _) o (e ∷ ws) _ (hear-opened _ o x y ro) ∙ one (for_end _ o) e ws _ (hear-end _ o e c re)

    pub cut_short_lem : read_word t e ≡ got (end n false) → (ws : List (List ℕ)) →
        cut_from t n for_boxes (b ∷ a ∷ e ∷ ws) ≡ also_round (round_with [] false) (cut_from t (n + 1) for_nothing ws)
    cut_short_lem re ws =
        one for_boxes b (a ∷ e ∷ ws) _ (hear-boxes b ds rb) ∙ one (for_ask b) a (e ∷ ws) _ (hear-ask b a i ra) ∙ one (for_answer _) e ws _ (hear-short _ e re)
