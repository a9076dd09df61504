-- What is promised of cutting words into rounds. Each promise is a type, and a term of it in proofs/ its proof. Assumes nothing.
use Rattle.std.specs.Prelude.{◌≡◌, ℕ, ◌+◌, ◌^◌, ◌<◌, Bool, true, false, cond, ◌⊎◌, List, [], ◌∷◌}
use Rattle.paths.specs.Plan.{Task}
use Rattle.tasks.specs.Reading.{got}
use Rattle.boxes.specs.Box.{Opening}
use Rattle.words.specs.Said.{boxes, ask, opened, end}
use Rattle.words.specs.Reading.{read_word}
use Rattle.cutting.specs.Cutting.{Round, for_boxes, for_nothing, cut_into, fault_in, also_round, cut_from, cut, all_words}

-- the round of these words
abbrev pub round_from : List ℕ → List ℕ → ℕ → List ℕ → List ℕ → Bool → Round
round_from b a i o e c = record { asked = record { boxes = b; ask = a; pair = i }; opened = o; end = e; content = c }

-- The words of round n: Boxes, an Ask, an Opened, or none and then an End with 0, and an End
pub record IsRound (t : Task) (n : ℕ) (r : Round) : Type 0 where
  pub few : n < 2 ^ 24
  pub boxes_are : (ds : List ℕ) × (read_word t r.asked.boxes ≡ got (boxes n ds))
  pub ask_is : read_word t r.asked.ask ≡ got (ask n r.asked.pair)
  pub answer_is : ((x y : Opening) × (read_word t r.opened ≡ got (opened n x y))) ⊎ ((r.opened ≡ []) × (r.content ≡ false))
  pub end_is : read_word t r.end ≡ got (end n r.content)

-- rounds from n on, each behind one that ended with 1
pub data AreRounds (t : Task) : ℕ → List Round → Type 0 where
  none : (n : ℕ) → AreRounds t n []
  last : (n : ℕ) (r : Round) → IsRound t n r → AreRounds t n (r ∷ [])
  more : (n : ℕ) (r : Round) (rs : List Round) → IsRound t n r → r.content ≡ true → AreRounds t (n + 1) rs → AreRounds t n (r ∷ rs)

-- Boxes, Ask, Opened and End of round n are cut off as a round, and so are Boxes, Ask and an End with 0; after an End with 0 any word is a fault. Words that are cut
-- into rounds are all words of these rounds, and no more. What they are cut into are rounds from 0 on, and the words of any such rounds are cut into these.
pub record Cuts (t : Task) : Type 0 where
  pub whole : (n : ℕ) → n < 2 ^ 24 → (b ds a : List ℕ) (i : ℕ) (o : List ℕ) (x y : Opening) (e : List ℕ) (c : Bool) →
      read_word t b ≡ got (boxes n ds) → read_word t a ≡ got (ask n i) → read_word t o ≡ got (opened n x y) → read_word t e ≡ got (end n c) → (ws : List (List ℕ)) →
      cut_from t n for_boxes (b ∷ a ∷ o ∷ e ∷ ws) ≡ also_round (round_from b a i o e c) (cut_from t (n + 1) (cond c for_boxes for_nothing) ws)
  pub short : (n : ℕ) → n < 2 ^ 24 → (b ds a : List ℕ) (i : ℕ) (e : List ℕ) →
      read_word t b ≡ got (boxes n ds) → read_word t a ≡ got (ask n i) → read_word t e ≡ got (end n false) → (ws : List (List ℕ)) →
      cut_from t n for_boxes (b ∷ a ∷ e ∷ ws) ≡ also_round (round_from b a i [] e false) (cut_from t (n + 1) for_nothing ws)
  pub over : (n : ℕ) (w : List ℕ) (ws : List (List ℕ)) → (f : ℕ) × (cut_from t n for_nothing (w ∷ ws) ≡ fault_in f n)
  pub all : (ws : List (List ℕ)) (rs : List Round) → cut t ws ≡ cut_into rs → ws ≡ all_words rs
  pub are : (ws : List (List ℕ)) (rs : List Round) → cut t ws ≡ cut_into rs → AreRounds t 0 rs
  pub back : (rs : List Round) → AreRounds t 0 rs → cut t (all_words rs) ≡ cut_into rs
