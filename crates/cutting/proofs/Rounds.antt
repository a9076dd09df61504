-- The laws of cutting. Assumes nothing.
use Rattle.std.proofs.Common.{◌≡◌, ℕ, ◌+◌, ◌^◌, ◌<◌, Bool, true, false, cond, List, [], ◌∷◌, sym, refl, ap, ◌∙◌, inl, inr}
use Rattle.paths.specs.Plan.{Task}
use Rattle.tasks.specs.Reading.{got}
use Rattle.words.specs.Said.{boxes, ask, end}
use Rattle.words.specs.Reading.{read_word}
use Rattle.cutting.specs.Cutting.{Round, for_boxes, for_nothing, behind, cut_into, also_round, cut_from, if_any, onto, all_words}
use Rattle.cutting.specs.Laws.{round_from, IsRound, AreRounds, none, last, more, Cuts}
use Rattle.cutting.proofs.Cuts.{cut-whole, cut_short_lem}
use Rattle.cutting.proofs.Shapes.{some, over, shapes}

module _ (t : Task) where
  -- a round without an Opened
  short : (n : ℕ) → n < 2 ^ 24 → (b ds a : List ℕ) (i : ℕ) (o e : List ℕ) (c : Bool) → read_word t b ≡ got (boxes n ds) → read_word t a ≡ got (ask n i) → o ≡ [] → c ≡ false →
      read_word t e ≡ got (end n c) → (ws : List (List ℕ)) →
      cut_from t n for_boxes (b ∷ a ∷ if_any o (e ∷ ws)) ≡ also_round (round_from b a i o e c) (cut_from t (n + 1) (cond c for_boxes for_nothing) ws)
  short n few b ds a i [] e false rb ra p q re ws = cut_short_lem t n few b ds a i rb ra e re ws
  short n few b ds a i [] e true rb ra p q re ws = cc
  short n few b ds a i (x ∷ xs) e c rb ra p q re ws = cc

  one : (n : ℕ) (r : Round) → IsRound t n r → (ws : List (List ℕ)) → cut_from t n for_boxes (onto r ws) ≡ also_round r (cut_from t (n + 1) (behind r) ws)
  one n r h ws =
      let b = h.boxes_are in
      elim h.answer_is [
        | inl o ↦ ap (λ vs. cut_from t n for_boxes (r.asked.boxes ∷ r.asked.ask ∷ vs)) (sym (some t n r.opened (r.end ∷ ws) o))
            ∙ cut-whole t n h.few _ b.0 _ _ b.1 h.ask_is _ r.opened o.0 o.1 r.content o.2 h.end_is ws
        | inr q ↦ short n h.few _ b.0 _ _ r.opened _ r.content b.1 h.ask_is q.0 q.1 h.end_is ws
      ]

  nothing_left : (n : ℕ) (c : Bool) → cut_from t n (cond c for_boxes for_nothing) [] ≡ cut_into []
  unfolding cut_from
  nothing_left n true = refl
  nothing_left n false = refl

  -- the words of rounds are cut into these rounds
  back : (n : ℕ) (rs : List Round) → AreRounds t n rs → cut_from t n for_boxes (all_words rs) ≡ cut_into rs
  unfolding all_words
  back n _ (none m) = nothing_left n true
  back n _ (last m r h) = one n r h [] ∙ ap (also_round r) (nothing_left (n + 1) r.content)
  back n _ (more m r rs h c k) = one n r h (all_words rs)
      ∙ ap (λ x. also_round r (cut_from t (n + 1) (cond x for_boxes for_nothing) (all_words rs))) c ∙ ap (also_round r) (back (n + 1) rs k)

pub cuts : (t : Task) → Cuts t
cuts t =
    record {
      whole = λ n few b ds a i o x y e c rb ra ro re ws. cut-whole t n few b ds a i rb ra e o x y c ro re ws;
      short = λ n few b ds a i e rb ra re ws. cut_short_lem t n few b ds a i rb ra e re ws;
      over = over t;
      all = λ ws rs e. (shapes t ws 0 for_boxes rs tt e).words_are;
      are = λ ws rs e. (shapes t ws 0 for_boxes rs tt e).rounds_are;
      back = back t 0;
    }
