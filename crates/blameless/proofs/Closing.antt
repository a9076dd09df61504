-- The closed rounds of the planner's runs are those of an honest planner. Assumes nothing.
use Rattle.std.proofs.Common.{◌≡◌, ℕ, ◌+◌, ◌^◌, ◌<◌, ◌≤◌, Bool, true, false, List, [], ◌∷◌, map, length, refl, ap, ◌∙◌, inl, inr, arith}
use mathlib.Core.List.{reverse_aux}
use Rattle.std.proofs.lemmas.Bool.{cases_Bool, or_left, or_right, or_from, lt-ltb}
use Rattle.paths.specs.Plan.{Task, Plan}
use Rattle.paths.specs.Count.{same_row}
use Rattle.tasks.specs.Reading.{got}
use Rattle.tasks.specs.Writing.{task_bytes}
use Rattle.paths.proofs.Same.{same_decides, same_itself}
use Rattle.book.specs.Chain.{after}
use Rattle.words.specs.Said.{end}
use Rattle.words.specs.Reading.{read_word}
use Rattle.words.specs.Writing.{said_bytes, WordLaw}
use Rattle.round.specs.Over.{Over}
use Rattle.round.specs.Line.{Event, heard}
use Rattle.planning.specs.Conduct.{AnEnd, Refused, no_word, not_awaited, text, From, all_rounds, drawn_out, no_ask, no_pair, no_end, end0, end1}
use Rattle.judging.specs.Verdict.{Content, content_all, Redrawn, judged}
use Rattle.judging.specs.Honest.{Honest, over, round1, round0}
use Rattle.blameless.specs.Transcript.{event_word, is_end, closed_from}
use Rattle.blameless.specs.Blameless.{told_of}

-- an End of the round is one, and what is refused is none
is_end_lem : (n : ℕ) (c : Bool) → is_end n (heard (said_bytes (end n c))) ≡ true
is_end_lem n true = or_left _ _ (same_itself (said_bytes (end n true)))
is_end_lem n false = or_right (same_row (said_bytes (end n false)) (said_bytes (end n true))) _ (same_itself (said_bytes (end n false)))

module _ (t : Task) (law : WordLaw t) (n : ℕ) (few : n < 2 ^ 24) (w : List ℕ) where
  not_read : (f : ℕ) (c : Bool) → Refused t (AnEnd n) w f → read_word t w ≡ got (end n c) → ⊥
  not_read f c (no_word f' e) r = cc
  not_read f c (not_awaited x e differs) r = let k : x ≡ end n c = cc in differs (c, k)

  no_end_lem : (f : ℕ) → Refused t (AnEnd n) w f → is_end n (heard w) ≡ false
  no_end_lem f q = or_from _ _ (other true) (other false)
    where
      other : (c : Bool) → same_row w (said_bytes (end n c)) ≡ false
      other c =
          elim (cases_Bool (same_row w (said_bytes (end n c)))) [
            | inr e ↦ e
            | inl e ↦
                let read = law.reads (end n c) (lt-ltb n 4294967296 (omega arith)) in
                absurd (not_read f c q (ap (read_word t) ((same_decides w (said_bytes (end n c))).0 e) ∙ read))
          ]

module _ (H : List ℕ → List ℕ) (t : Task) (p : Plan) (r : ℕ) where
  -- of the line from round n on, where rounds with these texts were closed before: its closed rounds are those of an honest planner, and what the book and the
  -- outcome tell is told of them
  pub record Closing (n : ℕ) (drawn : List ℕ) (ws : List (List ℕ)) (line : List Event) (o : Over) : Type 0 where
    pub texts : List (List ℕ)
    pub found : Content
    pub honest : Honest H t p n drawn (map event_word (closed_from n line)) texts found
    pub book : o.digest ≡ after H (task_bytes t) (reverse_aux texts ws)
    pub tells : (d : Redrawn) → told_of o.outcome d ≡ judged (n + length texts) found d
    pub few : n + length texts ≤ r

  -- no round is closed
  none : (n : ℕ) (drawn : List ℕ) (ws : List (List ℕ)) (line : List Event) (o : Over) → n ≤ r → closed_from n line ≡ [] → o.digest ≡ after H (task_bytes t) ws →
      ((d : Redrawn) → told_of o.outcome d ≡ judged n content_all d) → Closing n drawn ws line o
  none n drawn ws line o k e b tells =
      record { texts = []; found = content_all; honest = rw e (over n drawn); book = b; tells = λ d. tells d ∙ ap (λ m. judged m content_all d) (omega arith); few = omega arith }

  pub closing : WordLaw t → r ≤ 2 ^ 24 → (n : ℕ) (drawn : List ℕ) (ws : List (List ℕ)) (line : List Event) (o : Over) → n ≤ r → From H t p r n drawn ws line o →
      Closing n drawn ws line o
  unfolding closed_from
  closing law m n drawn ws line o k (all_rounds d v) = none n drawn ws line o k refl refl (λ d. refl)
  closing law m n drawn ws line o k (drawn_out n' d v l e) = none n drawn ws line o k refl refl (λ d. refl)
  closing law m n drawn ws line o k (no_ask n' d v h w f l q) = none n drawn ws line o k refl refl (λ d. refl)
  closing law m n drawn ws line o k (no_pair n' d v h i l q) = none n drawn ws line o k refl refl (λ d. refl)
  closing law m n drawn ws line o k (no_end n' d v h i w f l there q) =
      none n drawn ws line o k (rw (no_end_lem t law n (omega (arith, l.0)) w f q) refl) refl (λ d. refl)
  closing law m n drawn ws line o k (end0 n' d v h i l there) =
      record { texts = _ ∷ []; found = _; honest = rw (is_end_lem n false) (round0 n drawn h i l.1 there); book = refl; tells = λ d. refl; few = omega (arith, l.0) }
  closing law m n drawn ws line o k (end1 n' d v h i rest o' l there from) =
      let c = closing law m (n + 1) h.left (text H t p r n h.what i true ∷ ws) rest o (omega (arith, l.0)) from in
      record {
        texts = _ ∷ c.texts;
        found = c.found;
        honest = rw (is_end_lem n true) (round1 n drawn h i _ c.texts c.found l.1 there c.honest);
        book = c.book;
        tells = λ d. c.tells d ∙ ap (λ j. judged j c.found d) (omega arith);
        few = omega (arith, c.few);
      }
