-- Words taken one by one are told what is to be told of them. Assumes nothing.
use Rattle.std.proofs.Common.{◌≡◌, ℕ, ◌+◌, cond, List, [], ◌∷◌, map, length, Some, None, Option, refl, ap, ◌∙◌, arith}
use mathlib.Core.List.{reverse_aux}
use Rattle.std.proofs.lemmas.Bool.{lt-ltb, le-ltb}
use Rattle.paths.specs.Plan.{Task, Plan}
use Rattle.paths.specs.Count.{same_row}
use Rattle.tasks.specs.Reading.{Got, got, refused}
use Rattle.book.specs.Chain.{next_digest, after}
use Rattle.lots.specs.Lots.{Had, Lot, lot_in}
use Rattle.judging.specs.Verdict.{Content, content_all, not_content, content_but, Redrawn, not_handed, agrees, drawn_out, differs, Verdict, bad_words, other_words, judged, first_of, first_drawn}
use Rattle.cutting.specs.Cutting.{Round, text_of, Awaits, for_boxes, for_ask, for_answer, for_end, for_nothing, Heard, waits, closes, hear, behind, Cut, cut_into, fault_in, also_round, cut_short, cut_on, cut_from, cut}
use Rattle.judging.specs.Judging.{content_from, redrawn_in, compared_in, differs_at, other_train, redrawn_from, nothing_yet, left_over, judge}
use Rattle.judging.specs.Steps.{Judge, begin, waiting, closing, went, ended, finish, onwards, and_on, tells}
use Rattle.judging.specs.Laws.{Folds}

-- The first finding of three, however they are taken together
content_joins : (a b c : Content) → first_of (first_of a b) c ≡ first_of a (first_of b c)
content_joins content_all b c = refl
content_joins (not_content n g) b c = refl
content_joins (content_but n f) b c = refl

content-ends : (a : Content) → first_of a content_all ≡ a
content-ends content_all = refl
content-ends (not_content n g) = refl
content-ends (content_but n f) = refl

redrawn_joins : (a b c : Redrawn) → first_drawn (first_drawn a b) c ≡ first_drawn a (first_drawn b c)
redrawn_joins not_handed b c = refl
redrawn_joins agrees b c = refl
redrawn_joins (drawn_out n) b c = refl
redrawn_joins (differs n i) b c = refl

-- a finding stands over that of no rounds
abbrev Stands : Option Plan → Redrawn → Type 0
Stands p d = first_drawn d (nothing_yet p) ≡ d

nothing_stands : (p : Option Plan) → Stands p (nothing_yet p)
nothing_stands (Some p) = refl
nothing_stands None = refl

both_stand : (p : Option Plan) (d e : Redrawn) → Stands p e → Stands p (first_drawn d e)
both_stand p d e h = redrawn_joins d e (nothing_yet p) ∙ ap (first_drawn d) h

redrawn_stands : (H : List ℕ → List ℕ) (t : Task) (p : Option Plan) (n : ℕ) (r : Round) (drawn : List ℕ) → Stands p (redrawn_in H t p n r drawn)
redrawn_stands H t None n r drawn = refl
redrawn_stands H t (Some p) n r drawn = drawn_again (lot_in t drawn)
  where
    at : (o : Option ℕ) → Stands (Some p) (differs_at n o)
    at (Some i) = refl
    at None = refl

    drawn_again : (g : Got (Had Lot)) → Stands (Some p) (compared_in H t n p r g)
    drawn_again (got h) = at (other_train H t n p h.what r)
    drawn_again (refused f) = refl

-- the digest after these rounds, from the one before them
chain : (List ℕ → List ℕ) → List ℕ → List Round → List ℕ
chain H d [] = d
chain H d (r ∷ rs) = chain H (next_digest H d (text_of r)) rs

chain_book : (H : List ℕ → List ℕ) (task : List ℕ) (ws : List (List ℕ)) (rs : List Round) → chain H (after H task ws) rs ≡ after H task (reverse_aux (map text_of rs) ws)
unfolding after chain
chain_book H task ws [] = refl
chain_book H task ws (r ∷ rs) = chain_book H task (text_of r ∷ ws) rs

module _ (H : List ℕ → List ℕ) (digest : List ℕ) where
  -- what is to be told of the rounds that follow, where the judge has come so far
  abbrev rest : Judge → List ℕ → Cut → Verdict
  rest s drawn (fault_in f n) = bad_words f n
  rest s drawn (cut_into rs) =
      cond (same_row (chain H s.digest rs) digest)
      (judged (s.round + length rs) (first_of s.content (content_from H s.task s.round rs)) (first_drawn s.redrawn (redrawn_from H s.task s.plan s.round drawn rs)))
      other_words

  none_left : (s : Judge) (drawn : List ℕ) → Stands s.plan s.redrawn → finish s digest ≡ rest s drawn (cut_short s.round s.awaits)
  unfolding chain content_from redrawn_from
  none_left s drawn h = go s.awaits
    where
      same : cond (same_row s.digest digest) (judged s.round s.content s.redrawn) other_words ≡ rest s drawn (cut_into [])
      same = let n : s.round + 0 ≡ s.round = omega arith in rw (n, content-ends s.content, h) refl

      go : (a : Awaits) → ended s digest a ≡ rest s drawn (cut_short s.round a)
      go for_boxes = same
      go for_nothing = same
      go (for_ask b) = refl
      go (for_answer a) = refl
      go (for_end a o) = refl

  one_more : (s : Judge) (drawn : List ℕ) (r : Round) (c : Cut) → rest (closing H s drawn r) (left_over s.task drawn) c ≡ rest s drawn (also_round r c)
  unfolding chain content_from redrawn_from
  one_more s drawn r (fault_in f n) = refl
  one_more s drawn r (cut_into rs) =
      let n : s.round + 1 + length rs ≡ s.round + length (r ∷ rs) = omega arith in
      rw (n, content_joins, redrawn_joins) refl

  abbrev Tells : List (List ℕ) → Type 0
  Tells ws =
      (s : Judge) (drawn : List ℕ) → Stands s.plan s.redrawn → tells H s drawn digest ws ≡ rest s drawn (cut_from s.task s.round s.awaits ws)

  one_word : (ws : List (List ℕ)) → Tells ws → (s : Judge) (drawn : List ℕ) → Stands s.plan s.redrawn → (g : Got Heard) →
      and_on (went H s drawn g) (λ next. tells H next (onwards s drawn next) digest ws)
      ≡ rest s drawn (cut_on s.round g (λ b. cut_from s.task s.round b ws) (λ r. cut_from s.task (s.round + 1) (behind r) ws))
  one_word ws ih s drawn h (refused f) = refl
  one_word ws ih s drawn h (got (waits a)) = rw (le-ltb s.round s.round (omega arith)) (ih (waiting s a) drawn h)
  one_word ws ih s drawn h (got (closes r)) =
      let stands = both_stand s.plan s.redrawn _ (redrawn_stands H s.task s.plan s.round r drawn) in
      rw (lt-ltb s.round (s.round + 1) (omega arith)) (ih (closing H s drawn r) (left_over s.task drawn) stands ∙ one_more s drawn r (cut_from s.task (s.round + 1) (behind r) ws))

  tells-rest : (ws : List (List ℕ)) → Tells ws
  unfolding tells cut_from
  tells-rest [] s drawn h = none_left s drawn h
  tells-rest (w ∷ ws) s drawn h = one_word ws (tells-rest ws) s drawn h (hear s.task s.round s.awaits w)

pub folds : (H : List ℕ → List ℕ) → Folds H
folds H t p drawn digest ws = tells-rest H digest ws (begin H t p) drawn (nothing_stands p) ∙ begun (cut t ws)
  where
    first : (p : Option Plan) (d : Redrawn) → first_drawn (nothing_yet p) d ≡ d
    first (Some p) d = refl
    first None d = refl

    begun : (c : Cut) → rest H digest (begin H t p) drawn c ≡ judge H t p drawn digest c
    begun (fault_in f n) = refl
    begun (cut_into rs) = let n : 0 + length rs ≡ length rs = omega arith in rw (n, chain_book, first) refl
