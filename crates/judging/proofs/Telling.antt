-- Nothing is told of words that don't fit the digest; and which drawn bytes serve. Assumes nothing.
use Rattle.std.proofs.Common.{◌≡◌, ℕ, Bool, true, false, List, ◌++◌, length, Some, None, Option, sym, refl, ap, ◌∙◌}
use Rattle.paths.specs.Plan.{Plan}
use Rattle.paths.specs.Count.{same_row}
use Rattle.tasks.specs.Reading.{Got, got, refused}
use Rattle.paths.proofs.Same.{same_decides}
use Rattle.lots.specs.Lots.{lot_in}
use Rattle.lots.proofs.Following.{lot_follows}
use Rattle.judging.specs.Verdict.{Content, Redrawn, other_words, judged}
use Rattle.cutting.specs.Cutting.{Round, Heard, waits, closes, hear, cut_into}
use Rattle.judging.specs.Judging.{redrawn_in, compared_in, left_in, book_of, judge, verdict}
use Rattle.judging.specs.Steps.{went}
use Rattle.judging.specs.Laws.{FrontServes, BookFirst}

pub book-first : (H : List ℕ → List ℕ) → BookFirst H
book-first H t digest ws rs e = record { other = other; fits = fits }
  where
    other : (book_of H t rs ≡ digest → ⊥) → (p : Option Plan) (drawn : List ℕ) → verdict H t p drawn digest ws ≡ other_words
    other ne p drawn = ap (judge H t p drawn digest) e ∙ go (same_row (book_of H t rs) digest) refl
      where
        go : (b : Bool) → same_row (book_of H t rs) digest ≡ b → judge H t p drawn digest (cut_into rs) ≡ other_words
        go true s = absurd (ne ((same_decides _ _).0 s))
        go false s = rw s refl

    fits : (p : Option Plan) (drawn : List ℕ) (n : ℕ) (c : Content) (d : Redrawn) → verdict H t p drawn digest ws ≡ judged n c d → (book_of H t rs ≡ digest) × (length rs ≡ n)
    fits p drawn n c d h = go (same_row (book_of H t rs) digest) refl (sym (ap (judge H t p drawn digest) e) ∙ h)
      where
        go : (b : Bool) → same_row (book_of H t rs) digest ≡ b → judge H t p drawn digest (cut_into rs) ≡ judged n c d → (book_of H t rs ≡ digest) × (length rs ≡ n)
        go true s h = let k = rw s at h in ((same_decides _ _).0 s, cc)
        go false s h = let k = rw s at h in cc

pub front_serves : (H : List ℕ → List ℕ) → FrontServes H
front_serves H s w front more h e = (go (hear s.task s.round s.awaits w), ap left_in follows)
  where
    follows : lot_in s.task (front ++ more) ≡ got record { what = h.what; left = h.left ++ more }
    follows = lot_follows s.task front h e more

    again : (p : Option Plan) (r : Round) → redrawn_in H s.task p s.round r (front ++ more) ≡ redrawn_in H s.task p s.round r front
    again None r = refl
    again (Some p) r = ap (compared_in H s.task s.round p r) follows ∙ sym (ap (compared_in H s.task s.round p r) e)

    go : (g : Got Heard) → went H s (front ++ more) g ≡ went H s front g
    go (refused f) = refl
    go (got (waits a)) = refl
    go (got (closes r)) = rw (again s.plan r) refl
