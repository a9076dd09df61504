-- The first finding is told. Assumes nothing.
use Rattle.std.proofs.Common.{◌≡◌, ℕ, Bool, true, false, List, length, Some, Option, sym, refl, ap, ◌∙◌, subst}
use Rattle.paths.specs.Plan.{Task, Plan}
use Rattle.paths.specs.Count.{same_row}
use Rattle.tasks.specs.Task.{sound}
use Rattle.judging.specs.Verdict.{Content, Redrawn, Verdict, judged}
use Rattle.cutting.specs.Cutting.{Round, Cut, cut_into, fault_in, cut}
use Rattle.judging.specs.Contents.{Tells}
use Rattle.judging.specs.Judging.{content_from, redrawn_from, book_of, judge}
use Rattle.judging.specs.Finding.{FirstsTold, FirstCounts}
use Rattle.judging.proofs.Contents.{tells_content}
use Rattle.judging.proofs.Folds.{folds}
use Rattle.judging.proofs.Redraws.{tells_difference}

pub first_counts : (H : List ℕ → List ℕ) → FirstCounts H
first_counts H t s p drawn digest ws n c d so = told (cut t ws) (sym (folds H t p drawn digest ws) ∙ so)
  where
    firsts : (rs : List Round) → judged (length rs) (content_from H t 0 rs) (redrawn_from H t p 0 drawn rs) ≡ judged n c d → FirstsTold H t p drawn rs n c d
    firsts rs k =
        let x : content_from H t 0 rs ≡ c = cc in
        let y : redrawn_from H t p 0 drawn rs ≡ d = cc in
        record {
          many = cc;
          content = subst (Tells H t 0 rs) x (tells_content H t s 0 rs).0;
          redrawn = λ q e. rw (sym y, e) (tells_difference H t q 0 drawn rs).0;
        }

    by_book : (rs : List Round) → (b : Bool) → same_row (book_of H t rs) digest ≡ b → judge H t p drawn digest (cut_into rs) ≡ judged n c d → FirstsTold H t p drawn rs n c d
    by_book rs false f h = cc (rw f at h)
    by_book rs true f h = firsts rs (rw f at h)

    told : (k : Cut) → judge H t p drawn digest k ≡ judged n c d → (rs : List Round) × (k ≡ cut_into rs) × FirstsTold H t p drawn rs n c d
    told (fault_in f m) h = cc
    told (cut_into rs) h = (rs, refl, by_book rs _ refl h)
