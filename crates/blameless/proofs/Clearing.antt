-- The planner is cleared. Assumes nothing.
use Rattle.std.proofs.Common.{◌≡◌, ℕ, ◌+◌, ◌^◌, ◌≤◌, Bool, true, false, List, [], ◌∷◌, reverse, length, Some, None, Option, sym, refl, ◌∙◌, zero-add, arith}
use Rattle.paths.specs.Plan.{Task, Plan, fits, all_below}
use Rattle.paths.specs.Count.{same_row}
use Rattle.tasks.specs.Task.{sound}
use Rattle.tasks.specs.Writing.{task_bytes}
use Rattle.tasks.proofs.TaskLaws.{guarantees}
use Rattle.paths.proofs.Same.{same_decides}
use Rattle.book.specs.Chain.{Sized}
use Rattle.words.proofs.Laws.{word_law}
use Rattle.round.specs.Line.{Event, sent, Ran}
use Rattle.planning.proofs.Conducts.{conduct}
use Rattle.judging.specs.Verdict.{Content, Redrawn, not_handed, agrees, judged}
use Rattle.cutting.specs.Cutting.{Round, Cut, cut_into, fault_in, cut}
use Rattle.judging.specs.Judging.{content_from, redrawn_from, left_over, book_of, judge, verdict}
use Rattle.judging.proofs.Passes.{honest_passes}
use Rattle.judging.proofs.Binds.{words_bind}
use Rattle.blameless.specs.Transcript.{transcript}
use Rattle.blameless.specs.Blameless.{Cleared, Blameless}
use Rattle.blameless.proofs.Closing.{Closing, closing}

module _ (H : List ℕ → List ℕ) where
  none-handed : (t : Task) (n : ℕ) (any : List ℕ) (rs : List Round) → redrawn_from H t None n any rs ≡ not_handed
  unfolding redrawn_from
  none-handed t n any [] = refl
  none-handed t n any (r ∷ rs) = none-handed t (n + 1) (left_over t any) rs

  module _ (t : Task) (q : Option Plan) (given digest : List ℕ) (ws : List (List ℕ)) (n : ℕ) (c : Content) (d : Redrawn) where
    -- words of which anything is told are cut into rounds whose book ends in the digest; and the same is told without plan and drawn bytes
    record Judged : Type 0 where
      rounds : List Round
      cuts : cut t ws ≡ cut_into rounds
      fits-book : book_of H t rounds ≡ digest
      without : (any : List ℕ) → verdict H t None any digest ws ≡ judged n c not_handed

    judged_so : verdict H t q given digest ws ≡ judged n c d → Judged
    judged_so e = by_cut (cut t ws) refl
      where
        by_book : (rs : List Round) → cut t ws ≡ cut_into rs → judge H t q given digest (cut_into rs) ≡ judged n c d → (b : Bool) → same_row (book_of H t rs) digest ≡ b → Judged
        by_book rs f k false s = cc (rw s at k)
        by_book rs f k true s =
            let told = rw s at k in
            let l : length rs ≡ n = cc in
            let m : content_from H t 0 rs ≡ c = cc in
            record { rounds = rs; cuts = f; fits-book = (same_decides _ _).0 s; without = λ any. rw (f, s, l, m, none-handed t 0 any rs) refl }

        by_cut : (k : Cut) → cut t ws ≡ k → Judged
        by_cut (fault_in f m) k = cc (rw k at e)
        by_cut (cut_into rs) k = by_book rs k (rw k at e) _ refl

module _ (H : List ℕ → List ℕ) (sized : Sized H) (t : Task) (s : sound t ≡ true) (p : Plan) (fp : fits t p ≡ true) (r : ℕ) (few : r ≤ 2 ^ 24) (drawn : List ℕ)
    (b : all_below 256 drawn ≡ true) (x : Ran) (line : List Event) (e : reverse x.line ≡ sent (task_bytes t) ∷ line) (c : Closing H t p r 0 drawn [] line x.over) where
  passes : verdict H t (Some p) drawn x.over.digest (transcript x) ≡ judged (0 + length c.texts) c.found agrees
  passes = rw (e, c.book, zero-add (length c.texts)) (honest_passes H sized t s p fp drawn b _ c.texts c.found c.honest (omega (arith, c.few)))

  cleared : Cleared H t p drawn x
  cleared =
      let own = judged_so H t (Some p) drawn x.over.digest (transcript x) _ _ _ passes in
      record {
        handed = passes ∙ sym (c.tells agrees);
        unhanded = λ any. own.without any ∙ sym (c.tells not_handed);
        no_other =
            λ u v q given ws n d f told.
            let their = judged_so H u q given x.over.digest ws n d f told in
            rw (own.cuts, their.cuts) (
            words_bind H sized t u s v (transcript x) ws own.rounds their.rounds own.cuts their.cuts (own.fits-book ∙ sym their.fits-book));
      }

pub blameless : (H : List ℕ → List ℕ) → Sized H → Blameless H
blameless H sized t s p fp r few other bytes drawn b =
    let g = (guarantees t s).few_trains in
    let run = conduct H t p r (omega (arith, g)) other bytes drawn in
    cleared H sized t s p fp r few drawn b _ run.0 run.1 (closing H t p r (word_law t (omega (arith, g))) few 0 drawn [] run.0 _ (omega arith) run.2)
