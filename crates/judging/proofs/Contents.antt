-- The finding of the asker's content is told exactly where it is so. Assumes nothing.
use Rattle.std.proofs.Common.{◌≡◌, ℕ, ◌+◌, ◌<◌, Bool, true, false, cond, ltb, ◌⊎◌, List, [], ◌∷◌, length, sym, refl, ap, ◌∙◌, inl, inr}
use Rattle.std.proofs.lemmas.Bool.{cases_Bool, ltb-true, ltb-false, lt-ltb, le-ltb}
use Rattle.paths.specs.Plan.{Task}
use Rattle.paths.specs.Show.{pair_at}
use Rattle.tasks.specs.Reading.{Got, Looked, got, refused, and_then}
use Rattle.tasks.specs.Task.{sound}
use Rattle.words.specs.Said.{Said}
use Rattle.words.specs.Reading.{read_word}
use Rattle.round.specs.Round.{test_opened}
use Rattle.round.proofs.Contents.{accepts, passed}
use Rattle.judging.specs.Verdict.{Content, content_all, not_content, content_but, first_of}
use Rattle.cutting.specs.Cutting.{Round}
use Rattle.judging.specs.Judging.{digests_of, look, if_content, content_in, content_from}
use Rattle.judging.specs.Contents.{Well, Ill, no_pair, no_word, bad, Test, well, ill, Tells, all_well, next_round, end0, end1, TellsContent}

module _ (H : List ℕ → List ℕ) (t : Task) (good : sound t ≡ true) where
  module _ (n : ℕ) (r : Round) where
    abbrev test : Said → Got Looked
    test = test_opened H t n r.asked.pair (digests_of r)

    -- what passes the test is well, and what is well passes
    looked : Test H t n r (look H t n r)
    looked = elim (cases_Bool (ltb r.asked.pair (length t.pairs))) [ inl e ↦ rw e (read (ltb-true _ _ e) (read_word t r.opened) refl) | inr e ↦ rw e (ill 7 (no_pair (ltb-false _ _ e))) ]
      where
        tested : r.asked.pair < length t.pairs → (v : Said) → read_word t r.opened ≡ got v → (g : Got Looked) → test v ≡ g → Test H t n r g
        tested there v e (refused f) h = ill f (bad v f there e (λ w. let a = accepts H t good n r.asked.pair (digests_of r) w.first w.second w.contents in let s = w.word in cc) h)
        tested there v e (got u) h =
            let p = passed H t good n r.asked.pair (digests_of r) v h in
            well (record { pair_there = there; first = p.0; second = p.1; word = e ∙ ap got p.2; contents = p.3 })

        read : r.asked.pair < length t.pairs → (g : Got Said) → read_word t r.opened ≡ g → Test H t n r (and_then g test)
        read there (refused f) e = ill f (no_word f there e)
        read there (got v) e = tested there v e (test v) refl

    look-at : (g : Got Said) (f : Got Looked) → r.asked.pair < length t.pairs → read_word t r.opened ≡ g → and_then g test ≡ f → look H t n r ≡ f
    look-at g f there e h = rw (lt-ltb _ _ there) (ap (λ g. and_then g test) e ∙ h)

    look-well : Well H t n r → look H t n r ≡ got tt
    look-well w = look-at _ _ w.pair_there w.word (accepts H t good n r.asked.pair (digests_of r) w.first w.second w.contents)

    look-ill : (f : ℕ) → Ill H t n r f → look H t n r ≡ refused f
    look-ill _ (no_pair k) = rw (le-ltb _ _ k) refl
    look-ill _ (no_word f there e) = look-at _ _ there e refl
    look-ill _ (bad v f there e k h) = look-at _ _ there e h

    look-is : (g : Got Looked) → Test H t n r g → look H t n r ≡ g
    look-is _ (well w) = look-well w
    look-is _ (ill f i) = look-ill f i

  told : (n : ℕ) (rs : List Round) → Tells H t n rs (content_from H t n rs)
  unfolding content_from
  told n [] = all_well n
  told n (r ∷ rs) = go r.content refl (look H t n r) (looked n r) (told (n + 1) rs)
    where
      go : (c : Bool) → r.content ≡ c → (g : Got Looked) → Test H t n r g → Tells H t (n + 1) rs (content_from H t (n + 1) rs) →
          Tells H t n (r ∷ rs) (first_of (cond c (if_content n g) (not_content n g)) (content_from H t (n + 1) rs))
      go false e g h more = end0 n r rs g e h
      go true e _ (well w) more = next_round n r rs _ e w more
      go true e _ (ill f i) more = end1 n r rs f e i

  told_only : (n : ℕ) (rs : List Round) (c : Content) → Tells H t n rs c → content_from H t n rs ≡ c
  unfolding content_from
  told_only n _ c (all_well m) = refl
  told_only n _ c (next_round m r rs d e w more) = rw (e, look-well n r w) (told_only (n + 1) rs c more)
  told_only n _ c (end0 m r rs g e h) = rw e (ap (λ g. first_of (not_content n g) (content_from H t (n + 1) rs)) (look-is n r g h))
  told_only n _ c (end1 m r rs f e i) = rw (e, look-ill n r f i) refl

pub tells_content : (H : List ℕ → List ℕ) → TellsContent H
tells_content H t good n rs = (told H t good n rs, told_only H t good n rs)
