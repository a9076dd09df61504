-- Two books of one last digest. Assumes nothing.
use Rattle.std.proofs.Common.{◌≡◌, ℕ, Bool, true, false, cond, ◌⊎◌, List, [], ◌∷◌, ◌++◌, length, sym, refl, ◌∙◌, subst, ap₂, inl, inr}
use Rattle.std.proofs.lemmas.Bool.{cases_Bool}
use Rattle.paths.specs.Count.{same_row}
use Rattle.boxes.specs.Binding.{collides}
use Rattle.boxes.proofs.Binds.{collides_from}
use Rattle.boxes.proofs.Parts.{same_parts}
use Rattle.paths.proofs.Same.{same_decides}
use Rattle.book.specs.Lengths.{TaskText, RoundText}
use Rattle.book.specs.Chain.{next_digest, after, breach, Sized, Binds}
use Rattle.book.proofs.Uses.{no_task_lem}

-- texts of one digest are the same, or they collide
either : (H : List ℕ → List ℕ) (x y : List ℕ) → H x ≡ H y → (collides H (x, y) ≡ true) ⊎ (x ≡ y)
either H x y e =
    elim (cases_Bool (same_row x y)) [
      | inl s ↦ inr ((same_decides x y).0 s)
      | inr d ↦ inl (collides_from H x y d e)
    ]

module _ (H : List ℕ → List ℕ) (sized : Sized H) where
  sized_after : (a : List ℕ) (ws : List (List ℕ)) → length (after H a ws) ≡ 32
  unfolding after
  sized_after a [] = sized a
  sized_after a (w ∷ ws) = sized (after H a ws ++ w)

  task-first : (a b : List ℕ) (v : List ℕ) (vs : List (List ℕ)) → TaskText a → RoundText v → a ≡ after H b vs ++ v → ⊥
  task-first a b v vs ta rv e = no_task_lem (after H b vs) v (sized_after b vs) rv (subst TaskText e ta)

  -- the last rounds of both: they collide, or they are the same, and so it was before them
  back : (a b w v : List ℕ) (ws vs : List (List ℕ)) → next_digest H (after H a ws) w ≡ next_digest H (after H b vs) v →
      (after H a ws ≡ after H b vs → (collides H (breach H a ws b vs) ≡ true) ⊎ ((a ≡ b) × (ws ≡ vs))) →
      (collides H (breach H a (w ∷ ws) b (v ∷ vs)) ≡ true) ⊎ ((a ≡ b) × (w ∷ ws ≡ v ∷ vs))
  unfolding breach
  back a b w v ws vs e ih =
      go (same_row (after H a ws ++ w) (after H b vs ++ v)) refl
    where
      go : (t : Bool) → same_row (after H a ws ++ w) (after H b vs ++ v) ≡ t →
          (collides H (cond t (breach H a ws b vs) (after H a ws ++ w, after H b vs ++ v)) ≡ true) ⊎ ((a ≡ b) × (w ∷ ws ≡ v ∷ vs))
      go false d = inl (collides_from H (after H a ws ++ w) (after H b vs ++ v) d e)
      go true s =
          let p = same_parts (after H a ws) (after H b vs) w v (sized_after a ws ∙ sym (sized_after b vs)) ((same_decides _ _).0 s) in
          elim (ih p.0) [
            | inl x ↦ inl x
            | inr q ↦ inr (q.0, ap₂ (λ x xs. x ∷ xs) p.1 q.1)
          ]

  pub binds : Binds H
  unfolding after breach
  binds a b [] [] ta tb ps qs e = elim (either H a b e) [ inl x ↦ inl x | inr s ↦ inr (s, refl) ]
  binds a b [] (v ∷ vs) ta tb ps (q, qs) e =
      elim (either H a (after H b vs ++ v) e) [ inl x ↦ inl x | inr s ↦ absurd (task-first a b v vs ta q s) ]
  binds a b (w ∷ ws) [] ta tb (p, ps) qs e =
      elim (either H (after H a ws ++ w) b e) [ inl x ↦ inl x | inr s ↦ absurd (task-first b a w ws tb p (sym s)) ]
  binds a b (w ∷ ws) (v ∷ vs) ta tb (p, ps) (q, qs) e = back a b w v ws vs e (binds a b ws vs ta tb ps qs)
