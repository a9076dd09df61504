-- Whether two texts that collide are at hand. Assumes nothing.
use Rattle.std.proofs.Common.{◌≡◌, ℕ, Bool, true, false, cond, ◌||◌, List, [], ◌∷◌, ◌++◌, refl}
use Rattle.boxes.specs.Binding.{TwoTexts, collides}
use Rattle.soundness.specs.Texts.{first_of}

abbrev pub hit : (List ℕ → List ℕ) → List TwoTexts → Bool
hit H xs = collides H (first_of H xs)

module _ (H : List ℕ → List ℕ) where
  pub hit_more : (x : TwoTexts) (xs : List TwoTexts) → hit H (x ∷ xs) ≡ (collides H x || hit H xs)
  unfolding first_of
  hit_more x xs = go (collides H x) refl
    where
      go : (b : Bool) → collides H x ≡ b → collides H (cond b x (first_of H xs)) ≡ (b || hit H xs)
      go true e = e
      go false e = refl

  or_assoc : (a b c : Bool) → (a || (b || c)) ≡ ((a || b) || c)
  or_assoc true b c = refl
  or_assoc false b c = refl

  pub hit_append : (xs ys : List TwoTexts) → hit H (xs ++ ys) ≡ (hit H xs || hit H ys)
  unfolding first_of
  hit_append [] ys = refl
  hit_append (x ∷ xs) ys = rw (hit_more x (xs ++ ys), hit_more x xs, hit_append xs ys) (or_assoc (collides H x) (hit H xs) (hit H ys))
