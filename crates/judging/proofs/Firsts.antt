-- The first number for which a test holds, from below. Assumes nothing.
use Rattle.std.proofs.Common.{◌≡◌, ℕ, zero, suc, ◌+◌, ◌<◌, ◌≤◌, Bool, true, false, ◌≢◌, ◌⊎◌, Some, None, Option, MatchOption, refl, ap, ◌∙◌, inl, inr, arith}
use Rattle.std.proofs.lemmas.Bool.{cases_eq}
use Rattle.judging.specs.Judging.{first_from}

module _ (is : ℕ → Bool) where
  -- the first of m numbers from i on is k
  first_here : (m i k : ℕ) → i ≤ k → k < i + m → is k ≡ true → ((j : ℕ) → i ≤ j → j < k → is j ≡ false) → Some k ≡ first_from is i m
  unfolding first_from
  first_here zero i k low high here below = absurd (omega arith)
  first_here (suc m) i k low high here below =
      go (cases_eq i k) (λ past. first_here m (i + 1) k past (omega arith) here (λ j l h. below j (omega arith) h))
    where
      go : (i ≡ k) ⊎ (i ≢ k) → (i + 1 ≤ k → Some k ≡ first_from is (i + 1) m) → Some k ≡ first_from is i (suc m)
      go (inl e) later = let this : is i ≡ true = ap is e ∙ here in rw (this, e) refl
      go (inr e) later = rw (below i (omega arith) (omega arith)) (later (omega arith))

  first_none : (m i : ℕ) → ((j : ℕ) → i ≤ j → j < i + m → is j ≡ false) → None ≡ first_from is i m
  unfolding first_from
  first_none zero i below = refl
  first_none (suc m) i below = rw (below i (omega arith) (omega arith)) (first_none m (i + 1) (λ j l h. below j (omega arith) (omega arith)))

  -- what a search from 0 on finds
  pub first_is : (m : ℕ) (r : Option ℕ) → MatchOption r ((k : ℕ) → 0 ≤ k → k < m → is k ≡ false) (λ i. (0 ≤ i) × (i < m) × (is i ≡ true) × ((k : ℕ) → 0 ≤ k → k < i → is k ≡ false)) →
      r ≡ first_from is 0 m
  first_is m None below = first_none m 0 (λ j l h. below j l (omega arith))
  first_is m (Some i) h = first_here m 0 i h.0 (omega (arith, h.1)) h.2 h.3
