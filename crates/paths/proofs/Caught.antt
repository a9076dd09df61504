-- Where no plan fits, a cheating planner is caught: in each round some question goes wrong, whatever was shown before. Assumes nothing.
use Rattle.std.proofs.Common.{◌≡◌, ℕ, zero, suc, ◌+◌, ◌-◌, ◌*◌, ◌^◌, ◌<◌, ◌≤◌, Bool, true, false, cond, T, ◌⊎◌, List, [], ◌∷◌, ◌++◌, length, ap, inl, inr, pow-suc, arith}
use native.Mathlib.Nat.{pow-zero}
use Rattle.paths.specs.Plan.{Task, Plan, Good, fits}
use Rattle.paths.specs.Show.{Shown, content}
use Rattle.paths.specs.Cheat.{Cheat, shown_by, passes, up_to, before, asks, count}
use Rattle.paths.specs.Promise.{Caught}
use Rattle.paths.specs.Clip.{clip}
use Rattle.paths.proofs.Content.{reads_clipped}
use Rattle.paths.proofs.Counts.{at_most, count-and}

cond_le : {x y : ℕ} (b : Bool) → x ≤ y → cond b x 0 ≤ cond b y 0
cond_le true h = h
cond_le false h = omega arith

module _ (t : Task) (good : Good t) (none : (p : Plan) → T (fits t p) → ⊥) (f : Cheat) (long : (s : List Shown) → length (f s) ≡ t.trains) where
  less : (n : ℕ) → length t.pairs ≡ suc n → (r : ℕ) (ss : List Shown) → count (λ is. passes t f is ss) (asks (length t.pairs) r) ≤ n ^ r
  unfolding asks count passes
  less n e zero ss = omega (arith, pow-zero n)
  less n e (suc r) ss =
      go (at_most (λ is. passes t f is ss) (λ i. content t (shown_by t (f ss) i)) (n ^ r) (asks (length t.pairs) r) (λ i. after i (less n e r (ss ++ (shown_by t (f ss) i ∷ [])))) (length t.pairs))
    where
      lucky-after : List Shown → ℕ
      lucky-after ss = count (λ is. passes t f is ss) (asks (length t.pairs) r)

      lucky-all : ℕ
      lucky-all = count (λ is. passes t f is ss) (before (up_to (length t.pairs)) (asks (length t.pairs) r))

      after : (i : ℕ) → lucky-after (ss ++ (shown_by t (f ss) i ∷ [])) ≤ n ^ r → count (λ is. passes t f (i ∷ is) ss) (asks (length t.pairs) r) ≤ cond (content t (shown_by t (f ss) i)) (n ^ r) 0
      after i h = rw (count-and (content t (shown_by t (f ss) i)) (λ is. passes t f is (ss ++ (shown_by t (f ss) i ∷ []))) (asks (length t.pairs) r)) (cond_le (content t (shown_by t (f ss) i)) h)

      go : (((i : ℕ) → i < length t.pairs → T (content t (shown_by t (f ss) i))) × (lucky-all ≤ length t.pairs * n ^ r)) ⊎ (lucky-all + n ^ r ≤ length t.pairs * n ^ r) → lucky-all ≤ n ^ suc r
      go (inl h) = absurd (none (clip t.paths (f ss)) (reads_clipped t good (f ss) (long ss) h.0).fit)
      go (inr h) = omega (arith, pow-suc n r, ap (λ x. x * n ^ r) e)

pub caught : Caught
caught t good none f long r = less t good none f long (length t.pairs - 1) (omega arith) r []
