-- Boxes of a cheating planner that pass for every pair, where a train of no pair may hold any number at all. Assumes nothing.
use Rattle.std.specs.Prelude.{◌≡◌, ℕ, ◌<◌, cond, T, List, map, length, nat_lt}
use Rattle.paths.specs.Plan.{Task, Good, Plan, at, fits}
use Rattle.paths.specs.Show.{pair_at, content}
use Rattle.paths.specs.Cheat.{shown_by}

-- numbers of k or above set to 0
abbrev pub clip : ℕ → List ℕ → Plan
clip k = map (λ x. cond (nat_lt x k) x 0)

-- Such boxes hold a plan that fits, once clipped, which changes no train of a pair.
pub record Clipped (t : Task) (b : List ℕ) : Type 0 where
  pub fit : T (fits t (clip t.paths b))
  pub kept : (i : ℕ) → i < length t.pairs → (at (clip t.paths b) (pair_at t i).a ≡ at b (pair_at t i).a) × (at (clip t.paths b) (pair_at t i).e ≡ at b (pair_at t i).e)

abbrev pub ReadsClipped : Type 0
ReadsClipped = (t : Task) → Good t → (b : List ℕ) → length b ≡ t.trains → ((i : ℕ) → i < length t.pairs → T (content t (shown_by t b i))) → Clipped t b
