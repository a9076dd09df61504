-- Near misses: small changes to the rounds that would show something of the plan, or catch nobody. Assumes nothing.
use Rattle.std.specs.Prelude.{◌≡◌, ℕ, ◌+◌, ◌-◌, ◌%◌, ◌<◌, T, ◌≢◌, ◌⊎◌, List, [], ◌∷◌, map, length, replicate}
use Rattle.paths.specs.Plan.{Task, Good, Plan, at, fits, all_below, different}
use Rattle.paths.specs.Show.{Coin, Asker, box_of, pair_at, round, view}
use Rattle.paths.specs.Cheat.{passes, up_to}
use Rattle.paths.specs.Promise.{IsCoin}
use Rattle.paths.specs.Paired.{AlikeBy}

-- coins of two rounds that have one order
abbrev pub OneOrder : Task → Coin → Coin → Type 0
OneOrder t c d = IsCoin t c × IsCoin t d × (c.order ≡ d.order)

-- a train of pair i
abbrev pub IsOf : Task → ℕ → ℕ → Type 0
IsOf t i x = (x ≡ (pair_at t i).a) ⊎ (x ≡ (pair_at t i).e)

-- an asker who asks for pair i first, and then for pair j
abbrev pub first_then : ℕ → ℕ → Asker
first_then i j [] = i
first_then i j (s ∷ ss) = j

-- four trains, of which the first two may not share one of three paths, nor the last two
abbrev pub two_duos : Task
two_duos = record { trains = 4; paths = 3; pairs = record { a = 0; e = 1 } ∷ record { a = 2; e = 3 } ∷ [] }

-- two of its plans: the last train has the path of train 1, or its own
abbrev pub shared : Plan
shared = 0 ∷ 1 ∷ 0 ∷ 1 ∷ []

abbrev pub own : Plan
own = 0 ∷ 1 ∷ 0 ∷ 2 ∷ []

-- An order used twice gives the plan away: it shows whether two trains have the same path, where one is opened in the one round, and one in the other. So of two plans, by
-- one of which they have it and by the other not, never the same is seen, whatever the orders: as of two that fit two_duos. With an order for each round the same is seen of these.
pub record OrderTwice : Type 0 where
  pub shows : (t : Task) (p : Plan) → T (fits t p) → (c d : Coin) → IsCoin t c → c.order ≡ d.order → (x y : ℕ) → x < t.trains → y < t.trains →
      ((box_of p c x).holds ≡ (box_of p d y).holds → at p x ≡ at p y) × (at p x ≡ at p y → (box_of p c x).holds ≡ (box_of p d y).holds)
  pub tells : (t : Task) → Good t → (p q : Plan) → T (fits t p) → T (fits t q) → (i j : ℕ) → i < length t.pairs → j < length t.pairs → (x y : ℕ) → IsOf t i x → IsOf t j y →
      at p x ≡ at p y → at q x ≢ at q y → (c d e g : Coin) → OneOrder t c d → OneOrder t e g →
      view t p (first_then i j) (c ∷ d ∷ []) ≢ view t q (first_then i j) (e ∷ g ∷ [])
  pub shared_fits : T (fits two_duos shared)
  pub own_fits : T (fits two_duos own)
  pub never : (c d e g : Coin) → OneOrder two_duos c d → OneOrder two_duos e g →
      view two_duos shared (first_then 0 1) (c ∷ d ∷ []) ≢ view two_duos own (first_then 0 1) (e ∷ g ∷ [])
  pub fresh : AlikeBy two_duos shared own (first_then 0 1) 2

-- an order that only turns the ring of k paths by d
abbrev pub turned : ℕ → ℕ → List ℕ
turned k d = map (λ v. (v + d) % k) (up_to k)

-- how far it is from y to x round a ring of k
abbrev pub gap : ℕ → ℕ → ℕ → ℕ
gap k x y = (x + (k - y)) % k

-- two trains that may not share one of three paths
abbrev pub duo : Task
duo = record { trains = 2; paths = 3; pairs = record { a = 0; e = 1 } ∷ [] }

-- If orders are only turns, the two open boxes show how far apart the two paths are; so two plans that fit can be told apart at once.
pub record TurnsShow : Type 0 where
  pub orders : (k d : ℕ) → 0 < k → (length (turned k d) ≡ k) × T (different (turned k d)) × T (all_below k (turned k d))
  pub gaps : (t : Task) → Good t → (p : Plan) → T (fits t p) → (i : ℕ) → i < length t.pairs → (d : ℕ) (ns : List ℕ) →
      let s = round t p (record { order = turned t.paths d; chances = ns }) i in
      gap t.paths s.first.holds s.second.holds ≡ gap t.paths (at p (pair_at t i).a) (at p (pair_at t i).e)
  pub one_fits : T (fits duo (0 ∷ 1 ∷ []))
  pub other_fits : T (fits duo (0 ∷ 2 ∷ []))
  pub never : (f : Asker) (d e : ℕ) (ms ns : List ℕ) →
      view duo (0 ∷ 1 ∷ []) f (record { order = turned 3 d; chances = ms } ∷ []) ≢ view duo (0 ∷ 2 ∷ []) f (record { order = turned 3 e; chances = ns } ∷ [])

-- three trains, of which no two may share a path, and two paths
abbrev pub trio : Task
trio = record { trains = 3; paths = 2; pairs = record { a = 0; e = 1 } ∷ record { a = 0; e = 2 } ∷ record { a = 1; e = 2 } ∷ [] }

-- An asker who always asks for the same pair is content, however often it asks, though no plan fits.
pub record SamePair : Type 0 where
  pub none : (p : Plan) → T (fits trio p) → ⊥
  pub content : (r : ℕ) → T (passes trio (λ s. 0 ∷ 1 ∷ 0 ∷ []) (replicate r 0) [])
