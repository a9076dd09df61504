-- Secrecy over drawn bytes: the pairing of lots as one of the bytes that give them. H is any function in the place of SHA-256.
-- Assumes nothing.
use Rattle.std.specs.Prelude.{◌≡◌, ℕ, ◌+◌, ◌*◌, ◌/◌, ◌^◌, ◌≤◌, Bool, cond, T, List, [], ◌∷◌, ◌++◌, map, length, take, drop, replicate, nat_lt}
use Rattle.paths.specs.Plan.{Task, Good, Plan, fits, all_below}
use Rattle.paths.specs.Cheat.{count, asks}
use Rattle.drawing.specs.Drawing.{limit, values_of, in_range, aim, order_moduli, row_of}
use Rattle.lots.specs.Lots.{lot_in, each_as, in_turn}
use Rattle.lots.specs.Views.{value_at}
use Rattle.words.specs.Writing.{long_bytes}
use Rattle.round.specs.Line.{Other}
use Rattle.planning.specs.Run.{showing}
use Rattle.secrecy.specs.View.{unaware, View, view_of}
use Rattle.secrecy.specs.Lots.{lots_in}
use Rattle.secrecy.specs.Secret.{paired}
use Rattle.secrecy.specs.Twins.{TwinRuns}

-- how the four bytes of a value that is used are written anew: by its modulus, the number that is wanted, and the value
abbrev pub Pen : Type 0
Pen = ℕ → ℕ → ℕ → List ℕ

-- with the same quotient and the remainder that is wanted
abbrev pub aimed : Pen
aimed s e v = long_bytes (v / s * s + e)

-- blank, by what is no byte
abbrev pub blank : Pen
blank s e v = replicate 4 256

-- Bytes from which numbers below these moduli are drawn, four for a value: those of a value that is used are written anew, those of one that is passed over
-- stay, and those left over become what `after` makes of them
unfoldable pub rewrite : Pen → (List ℕ → List ℕ) → List ℕ → List ℕ → List ℕ → List ℕ
rewrite pen after [] es bs = after bs
rewrite pen after (s ∷ ss) [] bs = bs
rewrite pen after (s ∷ ss) (e ∷ es) [] = []
rewrite pen after (s ∷ ss) (e ∷ es) (a ∷ []) = a ∷ []
rewrite pen after (s ∷ ss) (e ∷ es) (a ∷ b ∷ []) = a ∷ b ∷ []
rewrite pen after (s ∷ ss) (e ∷ es) (a ∷ b ∷ c ∷ []) = a ∷ b ∷ c ∷ []
rewrite pen after (s ∷ ss) (e ∷ es) (a ∷ b ∷ c ∷ d ∷ bs) =
    let v = value_at (a ∷ b ∷ c ∷ d ∷ bs) 0 in
    cond (nat_lt v (limit (2 ^ 32) s)) (pen s e v ++ rewrite pen after ss es bs) (a ∷ b ∷ c ∷ d ∷ rewrite pen after (s ∷ ss) (e ∷ es) bs)

-- The bytes of lots, those of values that are used for an order written anew for these orders in turn: the chances stay, and so do the bytes after the lots
unfoldable pub rewrite_lots : Pen → Task → List (List ℕ) → List ℕ → List ℕ
rewrite_lots pen t [] bs = bs
rewrite_lots pen t (o ∷ os) bs =
    let size = 32 * t.trains in
    rewrite pen (λ left. take size left ++ rewrite_lots pen t os (drop size left)) (order_moduli t.paths) (row_of t.paths o) bs

-- the drawn bytes for plan q that go with drawn bytes for plan p: aimed at the orders of the lots that go with theirs
abbrev pub paired_bytes : (List ℕ → List ℕ) → Other → Task → Plan → Plan → ℕ → List ℕ → List ℕ
paired_bytes H f t p q r bs = rewrite_lots aimed t (map (λ l. l.order) (paired H f t p q r (lots_in t r bs))) bs

-- The showings of plan p with drawn bytes, and of plan q with the bytes that go with them: an asker that is unaware of digests sees the same, fault 11 too. The bytes are as many, and give the
-- lots that go together, with the same bytes left over. Nothing but remainders of values used for orders differs: with these values blank the bytes are the
-- same, each in its place; and aimed at any orders they are the same. The bytes are paired off one to one, none left out.
pub record SameByBytes (H : List ℕ → List ℕ) (t : Task) (p q : Plan) (f : Other) (r : ℕ) (bs : List ℕ) : Type 0 where
  pub as_many : length (paired_bytes H f t p q r bs) ≡ length bs
  pub bytes : T (all_below 256 (paired_bytes H f t p q r bs))
  pub lots : lots_in t r (paired_bytes H f t p q r bs) ≡ paired H f t p q r (lots_in t r bs)
  pub left : in_turn (lot_in t) r (paired_bytes H f t p q r bs) ≡ each_as (paired H f t p q r) (in_turn (lot_in t) r bs)
  pub places : (os : List (List ℕ)) → length os ≡ length (lots_in t r bs) → rewrite_lots blank t os (paired_bytes H f t p q r bs) ≡ rewrite_lots blank t os bs
  pub quotients : (os : List (List ℕ)) → length os ≡ length (lots_in t r bs) → rewrite_lots aimed t os (paired_bytes H f t p q r bs) ≡ rewrite_lots aimed t os bs
  pub back_there : paired_bytes H f t q p r (paired_bytes H f t p q r bs) ≡ bs
  pub there_back : paired_bytes H f t p q r (paired_bytes H f t q p r bs) ≡ bs
  pub same : view_of (showing H (unaware f) t p r bs) ≡ view_of (showing H (unaware f) t q r (paired_bytes H f t p q r bs))
  pub twins :
      let cs = paired_bytes H f t p q r bs in
      TwinRuns H t p q (lots_in t r bs) (lots_in t r cs) (showing H (unaware f) t p r bs) (showing H (unaware f) t q r cs)

-- So it is for all drawn bytes; and whatever is tested of what an asker sees, it passes for as many rows of drawn bytes with the one plan as with the other.
pub record SameRuns (H : List ℕ → List ℕ) (t : Task) (p q : Plan) (f : Other) (r : ℕ) : Type 0 where
  pub drawn : (bs : List ℕ) → T (all_below 256 bs) → SameByBytes H t p q f r bs
  pub as_often : (test : View → Bool) (many : ℕ) →
      count (λ bs. test (view_of (showing H (unaware f) t p r bs))) (asks 256 many) ≡ count (λ bs. test (view_of (showing H (unaware f) t q r bs))) (asks 256 many)

abbrev pub SecretByBytes : (List ℕ → List ℕ) → Type 0
SecretByBytes H = (t : Task) → Good t → t.paths ≤ 2 ^ 32 → (p q : Plan) → T (fits t p) → T (fits t q) → (f : Other) (r : ℕ) → SameRuns H t p q f r

-- Bytes written anew so are their values, aimed.
abbrev pub AimsValues : Type 0
AimsValues = (ss es : List ℕ) → T (in_range ss es) → (bs : List ℕ) → values_of 256 (rewrite aimed (λ left. left) ss es bs) ≡ aim (2 ^ 32) ss es (values_of 256 bs)
