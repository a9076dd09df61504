-- What is promised of drawing: no number, order, question or coin is favoured. Each promise is a type, and a term of it in proofs/ its proof.
-- Assumes nothing.
use Rattle.std.specs.Prelude.{◌≡◌, ℕ, zero, suc, ◌+◌, ◌*◌, ◌/◌, ◌%◌, ◌^◌, ◌<◌, ◌≤◌, Bool, true, false, cond, ◌&&◌, T, List, [], ◌∷◌, ◌++◌, length, ◌==◌, nat_lt}
use Rattle.paths.specs.Plan.{Task, all_below, different}
use Rattle.paths.specs.Show.{Coin}
use Rattle.paths.specs.Promise.{Coins}
use Rattle.paths.specs.Count.{same_row}
use Rattle.paths.specs.Cheat.{count, asks, before, up_to}
use Rattle.drawing.specs.Drawing.{limit, Drawn, drew, short, draw, and_then, values_of, serve, in_range, aim, passed, kept, order_moduli, order_of, row_of, showing_moduli, coins_of, row_of_coins, question_moduli}

-- how many of the numbers below n pass a test
unfoldable pub count_below : (ℕ → Bool) → ℕ → ℕ
count_below p zero = 0
count_below p (suc n) = count_below p n + cond (p n) 1 0

-- Of the values below n, each remainder d below s comes from equally many that are not passed over: limit / s.
abbrev pub Remainders : ℕ → Type 0
Remainders n = (s d : ℕ) → s ≤ n → d < s → count_below (λ v. nat_lt v (limit n s) && v % s == d) n ≡ limit n s / s

-- the values were enough, and the numbers drawn pass a test
abbrev pub such : (List ℕ → Bool) → Drawn → Bool
such p (drew ds left) = p ds
such p short = false

-- of all rows of so many values below n, how many draw numbers that pass a test; values that are passed over, and values left over, are counted in
abbrev pub how_many : ℕ → List ℕ → (List ℕ → Bool) → ℕ → ℕ
how_many n ss p many = count (λ vs. such p (draw n ss vs)) (asks n many)

-- the number of rows of so many values that draw one row of numbers: by the first value, which is used in limit / s ways and passed over in n % s ways
unfoldable pub ways : ℕ → List ℕ → ℕ → ℕ
ways n [] many = n ^ many
ways n (s ∷ ss) zero = 0
ways n (s ∷ ss) (suc many) = limit n s / s * ways n ss many + n % s * ways n (s ∷ ss) many

-- Each row of numbers in range comes from this many rows of values, whichever row it is.
abbrev pub Ways : ℕ → Type 0
Ways n = (ss : List ℕ) → T (serve n ss) → (many : ℕ) (ds : List ℕ) → T (in_range ss ds) → how_many n ss (same_row ds) many ≡ ways n ss many

-- So as many rows of values draw the one row of numbers as draw the other.
abbrev pub Rows : ℕ → Type 0
Rows n =
    (ss : List ℕ) → T (serve n ss) → (many : ℕ) (ds es : List ℕ) → T (in_range ss ds) → T (in_range ss es) →
    how_many n ss (same_row ds) many ≡ how_many n ss (same_row es) many

-- all rows of numbers in range
unfoldable pub all_rows : List ℕ → List (List ℕ)
all_rows [] = [] ∷ []
all_rows (s ∷ ss) = before (up_to s) (all_rows ss)

-- Whatever is tested of the numbers drawn, rows of values pass by as many as rows of numbers do, each in so many ways.
abbrev pub Shares : ℕ → Type 0
Shares n = (ss : List ℕ) → T (serve n ss) → (p : List ℕ → Bool) (many : ℕ) → how_many n ss p many ≡ count p (all_rows ss) * ways n ss many

-- To draw for one list of moduli after another is to draw for the one, and then for the other from the values left over: so a showing is drawn round by round.
abbrev pub InTurn : ℕ → Type 0
InTurn n = (ss ts vs : List ℕ) → draw n (ss ++ ts) vs ≡ and_then (draw n ss vs) (draw n ts)

-- Whatever is tested of values, it passes in the same share of all rows of bytes as of all rows of values; bytes at the end that make no value are free.
abbrev pub Bytes : Type 0
Bytes =
    (p : List ℕ → Bool) (many over : ℕ) → over < 4 →
    count (λ bs. p (values_of 256 bs)) (asks 256 (4 * many + over)) ≡ count p (asks (2 ^ 32) many) * 256 ^ over

-- other numbers in the place of those drawn, and something else in the place of the values left over
abbrev pub instead : List ℕ → (List ℕ → List ℕ) → Drawn → Drawn
instead es f (drew ds left) = drew es (f left)
instead es f short = short

-- Values aimed at numbers in range draw these numbers, with the same values left over, or are too few, as they were; they are as many, and still values; the
-- same places are passed over, and all but the remainders is kept; aimed back at what they drew they are what they were, and aimed at what they draw they
-- stay. So aiming pairs off one to one the rows of values that draw two rows of numbers.
pub record Aimed (n : ℕ) (ss es vs : List ℕ) : Type 0 where
  pub draws : draw n ss (aim n ss es vs) ≡ instead es (λ left. left) (draw n ss vs)
  pub long : length (aim n ss es vs) ≡ length vs
  pub below : all_below n (aim n ss es vs) ≡ all_below n vs
  pub places : passed n ss (aim n ss es vs) ≡ passed n ss vs
  pub keeps : kept n ss (aim n ss es vs) ≡ kept n ss vs
  pub back : (ds left : List ℕ) → draw n ss vs ≡ drew ds left → aim n ss ds (aim n ss es vs) ≡ vs
  pub stays : (left : List ℕ) → draw n ss vs ≡ drew es left → aim n ss es vs ≡ vs

abbrev pub Aims : ℕ → Type 0
Aims n = (ss : List ℕ) → T (serve n ss) → (es : List ℕ) → T (in_range ss es) → (vs : List ℕ) → Aimed n ss es vs

-- Values aimed at one row of numbers after another draw the one first, and the values then left over are those that were left over, aimed at the other.
abbrev pub AimsInTurn : ℕ → Type 0
AimsInTurn n =
    (ss es : List ℕ) → T (in_range ss es) → (vs ts fs : List ℕ) →
    draw n ss (aim n (ss ++ ts) (es ++ fs) vs) ≡ instead es (aim n ts fs) (draw n ss vs)

-- rows of numbers in range and things of one kind correspond one to one: a row gives a thing, a thing its row, and each is the inverse of the other
pub record OneToOne {A : Type 0} (ss : List ℕ) (Is : A → Type 0) (there : List ℕ → A) (back : A → List ℕ) : Type 0 where
  pub there_is : (ds : List ℕ) → T (in_range ss ds) → Is (there ds)
  pub back_in : (a : A) → Is a → T (in_range ss (back a))
  pub there_back : (a : A) → Is a → there (back a) ≡ a
  pub back_there : (ds : List ℕ) → T (in_range ss ds) → back (there ds) ≡ ds

-- an order of k paths: each of 0 .. k - 1 once
abbrev pub IsOrder : ℕ → List ℕ → Type 0
IsOrder k o = (length o ≡ k) × T (different o) × T (all_below k o)

-- Rows of numbers in range for an order correspond one to one with orders.
abbrev pub Orders : Type 0
Orders = (k : ℕ) → OneToOne (order_moduli k) (IsOrder k) (order_of k) (row_of k)

-- Rows of numbers in range for all coins of a showing correspond one to one with rows of coins.
abbrev pub Showings : Type 0
Showings = (t : Task) (r : ℕ) → OneToOne (showing_moduli t r) (Coins t r) (coins_of t r) (row_of_coins t)

-- No thing of one kind is favoured: it comes from as many rows of values as any other, and from how many; the test for the same thing tells the truth
pub record Even {A : Type 0} (n : ℕ) (ss : List ℕ) (Is : A → Type 0) (there : List ℕ → A) (same : A → A → Bool) : Type 0 where
  pub equally : (many : ℕ) (a b : A) → Is a → Is b → how_many n ss (λ ds. same (there ds) a) many ≡ how_many n ss (λ ds. same (there ds) b) many
  pub exactly : (many : ℕ) (a : A) → Is a → how_many n ss (λ ds. same (there ds) a) many ≡ ways n ss many
  pub told : (a b : A) → T (same a b) → a ≡ b
  pub itself : (a : A) → T (same a a)

-- Each order of k paths comes from equally many rows of values.
abbrev pub EvenOrders : Type 0
EvenOrders = (k : ℕ) → k ≤ 2 ^ 32 → Even (2 ^ 32) (order_moduli k) (IsOrder k) (order_of k) same_row

-- r questions, each for one of m pairs
abbrev pub Questions : ℕ → ℕ → List ℕ → Type 0
Questions m r is = (length is ≡ r) × T (all_below m is)

-- Each row of r questions comes from equally many rows of values.
abbrev pub EvenQuestions : Type 0
EvenQuestions = (m r : ℕ) → 0 < m → m ≤ 2 ^ 32 → Even (2 ^ 32) (question_moduli m r) (Questions m r) (λ is. is) same_row

-- Whatever is tested of r questions, it passes in the same share of all rows of values that are enough for r questions as of all m ^ r ways to ask.
abbrev pub QuestionShares : Type 0
QuestionShares =
    (m r : ℕ) → 0 < m → m ≤ 2 ^ 32 → (p : List ℕ → Bool) (many : ℕ) →
    m ^ r * how_many (2 ^ 32) (question_moduli m r) p many ≡ count p (asks m r) * how_many (2 ^ 32) (question_moduli m r) (λ _. true) many

-- are two rows of coins the same
abbrev pub same_coin : Coin → Coin → Bool
same_coin c d = same_row c.order d.order && same_row c.chances d.chances

unfoldable pub same_coins : List Coin → List Coin → Bool
same_coins [] [] = true
same_coins [] (d ∷ ds) = false
same_coins (c ∷ cs) [] = false
same_coins (c ∷ cs) (d ∷ ds) = same_coin c d && same_coins cs ds

-- Each row of coins for a whole showing comes from equally many rows of values.
abbrev pub EvenShowings : Type 0
EvenShowings = (t : Task) → t.paths ≤ 2 ^ 32 → (r : ℕ) → Even (2 ^ 32) (showing_moduli t r) (Coins t r) (coins_of t r) same_coins
