-- How words are cut into rounds. Assumes nothing.
use Rattle.std.specs.Prelude.{ℕ, ◌+◌, ◌^◌, Bool, true, false, cond, not, ◌&&◌, List, [], ◌∷◌, ◌==◌, nat_lt}
use Rattle.paths.specs.Plan.{Task}
use Rattle.tasks.specs.Reading.{Got, got, refused, and_then}
use Rattle.book.specs.Lengths.{round_text}
use Rattle.words.specs.Said.{Said, task, plan, boxes, ask, opened, end}
use Rattle.words.specs.Reading.{read_word}
use Rattle.words.specs.Awaited.{on_boxes, on_ask, on_end}

-- Boxes and Ask of a round, as they came, and the pair that the Ask names
pub record Asked : Type 0 where
  pub boxes : List ℕ
  pub ask : List ℕ
  pub pair : ℕ

-- a closed round; where there is no Opened it has no bytes
pub record Round : Type 0 where
  pub asked : Asked
  pub opened : List ℕ
  pub end : List ℕ
  pub content : Bool

abbrev pub text_of : Round → List ℕ
text_of r = round_text r.asked.boxes r.asked.ask r.opened r.end

-- which word of a round is awaited, with what came of the round so far; after an End with 0 nothing is
pub data Awaits : Type 0 where
  for_boxes : Awaits
  for_ask : List ℕ → Awaits
  for_answer : Asked → Awaits
  for_end : Asked → List ℕ → Awaits
  for_nothing : Awaits

-- no word of a round has come: its Boxes are awaited, or nothing is
abbrev pub between : Awaits → Bool
between for_boxes = true
between (for_ask b) = false
between (for_answer a) = false
between (for_end a o) = false
between for_nothing = true

-- what a word leads to
pub data Heard : Type 0 where
  waits : Awaits → Heard
  closes : Round → Heard

-- The answer in round n: an Opened, whether it is good or not, or else at once an End with 0; another word, or one of another round, is fault 6
pub data Answer : Type 0 where
  is_opened : Answer
  is_not_content : Answer

abbrev pub on_answer : ℕ → Said → Got Answer
on_answer n (opened r x y) = cond (r == n) (got is_opened) (refused 6)
on_answer n (end r c) = cond (r == n && not c) (got is_not_content) (refused 6)
on_answer n (task bs) = refused 6
on_answer n (plan p) = refused 6
on_answer n (boxes r ds) = refused 6
on_answer n (ask r i) = refused 6

abbrev pub answered : Asked → List ℕ → Answer → Heard
answered a w is_opened = waits (for_end a w)
answered a w is_not_content = closes record { asked = a; opened = []; end = w; content = false }

-- the word w where this is awaited: a fault of reading (1, 2, 3) wins
abbrev pub awaited : Task → ℕ → Awaits → List ℕ → Got Heard
awaited t n for_boxes w = and_then (and_then (read_word t w) (on_boxes n)) (λ _. got (waits (for_ask w)))
awaited t n (for_ask b) w = and_then (and_then (read_word t w) (on_ask n)) (λ i. got (waits (for_answer record { boxes = b; ask = w; pair = i })))
awaited t n (for_answer a) w = and_then (and_then (read_word t w) (on_answer n)) (λ k. got (answered a w k))
awaited t n (for_end a o) w = and_then (and_then (read_word t w) (on_end n)) (λ c. got (closes record { asked = a; opened = o; end = w; content = c }))
awaited t n for_nothing w = and_then (read_word t w) (λ _. refused 6)

-- there are at most 2^24 rounds
abbrev pub hear : Task → ℕ → Awaits → List ℕ → Got Heard
hear t n a w = and_then (awaited t n a w) (λ h. cond (nat_lt n (2 ^ 24)) (got h) (refused 12))

-- what is awaited behind a round
abbrev pub behind : Round → Awaits
behind r = cond r.content for_boxes for_nothing

-- so many rounds; or a fault, by its number, in this round
pub data Cut : Type 0 where
  cut_into : List Round → Cut
  fault_in : ℕ → ℕ → Cut

abbrev pub also_round : Round → Cut → Cut
also_round r (cut_into rs) = cut_into (r ∷ rs)
also_round r (fault_in f n) = fault_in f n

-- words that end in mid-round are fault 1, as no bytes are where a word is awaited
abbrev pub cut_short : ℕ → Awaits → Cut
cut_short n for_boxes = cut_into []
cut_short n for_nothing = cut_into []
cut_short n (for_ask b) = fault_in 1 n
cut_short n (for_answer a) = fault_in 1 n
cut_short n (for_end a o) = fault_in 1 n

abbrev pub cut_on : ℕ → Got Heard → (Awaits → Cut) → (Round → Cut) → Cut
cut_on n (refused f) wait close = fault_in f n
cut_on n (got (waits a)) wait close = wait a
cut_on n (got (closes r)) wait close = also_round r (close r)

-- the words that follow, of which the first is that of round n for which this is awaited
unfoldable pub cut_from : Task → ℕ → Awaits → List (List ℕ) → Cut
cut_from t n a [] = cut_short n a
cut_from t n a (w ∷ ws) = cut_on n (hear t n a w) (λ b. cut_from t n b ws) (λ r. cut_from t (n + 1) (behind r) ws)

-- the words of all closed rounds
abbrev pub cut : Task → List (List ℕ) → Cut
cut t ws = cut_from t 0 for_boxes ws

-- all words of rounds; an Opened that has no bytes is none
abbrev pub if_any : List ℕ → List (List ℕ) → List (List ℕ)
if_any [] ws = ws
if_any (x ∷ xs) ws = (x ∷ xs) ∷ ws

abbrev pub onto : Round → List (List ℕ) → List (List ℕ)
onto r ws = r.asked.boxes ∷ r.asked.ask ∷ if_any r.opened (r.end ∷ ws)

unfoldable pub all_words : List Round → List (List ℕ)
all_words [] = []
all_words (r ∷ rs) = onto r (all_words rs)
