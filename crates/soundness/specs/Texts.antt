-- Texts at hand from a planner that can be asked again at the same point of the line: the openings that it gives there, for all questions; of those of one
-- train, the first two whose texts collide. H is any function in the place of SHA-256. Assumes nothing.
use Rattle.std.specs.Prelude.{◌≡◌, ℕ, zero, suc, ◌+◌, ◌≤◌, cond, List, [], ◌∷◌, ◌++◌, map, length, drop, filter, nat_eq}
use Rattle.std.specs.List.{flat_map}
use Rattle.paths.specs.Plan.{Task}
use Rattle.paths.specs.Cheat.{asks, up_to}
use Rattle.tasks.specs.Reading.{Got, got, refused, and_then}
use Rattle.boxes.specs.Box.{Opening}
use Rattle.boxes.specs.Binding.{TwoTexts, collides, texts_of}
use Rattle.words.specs.Said.{Said, task, plan, boxes, ask, opened, end}
use Rattle.words.specs.Reading.{read_word}
use Rattle.words.specs.Writing.{said_bytes, is_got}
use Rattle.round.specs.Round.{test_opened}
use Rattle.round.specs.Line.{Event, sent, heard, Other}
use Rattle.round.specs.Over.{Leads, on, out}
use Rattle.asking.specs.Asking.{Ready, meet}
use Rattle.asking.specs.Run.{boxed}

-- the first two texts that collide; where there are none, two that are the same
unfoldable pub first_of : (List ℕ → List ℕ) → List TwoTexts → TwoTexts
first_of H [] = ([], [])
first_of H (x ∷ xs) = cond (collides H x) x (first_of H xs)

-- the openings that a word has
abbrev pub openings_of : Got Said → List Opening
openings_of (got (opened r x y)) = x ∷ y ∷ []
openings_of (got (task bs)) = []
openings_of (got (plan p)) = []
openings_of (got (boxes r ds)) = []
openings_of (got (ask r i)) = []
openings_of (got (end r c)) = []
openings_of (refused f) = []

-- of these openings, those of one train
abbrev pub of_train : ℕ → List Opening → List Opening
of_train j = filter (λ x. nat_eq x.train j)

-- the texts of every two openings of one train in round n
unfoldable pub twos : ℕ → List Opening → List TwoTexts
twos n [] = []
twos n (x ∷ xs) = map (texts_of n x) (of_train x.train xs) ++ twos n xs

-- at one point of the line, before a round: what is said there to the question for pair i, after the Boxes; and that read as a word
abbrev pub says : Other → Ready → List Event → ℕ → List ℕ
says other s line i = other (sent (said_bytes (ask s.round i)) ∷ heard (other line) ∷ line)

abbrev pub answer : Other → Ready → List Event → ℕ → Got Said
answer other s line i = read_word s.task (says other s line i)

module _ (H : List ℕ → List ℕ) (other : Other) where
  -- the openings in it, where the asker's test accepts them against the Boxes that are said there
  abbrev pub accepted : Ready → List Event → ℕ → List Opening
  accepted s line i = let w = answer other s line i in cond (is_got (and_then w (test_opened H s.task s.round i (drop 7 (other line))))) (openings_of w) []

  -- those of the first m questions
  unfoldable pub openings : Ready → List Event → ℕ → List Opening
  openings s line zero = []
  openings s line (suc m) = openings s line m ++ accepted s line m

  -- those of all questions, as texts
  abbrev pub texts_at : Ready → List Event → List TwoTexts
  texts_at s line = twos s.round (openings s line (length s.task.pairs))

  -- at each point of the run over these questions, which goes on as the asker's steps say: so in r rounds all m questions are put r times
  unfoldable pub texts_along : List ℕ → Leads Ready → List Event → List TwoTexts
  texts_along [] lead line = []
  texts_along (i ∷ is) (out o) line = []
  texts_along (i ∷ is) (on s) line = let g = boxed H other line record { ready = s; pair = i } in texts_at s line ++ texts_along is g.to g.line

  -- at how many points that is
  unfoldable pub points : List ℕ → Leads Ready → List Event → ℕ
  points [] lead line = 0
  points (i ∷ is) (out o) line = 0
  points (i ∷ is) (on s) line = let g = boxed H other line record { ready = s; pair = i } in 1 + points is g.to g.line

  -- all that is at hand along one row of questions
  abbrev pub texts_in : Task → ℕ → List ℕ → List TwoTexts
  texts_in t r is = let word = other [] in texts_along is (meet H record { task = t; rounds = r } word) (heard word ∷ [])

  -- two texts from one row of questions
  abbrev pub met : Task → ℕ → List ℕ → TwoTexts
  met t r is = first_of H (texts_in t r is)

  -- two texts from all rows of r questions
  abbrev pub find : Task → ℕ → TwoTexts
  find t r = first_of H (flat_map (texts_in t r) (asks (length t.pairs) r))

-- So few questions are put: along a row of r, at no more than r points, and at each the first m, once each. What is accepted there is found in these answers alone.
pub record PutsFew (H : List ℕ → List ℕ) (other : Other) : Type 0 where
  pub few_points : (is : List ℕ) (lead : Leads Ready) (line : List Event) → points H other is lead line ≤ length is
  pub each_once : (s : Ready) (line : List Event) (m : ℕ) → openings H other s line m ≡ flat_map (accepted H other s line) (up_to m)
