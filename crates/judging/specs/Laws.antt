-- What is promised of the judge. Each promise is a type, and a term of it in proofs/ its proof. H is any function in the place of SHA-256. Assumes nothing.
use Rattle.std.specs.Prelude.{◌≡◌, ℕ, List, ◌++◌, length, Option, ◌≢◌}
use Rattle.paths.specs.Plan.{Task, Plan}
use Rattle.tasks.specs.Reading.{got}
use Rattle.lots.specs.Lots.{Had, Lot, lot_in}
use Rattle.judging.specs.Verdict.{Content, Redrawn, other_words, judged}
use Rattle.cutting.specs.Cutting.{Round, cut_into, cut}
use Rattle.judging.specs.Judging.{left_over, book_of, verdict}
use Rattle.judging.specs.Steps.{Judge, begin, step, tells}

-- Whatever the words are: taken one by one, in one pass, they are told what is to be told of them.
abbrev pub Folds : (List ℕ → List ℕ) → Type 0
Folds H = (t : Task) (p : Option Plan) (drawn digest : List ℕ) (ws : List (List ℕ)) → tells H (begin H t p) drawn digest ws ≡ verdict H t p drawn digest ws

-- Of the drawn bytes that are left a front that suffices for the round's lot serves as well as all of them.
abbrev pub FrontServes : (List ℕ → List ℕ) → Type 0
FrontServes H =
    (s : Judge) (w front more : List ℕ) (h : Had Lot) → lot_in s.task front ≡ got h →
    (step H s w (front ++ more) ≡ step H s w front) × (left_over s.task (front ++ more) ≡ h.left ++ more)

-- Words that can be cut into rounds, and whose book doesn't end in the digest, are told nothing but that, whatever they say and whatever was handed over.
-- Where more is told the book ends in the digest.
pub record ToldAfterBook (H : List ℕ → List ℕ) (t : Task) (digest : List ℕ) (ws : List (List ℕ)) (rs : List Round) : Type 0 where
  pub other : (book_of H t rs ≢ digest) → (p : Option Plan) (drawn : List ℕ) → verdict H t p drawn digest ws ≡ other_words
  pub fits : (p : Option Plan) (drawn : List ℕ) (n : ℕ) (c : Content) (d : Redrawn) → verdict H t p drawn digest ws ≡ judged n c d →
      (book_of H t rs ≡ digest) × (length rs ≡ n)

abbrev pub BookFirst : (List ℕ → List ℕ) → Type 0
BookFirst H = (t : Task) (digest : List ℕ) (ws : List (List ℕ)) (rs : List Round) → cut t ws ≡ cut_into rs → ToldAfterBook H t digest ws rs
