-- What the finding of the asker's content says of the rounds. H is any function in the place of SHA-256. Assumes nothing.
use Rattle.std.specs.Prelude.{◌≡◌, ℕ, ◌+◌, ◌<◌, ◌≤◌, true, false, List, [], ◌∷◌, length}
use Rattle.paths.specs.Plan.{Task}
use Rattle.tasks.specs.Reading.{Got, Looked, got, refused}
use Rattle.tasks.specs.Task.{sound}
use Rattle.boxes.specs.Box.{Opening}
use Rattle.words.specs.Said.{Said, opened}
use Rattle.words.specs.Reading.{read_word}
use Rattle.round.specs.Contents.{Contents}
use Rattle.round.specs.Round.{test_opened}
use Rattle.judging.specs.Verdict.{Content, content_all, not_content, content_but}
use Rattle.cutting.specs.Cutting.{Round}
use Rattle.judging.specs.Judging.{digests_of, content_from}

module _ (H : List ℕ → List ℕ) (t : Task) where
  -- round n as it is
  module _ (n : ℕ) (r : Round) where
    -- the pair that was asked for is there, and the answer is an Opened of this round that contents who asked for it
    pub record Well : Type 0 where
      pub pair_there : r.asked.pair < length t.pairs
      pub first : Opening
      pub second : Opening
      pub word : read_word t r.opened ≡ got (opened n first second)
      pub contents : Contents H t n r.asked.pair (digests_of r) first second

    -- why it is not so, by the fault's number: there is no such pair; the answer is no word, as no bytes are; or it is another word, of whose faults the lowest is told
    pub data Ill : ℕ → Type 0 where
      no_pair : length t.pairs ≤ r.asked.pair → Ill 7
      no_word : (f : ℕ) → r.asked.pair < length t.pairs → read_word t r.opened ≡ refused f → Ill f
      bad : (v : Said) (f : ℕ) → r.asked.pair < length t.pairs → read_word t r.opened ≡ got v → (Well → ⊥) → test_opened H t n r.asked.pair (digests_of r) v ≡ refused f →
          Ill f

    -- what a test of the answer gives
    pub data Test : Got Looked → Type 0 where
      well : Well → Test (got tt)
      ill : (f : ℕ) → Ill f → Test (refused f)

  -- What is told of the rounds from n on: the first that ends with 0, and what a test of its answer gives; or the first that ends with 1 over an answer that is not well,
  -- and its fault; and where neither is there, that the asker was content in all rounds
  pub data Tells : ℕ → List Round → Content → Type 0 where
    all_well : (n : ℕ) → Tells n [] content_all
    next_round : (n : ℕ) (r : Round) (rs : List Round) (c : Content) → r.content ≡ true → Well n r → Tells (n + 1) rs c → Tells n (r ∷ rs) c
    end0 : (n : ℕ) (r : Round) (rs : List Round) (g : Got Looked) → r.content ≡ false → Test n r g → Tells n (r ∷ rs) (not_content n g)
    end1 : (n : ℕ) (r : Round) (rs : List Round) (f : ℕ) → r.content ≡ true → Ill n r f → Tells n (r ∷ rs) (content_but n f)

-- A finding is told exactly where it is so.
abbrev pub TellsContent : (List ℕ → List ℕ) → Type 0
TellsContent H =
    (t : Task) → sound t ≡ true → (n : ℕ) (rs : List Round) →
    Tells H t n rs (content_from H t n rs) × ((c : Content) → Tells H t n rs c → content_from H t n rs ≡ c)
