-- Which openings content an asker, in the protocol's words. H is any function in the place of SHA-256. Assumes nothing.
use Rattle.std.specs.Prelude.{◌≡◌, ℕ, ◌<◌, ◌≢◌, List, Decides}
use Rattle.paths.specs.Plan.{Task}
use Rattle.paths.specs.Show.{pair_at}
use Rattle.boxes.specs.Box.{Opening, text_of}
use Rattle.words.specs.Said.{Said, opened}
use Rattle.words.specs.Writing.{is_got}
use Rattle.round.specs.Round.{part_of, test_opened}

module _ (H : List ℕ → List ℕ) (t : Task) where
  -- the openings x and y content an asker who asked for pair i in round n, where the Boxes had these digests: they are of the pair's trains, both boxes open,
  -- and hold numbers of paths that are there, and not the same one
  pub record Contents (n i : ℕ) (ds : List ℕ) (x y : Opening) : Type 0 where
    pub first : x.train ≡ (pair_at t i).a
    pub second : y.train ≡ (pair_at t i).e
    pub first_opens : H (text_of n x) ≡ part_of ds x.train
    pub second_opens : H (text_of n y) ≡ part_of ds y.train
    pub first_there : x.number < t.paths
    pub second_there : y.number < t.paths
    pub different : x.number ≢ y.number

  -- A word passes the test exactly if it is an Opened of this round that contents the asker
  abbrev pub Exact : Type 0
  Exact = (n i : ℕ) (ds : List ℕ) (v : Said) → Decides (is_got (test_opened H t n i ds v)) ((x y : Opening) × (v ≡ opened n x y) × Contents n i ds x y)
