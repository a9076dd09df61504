-- What the planner opens: boxes of the coin that it draws. H is any function in the place of SHA-256. Assumes nothing.
use Rattle.std.specs.Prelude.{◌≡◌, ℕ, ◌^◌, ◌≤◌, T, List}
use Rattle.paths.specs.Plan.{Good, all_below}
use Rattle.paths.specs.Show.{Coin}
use Rattle.drawing.specs.Drawing.{coin_moduli, coin_of}
use Rattle.tasks.specs.Reading.{got}
use Rattle.lots.specs.Lots.{drawn, Had, had_by}
use Rattle.round.specs.Over.{on}
use Rattle.round.specs.Laws.{OpensPair}
use Rattle.planning.specs.Planning.{Ready, Opened, close, ask_in, answer}
use Rattle.planning.specs.Run.{and_on}

-- The pair is the one that the word asks for, and its two trains are opened by the coin that these bytes draw: with their own chances of it, and with the numbers that
-- its order gives their paths.
pub record DrawnAnswer (s : Ready) (bs word : List ℕ) (o : Opened) : Type 0 where
  pub pair : ℕ
  pub asked : ask_in s.task s.round word ≡ got pair
  pub coin : Had Coin
  pub draws : had_by (coin_of s.task) (drawn (coin_moduli s.task) bs) ≡ got coin
  pub opens : OpensPair s.task s.plan coin.what s.round pair o.opened

-- So it is wherever the boxes of a round are closed with drawn bytes, and a word is answered.
abbrev pub AnswersAreDrawn : Type 0
AnswersAreDrawn =
    (H : List ℕ → List ℕ) (s : Ready) → Good s.task → s.task.paths ≤ 2 ^ 32 → (bs : List ℕ) → T (all_below 256 bs) → (word : List ℕ) (o : Opened) →
    and_on (close H s bs) (λ c. answer c word) ≡ on o → DrawnAnswer s bs word o
