-- The planner's runs against three askers, computed, with an H that is quickly computed. Assumes nothing.
use Rattle.std.specs.Prelude.{◌≡◌, ℕ, true, cond, List, [], ◌∷◌, ◌++◌, reverse, length, take, replicate, Some, ◌==◌}
use Rattle.paths.specs.Plan.{Plan, at, fits, all_below}
use Rattle.paths.specs.Misses.{duo}
use Rattle.tasks.specs.Reading.{got}
use Rattle.tasks.specs.Task.{sound}
use Rattle.words.specs.Said.{ask, end}
use Rattle.words.specs.Reading.{long_at}
use Rattle.words.specs.Writing.{said_bytes}
use Rattle.round.specs.Over.{content, fault}
use Rattle.round.specs.Over as ended
use Rattle.round.specs.Line.{sent, heard, Other, Ran}
use Rattle.planning.specs.Run.{showing}
use Rattle.judging.specs.Verdict.{content_all, not_content, agrees, Verdict, other_words, judged}
use Rattle.judging.specs.Judging.{verdict}
use Rattle.blameless.specs.Transcript.{transcript}

-- the last 32 bytes, backwards
abbrev pub last_bytes : List ℕ → List ℕ
last_bytes x = take 32 (reverse x ++ replicate 32 0)

-- an asker that asks for pair 0, and says this for the End of round n
abbrev pub asker_with : (ℕ → List ℕ) → Other
asker_with ends [] = []
asker_with ends (heard w ∷ line) = []
asker_with ends (sent w ∷ line) = cond (at w 0 == 3) (said_bytes (ask (long_at w 1) 0)) (ends (long_at w 1))

-- two trains with a path each, and zeros drawn for two rounds
abbrev pub each : Plan
each = 0 ∷ 1 ∷ []

abbrev pub zeros_drawn : List ℕ
zeros_drawn = replicate 144 0

abbrev pub run_with : (ℕ → List ℕ) → Ran
run_with ends = showing last_bytes (asker_with ends) duo each 2 zeros_drawn

-- an asker that is content, one that isn't in round 1, and one that says the End of round 0 again
abbrev pub pleased : Ran
pleased = run_with (λ n. said_bytes (end n true))

abbrev pub displeased : Ran
displeased = run_with (λ n. said_bytes (end n (n == 0)))

abbrev pub stale : Ran
stale = run_with (λ n. said_bytes (end 0 true))

-- what is told of the words of one run with the digest of another
abbrev pub told_with : Ran → Ran → Verdict
told_with x y = verdict last_bytes duo (Some each) zeros_drawn x.over.digest (transcript y)

-- What is told of each run, and of one whose words are brought with the digest of another; an End that is refused closes no round.
pub record Examples : Type 0 where
  pub task : sound duo ≡ true
  pub plan : fits duo each ≡ true
  pub bytes : all_below 256 zeros_drawn ≡ true
  pub all : (pleased.over.outcome ≡ content 2) × (told_with pleased pleased ≡ judged 2 content_all agrees)
  pub not_all : (displeased.over.outcome ≡ ended.not_content 1) × (told_with displeased displeased ≡ judged 2 (not_content 1 (got tt)) agrees)
  pub refused : (stale.over.outcome ≡ fault 6 1) × (told_with stale stale ≡ judged 1 content_all agrees)
  pub words : (length (transcript pleased) ≡ 8) × (length (transcript displeased) ≡ 8) × (length (transcript stale) ≡ 4)
  pub other : told_with displeased pleased ≡ other_words
