-- What the judge tells. Assumes nothing.
use Rattle.std.specs.Prelude.{ℕ}
use Rattle.tasks.specs.Fault.{number}
use Rattle.tasks.specs.Reading.{Got, Looked, looks}
use Rattle.judging.specs.declared.verdict.Content.{Content as CodeContent}
use Rattle.judging.specs.declared.verdict.Content.TheVariants as content
use Rattle.judging.specs.declared.verdict.Redrawn.{Redrawn as CodeRedrawn}
use Rattle.judging.specs.declared.verdict.Redrawn.TheVariants as redrawn
use Rattle.judging.specs.declared.verdict.Verdict.{Verdict as CodeVerdict}
use Rattle.judging.specs.declared.verdict.Verdict.TheVariants as verdict

-- the asker was content in all rounds; not in this round, and what the test of its opening gives; or in this round, but the opening has this fault
pub data Content : Type 0 where
  content_all : Content
  not_content : ℕ → Got Looked → Content
  content_but : ℕ → ℕ → Content

-- plan and drawn bytes were not handed over; they give the words; the bytes are used up in this round; or in this round it is another for this train
pub data Redrawn : Type 0 where
  not_handed : Redrawn
  agrees : Redrawn
  drawn_out : ℕ → Redrawn
  differs : ℕ → ℕ → Redrawn

-- words that can't be cut into rounds: the fault, by its number, and its round; words that don't fit the digest (fault 13); or so many rounds, and what is
-- found of them
pub data Verdict : Type 0 where
  bad_words : ℕ → ℕ → Verdict
  other_words : Verdict
  judged : ℕ → Content → Redrawn → Verdict

abbrev pub content_of : CodeContent → Content
content_of content.All = content_all
content_of (content.Not n test) = not_content n (looks test)
content_of (content.But n f) = content_but n (number f)

abbrev pub redrawn_of : CodeRedrawn → Redrawn
redrawn_of redrawn.NotHanded = not_handed
redrawn_of redrawn.Agrees = agrees
redrawn_of (redrawn.DrawnOut n) = drawn_out n
redrawn_of (redrawn.Differs n train) = differs n train

abbrev pub verdict_of : CodeVerdict → Verdict
verdict_of (verdict.BadWords f n) = bad_words (number f) n
verdict_of verdict.OtherWords = other_words
verdict_of (verdict.Judged r c d) = judged r (content_of c) (redrawn_of d)

-- the first finding stands
abbrev pub first_of : Content → Content → Content
first_of content_all later = later
first_of (not_content n g) later = not_content n g
first_of (content_but n f) later = content_but n f

abbrev pub first_drawn : Redrawn → Redrawn → Redrawn
first_drawn not_handed later = later
first_drawn agrees later = later
first_drawn (drawn_out n) later = drawn_out n
first_drawn (differs n train) later = differs n train
