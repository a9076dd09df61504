-- A side as what it says and hears in turn: against an other side that may say anything, and joined with another side by a faithful line. Assumes nothing.
use Rattle.std.specs.Prelude.{◌≡◌, ℕ, List, [], ◌∷◌, map}
use Rattle.round.specs.Over.{Over}
use Rattle.round.specs.Line.{Event, sent, heard, Other, Ran}

-- it says a word and goes on, or hears one and goes on by that, or is over
pub data Side : Type 0 where
  says : List ℕ → Side → Side
  hears : (List ℕ → Side) → Side
  ends : Over → Side

-- its run against an other side that may say anything, after what was on the line
unfoldable pub against : Other → Side → List Event → Ran
against other (says w s) line = against other s (sent w ∷ line)
against other (hears next) line = against other (next (other line)) (heard (other line) ∷ line)
against other (ends o) line = record { line = line; over = o }

-- A faithful line brings each word as it was said, in its order: a side that is given a word hears it when it next hears one
unfoldable pub given : List ℕ → Side → Side
given w (says v s) = says v (given w s)
given w (hears next) = next w
given w (ends o) = ends o

-- what a side says now, which is nothing where it waits or is over: the end of the input
abbrev pub word_of : Side → List ℕ
word_of (says w s) = w
word_of (hears next) = []
word_of (ends o) = []

-- the side once that is said
abbrev pub once : Side → Side
once (says w s) = s
once (hears next) = hears next
once (ends o) = ends o

-- where a side stands after what was on the line of the other one, which sent what this one is given, and heard what this one said
unfoldable pub standing : Side → List Event → Side
standing s [] = s
standing s (sent w ∷ line) = given w (standing s line)
standing s (heard w ∷ line) = once (standing s line)

-- a side as the other side of another
abbrev pub as_other : Side → Other
as_other s line = word_of (standing s line)

-- Two sides joined: both go on in turn, and this is the run of the first
unfoldable pub joined : Side → Side → List Event → Ran
joined (says w s) other line = joined s (given w other) (sent w ∷ line)
joined (hears next) other line = joined (next (word_of other)) (once other) (heard (word_of other) ∷ line)
joined (ends o) other line = record { line = line; over = o }

-- That is its run against the second as the other side.
abbrev pub JoinedIs : Type 0
JoinedIs = (s other : Side) → against (as_other other) s [] ≡ joined s other []

-- an other side that says what was heard on the line
unfoldable pub SaysAgain : Other → List Event → Type 0
SaysAgain other [] = Unit {0}
SaysAgain other (sent w ∷ line) = SaysAgain other line
SaysAgain other (heard w ∷ line) = (other line ≡ w) × SaysAgain other line

-- the line as the other side sees it
abbrev pub exchange : Event → Event
exchange (sent w) = heard w
exchange (heard w) = sent w

abbrev pub exchanged : List Event → List Event
exchanged = map exchange
