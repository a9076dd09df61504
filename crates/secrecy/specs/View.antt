-- What an asker sees of a showing that doesn't look into the digests. Assumes nothing.
use Rattle.std.specs.Prelude.{cond, List, map, take, ◌==◌}
use Rattle.paths.specs.Plan.{at}
use Rattle.round.specs.Line.{Event, sent, heard, Other, Ran}
use Rattle.round.specs.Over.{Outcome}

-- of a Boxes word that is sent, only what stands before the digests; of any other word all. The digest of a box that is opened can be computed from the opening, but by
-- then the question has been put
abbrev pub hide : Event → Event
hide (sent w) = sent (cond (at w 0 == 3) (take 7 w) w)
hide (heard w) = heard w

-- an asker that says what it says by all words so far, digests left out: any function, to any bytes. It has no coins; one that has is covered by fixing them
abbrev pub unaware : Other → Other
unaware f = λ line. f (map hide line)

-- all that such an asker sees: the words, and how it ended; the book's digest is one over digests, and left out too
pub record View : Type 0 where
  pub line : List Event
  pub outcome : Outcome

abbrev pub view_of : Ran → View
view_of x = record { line = map hide x.line; outcome = x.over.outcome }
