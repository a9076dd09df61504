-- What came of a round, in the code, as in the definitions. Assumes nothing.
use Rattle.std.specs.Prelude.{ℕ, List, [], Some, None, vec_items, Option}
use Rattle.cutting.specs.declared.phases.Asked.{Asked as CodeAsked}
use Rattle.cutting.specs.declared.phases.Awaits.{Awaits as CodeAwaits}
use Rattle.cutting.specs.declared.phases.Awaits.TheVariants as awaits
use Rattle.cutting.specs.declared.phases.Round.{Round as CodeRound}
use Rattle.cutting.specs.declared.phases.Heard.{Heard as CodeHeard}
use Rattle.cutting.specs.declared.phases.Heard.TheVariants as heard
use Rattle.cutting.specs.declared.phases.Answer.{Answer as CodeAnswer}
use Rattle.cutting.specs.declared.phases.Answer.TheVariants as answer
use Rattle.cutting.specs.Cutting.{Asked, Round, Awaits, for_boxes, for_ask, for_answer, for_end, for_nothing, Heard, waits, closes, Answer, is_opened, is_not_content}

abbrev pub asked_of : CodeAsked → Asked
asked_of a = record { boxes = vec_items a.boxes; ask = vec_items a.ask; pair = a.pair }

abbrev pub awaits_of : CodeAwaits → Awaits
awaits_of awaits.Boxes = for_boxes
awaits_of (awaits.Ask b) = for_ask (vec_items b)
awaits_of (awaits.Answer a) = for_answer (asked_of a)
awaits_of (awaits.End a o) = for_end (asked_of a) (vec_items o)
awaits_of awaits.Nothing = for_nothing

abbrev pub answer_of : CodeAnswer → Answer
answer_of answer.Opened = is_opened
answer_of answer.NotContent = is_not_content

-- no Opened counts as no bytes
abbrev pub counted : {X : Type 0} → (X → List ℕ) → Option X → List ℕ
counted items (Some v) = items v
counted items None = []

abbrev pub round_of : CodeRound → Round
round_of r = record { asked = asked_of r.asked; opened = counted vec_items r.opened; end = vec_items r.end; content = r.content }

abbrev pub heard_of : CodeHeard → Heard
heard_of (heard.Waits a) = waits (awaits_of a)
heard_of (heard.Closes r) = closes (round_of r)
