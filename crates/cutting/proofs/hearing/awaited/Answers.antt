use Rattle.std.proofs.Common.{◌≡◌, ℕ, List, refl, rules}
use Rattle.paths.specs.Plan.{Task}
use Rattle.tasks.specs.Fault.{number}
use Rattle.tasks.specs.Model.{task_of}
use Rattle.tasks.specs.Reading.{refused}
use Rattle.words.specs.Reading.{read_word}
use Rattle.cutting.specs.Cutting.{Awaits, for_boxes, for_ask, for_answer, for_end, for_nothing, awaited}
use Rattle.cutting.specs.Phases.{awaits_of}
use Rattle.cutting.proofs.hearing.awaited.Goals as goal

-- a fault of reading is told whatever is awaited
unread : (t : Task) (n : ℕ) (a : Awaits) (w : List ℕ) (f : ℕ) → refused f ≡ read_word t w → refused f ≡ awaited t n a w
unread t n for_boxes w f e = rw (← e) refl
unread t n (for_ask b) w f e = rw (← e) refl
unread t n (for_answer a) w f e = rw (← e) refl
unread t n (for_end a o) w f e = rw (← e) refl
unread t n for_nothing w f e = rw (← e) refl

pub returns-in_err-said : goal.returns-in_err-said
returns-in_err-said c =
    let e = unread (task_of c.args.task.now) c.args.round (awaits_of c.args.awaits) c.args.word.items (number c.in_err-said.field-0.0) (search rules) in
    search (rules, e)
