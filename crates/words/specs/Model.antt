-- Words of the code as those of the definitions. Assumes nothing.
use Rattle.std.specs.Prelude.{ℕ, List, Some, None, Option}
use Rattle.boxes.specs.Model.{opening_of}
use Rattle.words.specs.declared.word.Word.{Word}
use Rattle.words.specs.declared.word.Word.TheVariants.{Task, Plan, Boxes, Ask, Opened, End}
use Rattle.words.specs.Said.{Said, task, plan, boxes, ask, opened, end}
use Rattle.words.specs.Writing.{Wrote, wrote, no_room}

abbrev pub said : Word → Said
said (Task bs) = task bs.now
said (Plan ps) = plan ps.now
said (Boxes r ds) = boxes r ds.now
said (Ask r i) = ask r i
said (Opened r x y) = opened r (opening_of x) (opening_of y)
said (End r content) = end r content

-- the answer of a writer with the memory that it leaves
abbrev pub wrote_to : Option ℕ → List ℕ → Wrote
wrote_to (Some n) out = wrote n out
wrote_to None out = no_room out
