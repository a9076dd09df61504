-- The asker's states of the code as those of the definitions. Assumes nothing.
use Rattle.std.specs.Prelude.{ℕ, List, [], Some, None, vec_items, Option}
use Rattle.tasks.specs.Model.{task_of}
use Rattle.tasks.specs.Reading.{looks}
use Rattle.asking.specs.declared.awaiting.Awaiting.{Awaiting as CodeAwaiting}
use Rattle.asking.specs.declared.ready.Ready.{Ready as CodeReady}
use Rattle.asking.specs.declared.drawn.Drawn.{Drawn as CodeDrawn}
use Rattle.asking.specs.declared.asked.Asked.{Asked as CodeAsked}
use Rattle.asking.specs.declared.tested.Tested.{Tested as CodeTested}
use Rattle.asking.specs.Asking.{Awaiting, Ready, Drawn, Asked, Tested}

abbrev pub awaiting_of : CodeAwaiting → Awaiting
awaiting_of s = record { task = task_of s.task; rounds = s.rounds.count }

abbrev pub ready_of : CodeReady → Ready
ready_of s = record { task = task_of s.task; rounds = s.rounds.count; round = s.round; digest = s.digest }

abbrev pub drawn_of : CodeDrawn → Drawn
drawn_of s = record { ready = ready_of s.ready; pair = s.pair }

abbrev pub asked_of : CodeAsked → Asked
asked_of s = record { drawn = drawn_of s.drawn; boxes = vec_items s.boxes; ask = s.ask }

-- no Opened of the round counts as no bytes
abbrev pub counted : Option (List ℕ) → List ℕ
counted (Some bs) = bs
counted None = []

abbrev pub tested_of : CodeTested → Tested
tested_of s = record { asked = asked_of s.asked; opened = counted s.opened; end = s.end; test = looks s.test }
