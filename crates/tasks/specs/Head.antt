-- The head of a task of the code, as that of the definitions. Assumes nothing.
use Rattle.tasks.specs.declared.reading.Head.{Head as CodeHead}
use Rattle.tasks.specs.Reading.{Head}

abbrev pub head_of : CodeHead → Head
head_of h = record { trains = h.trains; paths = h.paths; pairs = h.pairs }
