use Rattle.std.proofs.Common.{vec_items}
use Rattle.std.specs.Io.KnownBytes.{Consumes}
use Rattle.tasks.specs.Model.{task_of}
use Rattle.line.specs.Wanted.{Wanted}
use Rattle.line.proofs.reading.read_word_from.Given as goal

abbrev pub invariant-loop : goal.invariant-loop
invariant-loop g l = record {
  wanted : Wanted (task_of l.task) (vec_items l.word);
  taken : Consumes (g.R.Read.remaining l.initial.reader) (g.R.Read.remaining l.reader) (vec_items l.word);
}
