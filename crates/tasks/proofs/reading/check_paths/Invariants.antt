-- What is left to read gives the answer of the whole.
use Rattle.std.proofs.Common.{◌≡◌, ◌-◌}
use Rattle.tasks.specs.Reading.{read_each, read_path, read_paths}
use Rattle.tasks.proofs.reading.check_paths.Given as goal

abbrev pub invariant-loop : goal.invariant-loop
invariant-loop l =
    read_each (read_path l.task.paths) 1 tt (l.task.trains - l.counter) l.rest ≡ read_paths l.task.paths l.task.trains l.bytes
