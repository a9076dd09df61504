-- What is left to read gives the answer of the whole.
use Rattle.std.proofs.Common.{◌≡◌, ◌-◌}
use Rattle.tasks.specs.Pair.{pair_of}
use Rattle.tasks.specs.Reading.{read_each, read_pair, read_pairs}
use Rattle.tasks.proofs.reading.check_pairs.Given as goal

abbrev pub invariant-loop : goal.invariant-loop
invariant-loop l =
    read_each (read_pair l.head.trains) 4 (pair_of l.last) (l.head.pairs - l.counter) l.rest ≡ read_pairs l.head.trains l.head.pairs l.bytes
