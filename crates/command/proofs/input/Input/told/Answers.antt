use Rattle.std.proofs.Common.{◌≡◌, rules}
use Rattle.command.specs.Files.{InReading}
use Rattle.command.proofs.Names.{named}
use Rattle.command.proofs.input.Input.told.Goals as goal

pub returns-in-Stream : goal.returns-in-Stream
returns-in-Stream g c = rw c.in-Stream.is (named _ _ c.args.self.now.name (λ name p. InReading c.in-Stream.error name p) c.clone.result c.clone.ensures.cases c.map_or.ensures (λ t told. search rules))
