use Rattle.std.proofs.Common.{◌≡◌, rules}
use Rattle.command.specs.declared.problem.Problem.TheVariants.{InRound}
use Rattle.command.proofs.Names.{named}
use Rattle.command.proofs.input.Input.in_round.Goals as goal

pub returns : goal.returns
returns g c = named _ _ c.args.self.now.name (λ name p. p ≡ InRound c.args.fault c.args.round name) c.clone.result c.clone.ensures.cases c.map_or.ensures (λ t told. search rules)
