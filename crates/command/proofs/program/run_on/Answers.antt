use Rattle.std.proofs.Common.{rules, ◌≡◌, true, drop, Ok, Err, inl, refl}
use Rattle.command.specs.Endings.{asks_help}
use Rattle.command.specs.declared.problem.Ending.TheVariants.{Well}
use Rattle.command.proofs.program.run_on.Goals as goal

pub returns-in-Ok-None : goal.returns-in-Ok-None
returns-in-Ok-None g c =
    let asked : asks_help (drop 1 c.args.words.items) ≡ true = search rules in (Ok Well, c.exit_code.ensures, inl (asked, refl))

pub returns-in-Err : goal.returns-in-Err
returns-in-Err g c =
    let asked : asks_help (drop 1 c.args.words.items) ≡ true = search rules in (Err c.in-Err.problem, c.exit_code-in-Err.ensures, inl (asked, tt))
