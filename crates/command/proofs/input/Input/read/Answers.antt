use Rattle.command.proofs.Names.{unread_copy}
use Rattle.command.proofs.input.Input.read.Goals as goal

pub returns-in-Err-clause-told : goal.returns-in-Err-clause-told
returns-in-Err-clause-told g c = unread_copy c.in-Err.error c.args.self.now.name _ c.told.ensures
