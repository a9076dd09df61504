use Rattle.joined.proofs.Cases.{all-cases, all_faults}
use Rattle.joined.proofs.cases_hold.Goals as goal

pub returns-clause-table : goal.returns-clause-table
returns-clause-table c = all-cases

pub returns-clause-faults : goal.returns-clause-faults
returns-clause-faults c = all_faults
