-- How a showing ends for a side. Assumes nothing.
use Rattle.std.specs.Prelude.{ℕ, List, Ok, Err, Result}
use Rattle.tasks.specs.Fault.{number}
use Rattle.round.specs.declared.over.Outcome.{Outcome as CodeOutcome}
use Rattle.round.specs.declared.over.Outcome.TheVariants as code
use Rattle.round.specs.declared.over.Over.{Over as CodeOver}

-- content in all of so many rounds; not content in this round; a fault, by its number, in this round; or a fault of the Task, before any round
pub data Outcome : Type 0 where
  content : ℕ → Outcome
  not_content : ℕ → Outcome
  fault : ℕ → ℕ → Outcome
  task_fault : ℕ → Outcome

-- how it ended, and the book's last digest
pub record Over : Type 0 where
  pub outcome : Outcome
  pub digest : List ℕ

abbrev pub outcome_of : CodeOutcome → Outcome
outcome_of (code.Content rounds) = content rounds
outcome_of (code.NotContent round) = not_content round
outcome_of (code.Fault f round) = fault (number f) round
outcome_of (code.TaskFault f) = task_fault (number f)

abbrev pub over_of : CodeOver → Over
over_of o = record { outcome = outcome_of o.outcome; digest = o.digest }

-- what a step leads to: the next state, or the end
pub data Leads (A : Type 0) : Type 0 where
  on : A → Leads A
  out : Over → Leads A

abbrev pub leads : {X A : Type 0} → (X → A) → Result X CodeOver → Leads A
leads view (Ok x) = on (view x)
leads view (Err o) = out (over_of o)
