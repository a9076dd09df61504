-- The byte of each kind of word. Assumes nothing.
use Rattle.std.specs.Prelude.{◌≡◌, ◌≢◌, ℕ, Result, MatchResult}
use Rattle.tasks.specs.declared.fault.Fault.{Fault}
use Rattle.tasks.specs.declared.fault.Fault.TheVariants.{Shape}
use Rattle.tasks.specs.declared.kind.Kind.{Kind}
use Rattle.tasks.specs.declared.kind.Kind.TheVariants.{Task, Plan, Boxes, Ask, Opened, End}

abbrev pub kind_byte : Kind → ℕ
kind_byte Task = 1
kind_byte Plan = 2
kind_byte Boxes = 3
kind_byte Ask = 4
kind_byte Opened = 5
kind_byte End = 6

-- the kind with this byte, or fault 1 where no kind has it
abbrev pub KindOf : ℕ → Result Kind Fault → Type 0
KindOf byte r = MatchResult r (λ kind. kind_byte kind ≡ byte) (λ f. (f ≡ Shape) × ((kind : Kind) → kind_byte kind ≢ byte))
