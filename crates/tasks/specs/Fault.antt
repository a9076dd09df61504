-- The number and the words of each fault. Assumes nothing.
use Rattle.std.specs.Prelude.{ℕ, List, ◌++◌, codes}
use Rattle.std.specs.Fmt.{decimal}
use Rattle.tasks.specs.declared.fault.Fault.{Fault}
use Rattle.tasks.specs.declared.fault.Fault.TheVariants.{Shape, Range, Order, OtherTask, Unfit, NotAwaited, NoPair, OtherTrains, NotOpened, BadNumber, DrawnOut, TooManyRounds, OtherWords, Memory}

-- the want of memory has no number: 0 stands for that
abbrev pub number : Fault → ℕ
number Shape = 1
number Range = 2
number Order = 3
number OtherTask = 4
number (Unfit u) = 5
number NotAwaited = 6
number NoPair = 7
number OtherTrains = 8
number NotOpened = 9
number BadNumber = 10
number DrawnOut = 11
number TooManyRounds = 12
number OtherWords = 13
number Memory = 0

-- why, in words
abbrev pub cause : Fault → List ℕ
cause Shape = codes "unknown kind or bad length"
cause Range = codes "a number out of its range, or a train or path that isn't there"
cause Order = codes "pairs not in rising order, or of a train with itself"
cause OtherTask = codes "the tasks differ"
cause (Unfit u) = codes "the plan doesn't fit"
cause NotAwaited = codes "a word of another round, or not awaited"
cause NoPair = codes "a pair that isn't there"
cause OtherTrains = codes "an opening of other trains"
cause NotOpened = codes "a box that the opening doesn't open"
cause BadNumber = codes "a number that is no path's, or the same twice"
cause DrawnOut = codes "the drawn bytes are used up"
cause TooManyRounds = codes "more than 16777216 rounds"
cause OtherWords = codes "words that don't fit the book"
cause Memory = codes "out of memory"

-- what a person is told
abbrev pub fault_text : Fault → List ℕ
fault_text f = codes "fault " ++ (decimal (number f) ++ (codes ": " ++ cause f))
