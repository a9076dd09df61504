-- What is told of a file that can't be used. Assumes nothing.
use Rattle.std.specs.Prelude.{◌≡◌, ◌≢◌, ◌⊎◌, ℕ, cond, List, take, IfSome, Some, None, Option, String, string_bytes, ◌==◌}
use Rattle.std.specs.declared.alloc.Global.{Global}
use Rattle.std.specs.declared.io.Error.{Error}
use Rattle.std.specs.declared.io.ErrorKind.TheVariants.{OutOfMemory}
use Rattle.std.specs.IoError.{error_kind}
use Rattle.paths.specs.Plan.{Task, Plan}
use Rattle.tasks.specs.declared.fault.Fault.{Fault as AnyFault}
use Rattle.tasks.specs.declared.fault.Unfit.{Unfit as UnfitPair}
use Rattle.tasks.specs.Fault.{number}
use Rattle.tasks.specs.Fitting.{Lowest}
use Rattle.tasks.specs.Reading.{Got, got, refused, read_plan}
use Rattle.line.specs.declared.error.LineError.{LineError}
use Rattle.line.specs.declared.error.LineError.TheVariants as line
use Rattle.command.specs.declared.problem.Problem.{Problem}
use Rattle.command.specs.declared.problem.Problem.TheVariants.{Argument, File, Written, Fault, InFile, InRound, Unfit, Stream, Memory}

-- the problem is of the file of this name, and tells it; only want of memory is of no file
abbrev pub names : Problem → String Global → Type 0
names (Argument w) name = ⊥
names (File n e) name = n ≡ name
names (Written n e) name = ⊥
names (Fault f) name = ⊥
names (InFile f n) name = n ≡ name
names (InRound f r n) name = n ≡ name
names (Unfit u n) name = n ≡ name
names (Stream e) name = ⊥
names Memory name = Unit {0}

-- the pair that is told
abbrev pub told_pair : Problem → Option UnfitPair
told_pair (Argument w) = None
told_pair (File n e) = None
told_pair (Written n e) = None
told_pair (Fault f) = None
told_pair (InFile f n) = None
told_pair (InRound f r n) = None
told_pair (Unfit u n) = Some u
told_pair (Stream e) = None
told_pair Memory = None

-- a pair is told only where some plan fails it, and no pair before it
abbrev pub Fails : Task → Problem → Type 0
Fails t p = IfSome (told_pair p) (λ u. (q : Plan) × Lowest t q u)

-- it is told with a name of these bytes, or there was no memory for the name
abbrev pub NamedBy : String Global → (String Global → Problem → Type 0) → Problem → Type 0
NamedBy name tells p = (p ≡ Memory) ⊎ ((copy : String Global) × (string_bytes copy ≡ string_bytes name) × tells copy p)

-- a fault is told so; the want of memory, which has no number, is told as such
abbrev pub but_memory : AnyFault → Problem → Problem
but_memory f told = cond (number f == 0) Memory told

abbrev pub line_problem : LineError → Problem
line_problem (line.Stream e) = Stream e
line_problem line.Memory = Memory

-- an error met in reading is told with the file's name; only want of memory is told as such
abbrev pub InReading : Error → String Global → Problem → Type 0
InReading e name p =
    ((error_kind e ≡ OutOfMemory) × (p ≡ Memory)) ⊎ ((error_kind e ≢ OutOfMemory) × (p ≡ File name e))

-- nothing could be read, or there was no memory
abbrev pub Unread : String Global → Problem → Type 0
Unread name p = (p ≡ Memory) ⊎ ((e : Error) × (error_kind e ≢ OutOfMemory) × (p ≡ File name e))

-- the first of the bytes, so many at most, are refused by a fault, which is told with the file's name
abbrev pub RefusesFirst : ℕ → Option (List ℕ) → (List ℕ → AnyFault → Type 0) → String Global → Problem → Type 0
RefusesFirst most known refuses name p =
    Unread name p
    ⊎ ((bs : List ℕ) × (f : AnyFault) × IfSome known (λ xs. bs ≡ take most xs) × refuses bs f × (p ≡ but_memory f (InFile f name)))

-- what is read of all bytes; of some bytes where they are not known
abbrev pub ReadFrom : {A : Type 0} → (List ℕ → Got A) → Option (List ℕ) → Got A → Type 0
ReadFrom read known g = (bs : List ℕ) × IfSome known (λ xs. read xs ≡ read bs) × (read bs ≡ g)

-- exactly the fault by which the bytes are refused is told, with the file's name
abbrev pub Refuses : {A : Type 0} → (List ℕ → Got A) → Option (List ℕ) → String Global → Problem → Type 0
Refuses read known name p =
    Unread name p ⊎ ((f : AnyFault) × ReadFrom read known (refused (number f)) × (p ≡ InFile f name))

-- the same of a plan, which may also fail a pair of the task: then the first such pair is told
abbrev pub RefusesPlan : Task → Option (List ℕ) → String Global → Problem → Type 0
RefusesPlan t known name p =
    Refuses (read_plan t) known name p
    ⊎ ((u : UnfitPair) × (q : Plan) × ReadFrom (read_plan t) known (got q) × Lowest t q u × (p ≡ Unfit u name))

-- the same, with a copy of the name
abbrev pub UnreadCopy : String Global → Problem → Type 0
UnreadCopy name p = NamedBy name (λ copy q. Unread copy q) p

-- an error of a stream is told with the file's name, and all else stays as it is
abbrev pub InFileOf : String Global → Problem → Problem → Type 0
InFileOf name (Stream e) p = NamedBy name (λ copy q. InReading e copy q) p
InFileOf name problem p = p ≡ problem
