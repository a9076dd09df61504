-- The files that a showing writes, and what is told of them. Assumes nothing.
use Rattle.std.specs.Prelude.{◌≡◌, ◌⊎◌, ℕ, List, [], Option, Some, None, String, IfSome}
use Rattle.std.specs.Option.{option_map}
use Rattle.std.specs.Io.Buffered.{writer_contents, writer_buffer}
use Rattle.std.specs.declared.alloc.Global.{Global}
use Rattle.std.specs.declared.io.Error.{Error}
use Rattle.command.specs.declared.problem.Problem.{Problem}
use Rattle.command.specs.declared.problem.Problem.TheVariants.{Written, Memory}
use Rattle.keeping.specs.declared.kept.Kept.{Kept}

abbrev pub name_of : {W : Type 0} → Option (Kept W) → Option (String Global)
name_of kept = option_map (λ k. k.name) kept

-- the bytes that were written, where they are known
abbrev pub bytes_of : {W : Type 0} → (W → Option (List ℕ)) → Kept W → Option (List ℕ)
bytes_of contents kept = writer_contents contents kept.file

-- what was not handed to the writer yet
abbrev pub waiting_in : {W : Type 0} → Kept W → List ℕ
waiting_in kept = writer_buffer kept.file

-- the same, where there is a file
abbrev pub bytes_in : {W : Type 0} → (W → Option (List ℕ)) → Option (Kept W) → Option (List ℕ)
bytes_in contents None = None
bytes_in contents (Some kept) = bytes_of contents kept

abbrev pub IsFlushed : {W : Type 0} → Option (Kept W) → Type 0
IsFlushed kept = IfSome kept (λ k. waiting_in k ≡ [])

-- it could not be written, or there was no memory
abbrev pub IsWritten : String Global → Problem → Type 0
IsWritten name p = (p ≡ Memory) ⊎ ((e : Error) × (p ≡ Written name e))
