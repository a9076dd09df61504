-- What is told with a copy of a name.
use Rattle.std.proofs.Common.{◌≡◌, Ok, Err, Result, String, string_bytes, inl, inr}
use Rattle.std.specs.Result.{MatchResult}
use Rattle.std.specs.declared.alloc.Global.{Global}
use Rattle.command.specs.declared.problem.Problem.{Problem}
use Rattle.std.specs.declared.io.Error.{Error}
use Rattle.command.specs.declared.problem.Problem.TheVariants.{Memory, Stream}
use Rattle.command.specs.Files.{NamedBy, InReading, Unread, UnreadCopy, InFileOf}

module _ {E : Type 0} (Refused : E → Type 0) (Told : String Global → Type 0) where
  pub named : (name : String Global) (tells : String Global → Problem → Type 0) {p : Problem} (copy : Result (String Global) E) → MatchResult copy (λ t. string_bytes t ≡ string_bytes name) Refused → MatchResult copy Told (λ e. p ≡ Memory) → ((t : String Global) → Told t → tells t p) → NamedBy name tells p
  named name tells (Ok t) same told law = inr (t, same, law t told)
  named name tells (Err e) same told law = inl told

unread : (e : Error) (name : String Global) (p : Problem) → InReading e name p → Unread name p
unread e name p (inl (k, m)) = inl m
unread e name p (inr (k, t)) = inr (e, k, t)

-- an error of a stream, told of the file, says that the file could not be read
pub unread_copy : (e : Error) (name : String Global) (p : Problem) → InFileOf name (Stream e) p → UnreadCopy name p
unread_copy e name p (inl m) = inl m
unread_copy e name p (inr (copy, same, told)) = inr (copy, same, unread e copy p told)
