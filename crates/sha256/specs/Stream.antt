-- The model of a hasher: the list of the bytes that it has been given so far.
use Rattle.std.specs.Prelude.{◌≡◌, ℕ, ◌*◌, ◌/◌, ◌%◌, ◌^◌, List, length, take, drop}
use Rattle.sha256.specs.declared.state.State.{State}
use Rattle.sha256.specs.declared.hasher.Hasher.{Hasher}
use Rattle.sha256.specs.Sha256.{H0, hashed}

-- s has the whole blocks of m, r is what is left after them, and n is the number of bytes modulo 2 ^ 64
pub record Left (s : State ℕ) (r : List ℕ) (n : ℕ) (m : List ℕ) : Type 0 where
  pub whole : s ≡ hashed H0 m (length m / 64)
  pub rest : r ≡ drop (64 * (length m / 64)) m
  pub total : n ≡ length m % 2 ^ 64

-- the hasher holds the bytes m
pub record Holds (h : Hasher) (m : List ℕ) : Type 0 where
  pub held : h.held ≡ length m % 64
  pub left : Left h.state (take h.held h.block) h.total m
