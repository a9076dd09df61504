-- Rows compared: the lemmas of paths, for the crates above that name them here.
use Rattle.std.proofs.Common.{◌≡◌, ℕ, true, List}
use Rattle.paths.specs.Count.{same_row}
use Rattle.paths.proofs.Same.{same_itself}
pub use Rattle.paths.proofs.Same.{same_decides, pointwise_same}

pub same-itself : (xs : List ℕ) → same_row xs xs ≡ true
same-itself = same_itself
