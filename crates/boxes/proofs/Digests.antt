-- A digest has 32 bytes. Assumes nothing.
use Rattle.std.proofs.Common.{◌≡◌, ℕ, List, length}
use Rattle.std.proofs.lemmas.List.{length-append}
use Rattle.sha256.specs.Sha256.{sha256}
use Rattle.sha256.proofs.Bytes.{length-bytes}

pub length-sha256 : (m : List ℕ) → length (sha256 m) ≡ 32
unfolding sha256
length-sha256 m = simp (length-append, length-bytes)
