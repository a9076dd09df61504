-- The bytes of the words before i stand one after the other.
use Rattle.std.proofs.Common.{◌≡◌, ◌*◌, length, take}
use Rattle.std.specs.List.{flat_map}
use Rattle.sha256.specs.Sha256.{bytes}
use Rattle.sha256.proofs.message.bytes.Given as goal

abbrev pub invariant-loop-i : goal.invariant-loop-i
invariant-loop-i l = (take (4 * l.i) l.out ≡ flat_map (bytes 4) (take l.i l.fn.words)) × (length l.out ≡ 32)
