-- The Boxes in memory of their length. Assumes nothing.
use Rattle.std.proofs.Common.{◌≡◌, ℕ, ◌+◌, ◌*◌, List, ◌++◌, length, drop, Some, None, Option, sym, refl, ap, ◌∙◌, append-nil, arith}
use Rattle.std.proofs.lemmas.List.{drop_all}
use Rattle.sha256.specs.Sha256.{sha256}
use Rattle.words.specs.Model.{wrote_to}
use Rattle.words.specs.Writing.{wrote, said_bytes}
use Rattle.round.specs.Round.{boxes_for, write_boxes}
use Rattle.round.proofs.Rounds.{boxes_written}

wrote_this : (r : Option ℕ) (after bs : List ℕ) (n : ℕ) → wrote_to r after ≡ wrote n bs → after ≡ bs
wrote_this (Some k) after bs n e = cc
wrote_this None after bs n e = cc

-- the Boxes fill memory of their length
pub boxes_fill : (n : ℕ) (p order chances out after : List ℕ) (r : Option ℕ) → length chances ≡ 32 * length p → length out ≡ 7 + 32 * length p →
    wrote_to r after ≡ write_boxes sha256 n p (record { order = order; chances = chances }) out → after ≡ said_bytes (boxes_for sha256 n p (record { order = order; chances = chances }))
boxes_fill n p order chances out after r l k e =
    let bs = said_bytes (boxes_for sha256 n p (record { order = order; chances = chances })) in
    let w = boxes_written n p order chances out (bs ++ drop (7 + 32 * length p) out) (length p) refl (omega arith) (omega arith) refl in
    wrote_this r after _ _ (e ∙ sym w) ∙ (ap (λ xs. bs ++ xs) (drop_all (7 + 32 * length p) out (omega arith)) ∙ append-nil bs)
