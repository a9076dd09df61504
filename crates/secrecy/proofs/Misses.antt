-- Boxes of glass show whether two trains have the same path. Assumes nothing.
use Rattle.std.proofs.Common.{◌≡◌, ℕ, ◌<◌, List, ◌++◌, length, drop, replicate, sym, refl, ap, ◌∙◌, arith, length-append}
use lib.ListN.{length-replicate}
use Rattle.std.proofs.lemmas.List.{length-take-le}
use Rattle.paths.specs.Plan.{Plan, at, all_below, apart}
use Rattle.paths.proofs.Rows.{same_place}
use Rattle.sha256.specs.Sha256.{bytes}
use Rattle.boxes.specs.Box.{box_text}
use Rattle.lots.specs.Lots.{Lot}
use Rattle.words.specs.Writing.{said_bytes}
use Rattle.round.specs.Round.{boxes_for, part_of}
use Rattle.secrecy.specs.Misses.{glass, with_first, with_second, GlassShows}
use Rattle.secrecy.proofs.Twins.{digests}

size : (x : List ℕ) → length (glass x) ≡ 32
size x = length-take-le 32 (drop 6 x ++ replicate 32 0) (simp (length-append, length-replicate) (omega arith))

-- the number that a digest shows
shows : (n j v : ℕ) (c : List ℕ) → at (glass (box_text n j v c)) 0 ≡ v
unfolding bytes
shows n j v c = refl

-- the same Boxes have the same numbers
same_numbers : (n : ℕ) (p q : Plan) (l m : Lot) → said_bytes (boxes_for glass n p l) ≡ said_bytes (boxes_for glass n q m) → (j : ℕ) → j < length p → j < length q →
    at l.order (at p j) ≡ at m.order (at q j)
same_numbers n p q l m e j a b =
    sym (shows n j _ _) ∙ (ap (λ d. at d 0) (sym (digests glass size n p l j a) ∙ (ap (λ w. part_of (drop 7 w) j) e ∙ digests glass size n q m j b)) ∙ shows n j _ _)

pub glass-shows : GlassShows
unfolding all_below apart
glass-shows =
    record {
      size = size;
      first_fits = tt;
      second_fits = tt;
      never = λ n l m h k e.
          let same = same_numbers n with_first with_second l m e in
          let x : at m.order 0 ≡ at m.order 1 = sym (same 0 (omega arith) (omega arith)) ∙ same 2 (omega arith) (omega arith) in
          let z = same_place m.order k.order.1 0 1 (omega (arith, k.order.0)) (omega (arith, k.order.0)) x in
          omega arith;
    }
