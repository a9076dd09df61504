use Rattle.std.proofs.Common.{sym}
use Rattle.std.proofs.lemmas.Bool.{and_parts, and_from}
use Rattle.paths.proofs.Partnered.{still_row}
use Rattle.paths.proofs.order.Order.paired.Goals as goal

pub invariant_of-result : goal.invariant_of-result
invariant_of-result c =
    let o = c.args.self.now in
    let s = c.as_slice.ensures in
    let r = still_row c.args.partners _ _ _ _ s.numbers s.count (sym c.if-not-are_two.ensures) (sym c.if-not-are_two-2.ensures) c.partners_numbers.ensures (and_from _ _ o.each_once o.all_there) in
    let p = and_parts _ _ r in
    record { some = o.some; few = o.few; each_once = p.0; all_there = p.1 }
