use Rattle.std.proofs.Common.{length, sym, ap, ◌∙◌}
use Rattle.paths.specs.Order.{order_of}
use Rattle.pairing.proofs.Promises.{order_given}
use Rattle.pairing.proofs.plans.Plans.pair_order.Goals as goal

pub returns-clause-answer : goal.returns-clause-answer
returns-clause-answer c =
    let s = c.args.self.now in
    let l = ap length (sym c.as_slice.ensures.numbers) ∙ c.if-as_slice-self.false in
    let g = order_given s c.args.question _ c.in_ok-pair.ensures c.partners.result c.partners.ensures (order_of c.args.order.now) l c.paired.result _ c.paired.ensures in
    rw c.ok_or.ensures.value g
