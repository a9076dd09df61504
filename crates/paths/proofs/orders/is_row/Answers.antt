use Rattle.std.proofs.Common.{sym, refl}
use Rattle.std.proofs.lemmas.List.{length_push}
use Rattle.std.proofs.lemmas.Iterator.Consumers.{YieldsList-turn}
use Rattle.std.proofs.lemmas.Iterator.Adapters.{YieldsList-from_rev_slice}
use Rattle.paths.proofs.Once.{passed_none, passed-more, passed_high, passed-twice}
use Rattle.paths.proofs.orders.is_row.Goals as goal
use Rattle.paths.proofs.orders.is_row.Goals.{then-number-bytes-via-then-number-bytes, then-number-bytes-via-else-number-bytes+then-met-number}

pub loop-byte-init : goal.loop-byte-init
loop-byte-init c = passed_none _ _ refl

pub loop-byte-preserved : goal.loop-byte-preserved
loop-byte-preserved c =
    let t = YieldsList-turn (YieldsList-from_rev_slice c.args.bytes.now cc) c.loop-byte.yielded _ c.loop-byte.yielded_by _ _ c.in-Some.byte c.in-Some.is c.next.ensures.steps in
    rw length_push (passed-more _ _ _ _ c.requires t c.loop-byte.invariant c.if-number-bytes.false c.if-met-number.false)

pub returns-then-number-bytes : goal.returns-then-number-bytes
returns-then-number-bytes c =
    let t = YieldsList-turn (YieldsList-from_rev_slice c.args.bytes.now cc) c.loop-byte.yielded _ c.loop-byte.yielded_by _ _ c.in-Some.byte c.in-Some.is c.next.ensures.steps in
    elim c.then-number-bytes.branch [
      | then-number-bytes-via-then-number-bytes w ↦ sym (passed_high _ _ _ _ c.requires t c.loop-byte.invariant w.if-number-bytes.true)
      | then-number-bytes-via-else-number-bytes+then-met-number w ↦
          sym (passed-twice _ _ _ _ c.requires t c.loop-byte.invariant w.if-number-bytes.false w.if-met-number.true)
    ]
