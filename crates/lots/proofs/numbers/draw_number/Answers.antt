use Rattle.std.proofs.Common.{sym, ◌∙◌, arith}
use Rattle.lots.proofs.Steps.{four_used, four-over, number-none, end_more}
use Rattle.lots.proofs.numbers.draw_number.Goals as goal

pub returns-then-value-limit-clause-number : goal.returns-then-value-limit-clause-number
returns-then-value-limit-clause-number c =
    let p = c.in-Some.ensures.cases in
    four_used _ _ _ _ _ p.0 p.1 (omega (arith, p.2)) c.from_be_bytes-value.ensures (omega arith) ∙ c.loop-four.invariant.0

pub returns-then-value-limit-clause-left : goal.returns-then-value-limit-clause-left
returns-then-value-limit-clause-left c = end_more 4 _ _ _ c.loop-four.invariant.1 c.in-Some.ensures.cases.1

pub loop-four-preserved : goal.loop-four-preserved
loop-four-preserved c =
    let p = c.in-Some.ensures.cases in (
      four-over _ _ _ _ _ p.0 p.1 (omega (arith, p.2)) c.from_be_bytes-value.ensures (omega arith) ∙ c.loop-four.invariant.0,
      end_more 4 _ _ _ c.loop-four.invariant.1 p.1,
    )

pub returns-clause-number : goal.returns-clause-number
returns-clause-number c = sym (sym c.loop-four.invariant.0 ∙ number-none _ _ (omega (arith, c.in_default.ensures.cases)))
