use Rattle.std.proofs.Common.{◌∙◌, arith, rules}
use Rattle.boxes.proofs.Groups.{closed-none, closed-more}
use Rattle.boxes.proofs.all.write_all.Goals as goal

pub loop-i-init : goal.loop-i-init
loop-i-init c = (search rules, tt, search rules, closed-none c.args.round c.args.numbers.now c.args.chances.now c.args.out.now _ _ (search rules) (search rules))

pub loop-i-preserved : goal.loop-i-preserved
loop-i-preserved c =
    let s = c.in-Some.ensures.steps in
    let v = c.loop-i.invariant in (
      search rules,
      tt,
      s.0.0 ∙ v.2,
      closed-more c.args.round c.args.numbers.now c.args.chances.now c.args.out.now _ _ _ _ _ _ _ _ v.3 s.1 s.2 s.0.1.0 (rw v.2 at s.0.1.1) s.0.1.2 (omega (arith, c.requires.room, c.loop-i.auto.out)) c.write_boxes.ensures,
    )
