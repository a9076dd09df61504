use Rattle.std.proofs.Common.{[], length, sym, ap, arith}
use Rattle.std.proofs.lemmas.List.{drop_all}
use Rattle.prohibitions.proofs.Lasts.{lasts, last_new, last_again, too_many, few_enough}
use Rattle.prohibitions.proofs.prohibiting.few_different.Goals as goal

pub loop-i-init : goal.loop-i-init
unfolding lasts
loop-i-init c = (sym (ap (lasts []) (drop_all (length c.args.prohibitions.now) c.args.prohibitions.now (omega arith))), omega arith)

pub returns-then-count-most : goal.returns-then-count-most
returns-then-count-most c =
    let n = last_new c.args.prohibitions.now _ c.loop-i.i _ _ c.loop-i.count (omega arith) (omega arith) c.split_at.ensures.back c.contains.ensures.value c.loop-i.invariant.0 (grind (arith, c.if-not-contains.true)) in
    too_many c.args.prohibitions.now _ c.loop-i.count _ n (grind (arith, c.if-count-most.true))

pub loop-i-preserved-then-not-contains : goal.loop-i-preserved-then-not-contains
loop-i-preserved-then-not-contains c = (
  last_new c.args.prohibitions.now _ c.loop-i.i _ _ c.loop-i.count (omega arith) (omega arith) c.split_at.ensures.back c.contains.ensures.value c.loop-i.invariant.0 (grind (arith, c.if-not-contains.true)),
  grind (arith, c.if-count-most.false, c.loop-i.invariant.1),
)

pub loop-i-preserved : goal.loop-i-preserved
loop-i-preserved c =
    (last_again c.args.prohibitions.now _ c.loop-i.i _ _ c.loop-i.count (omega arith) (omega arith) c.split_at.ensures.back c.contains.ensures.value c.loop-i.invariant.0 (grind (arith, c.if-not-contains.false)), c.loop-i.invariant.1)

pub returns : goal.returns
returns c = few_enough c.args.prohibitions.now c.loop-i.i c.loop-i.count _ (omega arith) c.loop-i.invariant.0 c.loop-i.invariant.1
