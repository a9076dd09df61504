use Rattle.std.proofs.Common.{◌≡◌, true, false, rules, tests}
use Rattle.std.proofs.lemmas.Iterator.{first_from_Range}
use Rattle.judging.specs.Judging.{other_box}
use Rattle.judging.proofs.Firsts.{first_is}
use Rattle.judging.proofs.redrawing.first_other.Goals as goal

pub returns : goal.returns
returns c =
    let is = other_box c.args.digests.now c.args.given.now in
    first_is is c.args.trains _ (first_from_Range _ _ _ _ (λ i. is i ≡ true) (λ i. is i ≡ false) c.find.ensures.ran (λ x q k. search (rules, tests)) (λ x q k. search (rules, tests)))
