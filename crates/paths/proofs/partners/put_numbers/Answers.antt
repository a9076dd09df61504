use Rattle.std.proofs.Common.{rules, ◌≡◌, refl, ◌∙◌, arith}
use Rattle.std.proofs.lemmas.List.{length-set}
use Rattle.paths.specs.Plan.{at}
use Rattle.paths.specs.Cheat.{up_to}
use Rattle.paths.specs.Partners.{partner_of}
use Rattle.paths.proofs.Partnered.{made_more, made_all}
use Rattle.paths.proofs.partners.put_numbers.Goals as goal

pub loop-path-init : goal.loop-path-init
unfolding up_to
loop-path-init c = (c.requires.room, refl)

pub loop-path-preserved : goal.loop-path-preserved
loop-path-preserved c =
    let v : c.unwrap_or.result ≡ at c.args.numbers.now (partner_of c.args.partners c.loop-path.path) = search rules in
    (length-set c.loop-path.theirs _ _ ∙ c.loop-path.invariant.0, made_more _ c.loop-path.theirs _ c.loop-path.invariant.1 _ (omega arith) v)

pub returns : goal.returns
returns c = made_all _ c.loop-path.theirs _ c.loop-path.invariant.1 (omega arith) _ c.loop-path.invariant.0 (omega arith)
