use Rattle.std.proofs.Common.{◌∙◌, ap, length, sym}
use Rattle.std.proofs.lemmas.Bool.{ltb-true}
use Rattle.tasks.specs.Reading.{got}
use Rattle.tasks.proofs.Units.{cond-got}
use Rattle.tasks.proofs.Words.{bytes_below}
use Rattle.planning.proofs.ready.Ready.read_ask.Goals as goal

pub returns-clause-whole : goal.returns-clause-whole
returns-clause-whole c =
    let bs = c.args.word.now in
    let e = sym c.in_ok-read_word.ensures.answer ∙ ap got c.in_ok-pair.ensures.word in
    let is = c.read_word.ensures.law.only bs _ (bytes_below bs c.type_inv.word) e in
    (ap length is.1, ltb-true _ _ (cond-got _ 7 _ _ (sym c.in_ok-pair_at.ensures)).0)
