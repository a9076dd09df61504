use Rattle.std.proofs.Common.{◌≡◌, ◌∙◌, ap, length, sym}
use Rattle.std.proofs.lemmas.Result.{IfOk-weaker}
use Rattle.tasks.specs.Reading.{got}
use Rattle.tasks.proofs.Words.{bytes_below}
use Rattle.words.specs.Model.{said}
use Rattle.words.specs.Said.{end}
use Rattle.planning.proofs.ready.Ready.read_end.Goals as goal

pub returns-clause-whole : goal.returns-clause-whole
returns-clause-whole c =
    let bs = c.args.word.now in
    let read = sym c.in_ok-read_word.ensures.answer in
    IfOk-weaker c.end_of.result (λ x. said c.in_ok-read_word.field-0 ≡ end c.args.self.now.round x) (λ _. length bs ≡ 6) (λ x e. ap length (c.read_word.ensures.law.only bs _ (bytes_below bs c.type_inv.word) (read ∙ ap got e)).1) c.end_of.ensures.word
