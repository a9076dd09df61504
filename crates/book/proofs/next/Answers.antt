use Rattle.std.proofs.Common.{◌≡◌, [], ap, ◌∙◌}
use Rattle.sha256.specs.Sha256.{sha256}
use Rattle.boxes.proofs.Digests.{length-sha256}
use Rattle.book.specs.Chain.{next_digest, after}
use Rattle.book.specs.Model.{text_of}
use Rattle.book.proofs.Breach.{binds}
use Rattle.book.proofs.Uses.{round-long}
use Rattle.book.proofs.next.Goals as goal

pub returns : goal.returns
unfolding after
returns c =
    let w = text_of c.args.words in
    let held = c.add_words.ensures _ (c.update.ensures [] c.new-h.ensures) in
    let e : c.finish.result ≡ next_digest sha256 c.args.before w = c.finish.ensures _ held in
    record {
      value = e;
      chain = λ task ws h. e ∙ ap (λ d. next_digest sha256 d w) h;
      long = round-long;
      bound = binds sha256 length-sha256;
      binds = binds;
    }
