use Rattle.std.proofs.Common.{ap, ◌∙◌}
use Rattle.sha256.specs.Sha256.{sha256}
use Rattle.boxes.specs.Box.{text_of}
use Rattle.paths.proofs.Same.{same_itself}
use Rattle.boxes.proofs.Texts.{text_injective, text-long}
use Rattle.boxes.proofs.closing.close.Goals as goal

pub returns : goal.returns
returns c =
    record {
      value = c.digest.ensures ∙ ap sha256 c.text.ensures;
      injective = text_injective;
      long = text-long;
      opened = λ hash round x. same_itself (hash (text_of round x));
    }
