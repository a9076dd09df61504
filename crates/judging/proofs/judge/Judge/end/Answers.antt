use Rattle.sha256.specs.Sha256.{sha256}
use Rattle.boxes.proofs.Digests.{length-sha256}
use Rattle.judging.proofs.Folds.{folds}
use Rattle.judging.proofs.Telling.{front_serves, book-first}
use Rattle.judging.proofs.Redraws.{tells_difference}
use Rattle.judging.proofs.Contents.{tells_content}
use Rattle.judging.proofs.Finding.{first_counts}
use Rattle.judging.proofs.Passes.{honest_passes}
use Rattle.judging.proofs.Binds.{words_bind, no_other-words}
use Rattle.judging.proofs.judge.Judge.end.Goals as goal

pub returns : goal.returns
returns c =
    record {
      verdict = c.tell.ensures;
      folds = folds sha256;
      serves = front_serves sha256;
      book_first = book-first sha256;
      content = tells_content sha256;
      differs = tells_difference sha256;
      first = first_counts sha256;
      honest = honest_passes sha256 length-sha256;
      bind = words_bind sha256 length-sha256;
      no_other = no_other-words sha256 length-sha256;
    }
