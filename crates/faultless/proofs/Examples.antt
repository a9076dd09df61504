-- The examples, computed. Assumes nothing.
use Rattle.std.proofs.Common.{refl}
use Rattle.paths.specs.Cheat.{up_to}
use Rattle.drawing.specs.Drawing.{draw, values_of}
use Rattle.sha256.specs.Sha256.{bytes}
use Rattle.tasks.specs.Reading.{read_each}
use Rattle.tasks.specs.Task.{rising}
use Rattle.book.specs.Chain.{after}
use Rattle.asking.specs.Run.{run}
use Rattle.cutting.specs.Cutting.{cut_from}
use Rattle.judging.specs.Judging.{content_from, redrawn_from}
use Rattle.faultless.specs.Transcript.{words_from}
use Rattle.faultless.specs.Examples.{Examples}

pub examples : Examples
unfolding up_to draw values_of bytes read_each rising after run cut_from content_from redrawn_from words_from
examples =
    record {
      task = refl;
      all = (refl, refl);
      not_all = (refl, refl);
      unopened = (refl, refl);
      unclosed = (refl, refl);
      other_task = (refl, refl);
      words = (refl, refl, refl);
      other = refl;
    }
