-- The examples, computed. Assumes nothing.
use Rattle.std.proofs.Common.{refl}
use Rattle.paths.specs.Plan.{all_below, apart}
use Rattle.paths.specs.Cheat.{up_to}
use Rattle.drawing.specs.Drawing.{draw, values_of, order_moduli, exchanges, row_of}
use Rattle.sha256.specs.Sha256.{bytes}
use Rattle.tasks.specs.Reading.{read_each}
use Rattle.tasks.specs.Task.{rising}
use Rattle.boxes.specs.Box.{boxes_of}
use Rattle.book.specs.Chain.{after}
use Rattle.planning.specs.Run.{run}
use Rattle.cutting.specs.Cutting.{cut_from}
use Rattle.judging.specs.Judging.{content_from, first_from, redrawn_from}
use Rattle.blameless.specs.Transcript.{closed_from}
use Rattle.blameless.specs.Examples.{Examples}

pub examples : Examples
unfolding all_below apart up_to draw values_of order_moduli exchanges row_of bytes read_each rising boxes_of after run cut_from content_from first_from redrawn_from closed_from
examples = record { task = refl; plan = refl; bytes = refl; all = (refl, refl); not_all = (refl, refl); refused = (refl, refl); words = (refl, refl, refl); other = refl }
