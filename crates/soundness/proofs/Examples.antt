-- The examples, computed. Assumes nothing.
use Rattle.std.proofs.Common.{refl}
use Rattle.paths.specs.Plan.{all_below, apart}
use Rattle.paths.specs.Cheat.{up_to, before, asks, count}
use Rattle.paths.proofs.Misses.{same-pair}
use Rattle.sha256.specs.Sha256.{bytes}
use Rattle.tasks.specs.Reading.{read_each}
use Rattle.tasks.specs.Task.{rising}
use Rattle.boxes.specs.Box.{boxes_of}
use Rattle.soundness.specs.Questioned.{run_on}
use Rattle.soundness.specs.Texts.{first_of, openings, twos, texts_along}
use Rattle.soundness.specs.Knows.{number_of, first_fit, plans_along}
use Rattle.soundness.specs.Examples.{Examples}
use Rattle.soundness.specs.ReadOff.{ReadOff}

pub examples : Examples
unfolding asks before up_to count bytes read_each rising boxes_of run_on first_of openings twos texts_along
examples = record { task = refl; none = same-pair.none; four = refl; clean = refl; one = refl; nine = refl; texts = refl; along = refl }

pub read_off : ReadOff
unfolding all_below apart asks before up_to count bytes read_each rising boxes_of run_on first_of openings twos texts_along number_of first_fit plans_along
read_off =
    record {
      task = refl;
      all = refl;
      along_all = refl;
      first = refl;
      four = refl;
      none = refl;
      six = refl;
      along_six = refl;
      not_blind = refl;
      second = refl;
      ended = refl;
    }
