-- An opening and two texts of the code, as those of the definitions. Assumes nothing.
use Rattle.boxes.specs.declared.opening.Opening.{Opening as CodeOpening}
use Rattle.boxes.specs.declared.binding.TwoTexts.{TwoTexts as CodeTexts}
use Rattle.boxes.specs.Box.{Opening}
use Rattle.boxes.specs.Binding.{TwoTexts}

abbrev pub opening_of : CodeOpening → Opening
opening_of x = record { train = x.train; number = x.number; chance = x.chance }

abbrev pub two_of : CodeTexts → TwoTexts
two_of x = (x.first, x.second)
