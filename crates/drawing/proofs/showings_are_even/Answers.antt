use Rattle.drawing.proofs.Showings.{showings, even_showings}
use Rattle.drawing.proofs.showings_are_even.Goals as goal

pub returns : goal.returns
returns c = record { one_to_one = showings; even = even_showings }
