-- The words of a round of the code as the text that is hashed. Assumes nothing.
use Rattle.std.specs.Prelude.{ℕ, List}
use Rattle.book.specs.declared.RoundWords.{RoundWords}
use Rattle.book.specs.Lengths.{round_text}

abbrev pub text_of : RoundWords → List ℕ
text_of w = round_text w.boxes.now w.ask.now w.opened.now w.end.now
