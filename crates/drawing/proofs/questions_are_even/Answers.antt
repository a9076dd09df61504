use Rattle.drawing.proofs.Even.{even_questions, question_shares}
use Rattle.drawing.proofs.questions_are_even.Goals as goal

pub returns : goal.returns
returns c = record { even = even_questions; shares = question_shares }
