-- The laws that the two functions tell, but for those with a premise.
use Rattle.drawing.proofs.Even.{even_orders, even_questions, question_shares}
use Rattle.drawing.proofs.Showings.{even_showings}
use Rattle.lots.proofs.Coins.{lot_coin, lots_in-turn, questions_in-turn, questions_had}
use Rattle.lots.proofs.Draws.{bytes-in_turn}

pub ruleset lot_laws = (lot_coin, lots_in-turn, even_orders, even_showings)

pub ruleset question_laws = (questions_in-turn, questions_had, bytes-in_turn, even_questions, question_shares)
