use Rattle.std.proofs.Common.{refl}
use Rattle.words.proofs.Laws.{unknown}
use Rattle.words.proofs.stops.next_stop.Goals as goal

pub returns-in-Err-clause-answer : goal.returns-in-Err-clause-answer
returns-in-Err-clause-answer c = let u = unknown _ c.in-Err.ensures.1 in rw (u.not1, u.not2, u.not3, u.not4, u.not5, u.not6) refl
