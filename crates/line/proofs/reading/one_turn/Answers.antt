use Rattle.std.proofs.Common.{length, vec_items, sym, ap, subst, arith}
use Rattle.tasks.specs.Model.{task_of}
use Rattle.words.specs.Stops.{next_stop}
use Rattle.line.specs.Wanted.{Wanted}
use Rattle.line.proofs.Wants.{wanted_more}
use Rattle.line.proofs.reading.one_turn.Goals as goal

pub returns-clause-wanted : goal.returns-clause-wanted
returns-clause-wanted g c =
    let t = task_of c.args.task.now in
    let step = c.take_part.ensures in
    let added = step.taken.1 in
    let stop = c.next_stop-stop.ensures.answer in
    let same = ap (next_stop t) c.as_slice.ensures.value in
    let long = ap length added in
    subst (Wanted t) (sym added) (wanted_more t (vec_items c.args.word.now) step.taken.0 c.requires (omega (arith, stop, same, step.short, long, c.take_part.new.word.ok.0)))
