use Rattle.std.proofs.Common.{◌≡◌, Break, rules}
use Rattle.tasks.specs.Model.{task_of}
use Rattle.line.proofs.Wants.{few_of, taken_more, known_still, exact_word}
use Rattle.line.proofs.reading.read_word_from.Goals as goal

pub returns-then-is_break-clause-taken : goal.returns-then-is_break-clause-taken
returns-then-is_break-clause-taken g c = taken_more _ _ _ _ _ c.loop.invariant.taken c.one_turn.ensures.taken

pub returns-then-is_break-clause-whole : goal.returns-then-is_break-clause-whole
returns-then-is_break-clause-whole g c =
    let e : c.in_ok-one_turn.field-0 ≡ Break tt = search rules in
    known_still _ _ _ _ c.loop.invariant.taken (c.in_ok-one_turn.ensures.whole tt e)

pub returns-then-is_break-clause-exact : goal.returns-then-is_break-clause-exact
returns-then-is_break-clause-exact g c =
    exact_word (task_of c.args.task.now) c.args.task.now.few_trains _ _ _ c.one_turn.ensures.wanted (returns-then-is_break-clause-taken g c) (returns-then-is_break-clause-whole g c)

pub returns-then-is_break-clause-few : goal.returns-then-is_break-clause-few
returns-then-is_break-clause-few g c = few_of c.args.task.now c.one_turn.new.word c.one_turn.ensures.wanted

pub returns-clause-few : goal.returns-clause-few
returns-clause-few g c = few_of c.args.task.now c.loop.word c.loop.invariant.wanted

pub returns-in_err-one_turn-clause-few : goal.returns-in_err-one_turn-clause-few
returns-in_err-one_turn-clause-few g c = few_of c.args.task.now c.one_turn.new.word c.one_turn.ensures.wanted

pub loop-preserved : goal.loop-preserved
loop-preserved g c = record { wanted = c.one_turn.ensures.wanted; taken = taken_more _ _ _ _ _ c.loop.invariant.taken c.one_turn.ensures.taken }
