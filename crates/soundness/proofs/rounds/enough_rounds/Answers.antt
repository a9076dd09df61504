-- A task of the code is sound, and has as many pairs as the definitions say.
use Rattle.std.proofs.Common.{◌≡◌, ◌*◌, vec_items, sym, subst, arith}
use lib.ListN.{length-map}
use Rattle.tasks.specs.Model.{task_of}
use Rattle.tasks.specs.Pair.{pair_of}
use Rattle.asking.proofs.Answered.{sound_of}
use Rattle.soundness.specs.Knows.{KnowsFor}
use Rattle.soundness.specs.Sound.{EnoughFor, pairs_of}
use Rattle.soundness.proofs.Shares.{knows-enough, sound-along-enough}
use Rattle.soundness.proofs.rounds.enough_rounds.Goals as goal

pub returns-clause-enough : goal.returns-clause-enough
returns-clause-enough c =
    let task = c.args.task.now in
    let t = task_of task in
    let l = length-map (vec_items task.pairs) pair_of in
    let forty : c.default_rounds.result ≡ 40 * pairs_of t = omega arith in
    subst (EnoughFor t) (sym forty) (λ none H other. sound-along-enough H other t (sound_of task) none)

pub returns-clause-knows : goal.returns-clause-knows
returns-clause-knows c =
    let task = c.args.task.now in
    let t = task_of task in
    let l = length-map (vec_items task.pairs) pair_of in
    let forty : c.default_rounds.result ≡ 40 * pairs_of t = omega arith in
    subst (KnowsFor t) (sym forty) (λ H other. knows-enough H other t (sound_of task))
