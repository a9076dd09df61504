use Rattle.std.proofs.Common.{arith}
use Rattle.sha256.specs.Sha256.{sha256}
use Rattle.tasks.specs.Model.{task_of, plan_of}
use Rattle.pairing.proofs.Promises.{task_good}
use Rattle.boxes.proofs.Digests.{length-sha256}
use Rattle.secrecy.proofs.Drawn.{keeps_secret_drawn}
use Rattle.secrecy.proofs.Simulated.{simulates}
use Rattle.secrecy.proofs.beginning.start.Goals as goal

pub returns-clause-secrecy : goal.returns-clause-secrecy
returns-clause-secrecy c =
    let t = c.args.task in
    λ fp q fq f. keeps_secret_drawn sha256 length-sha256 (task_of t) (task_good t) (omega (arith, t.few_paths)) (plan_of c.args.plan) q fp fq f c.args.rounds.count

pub returns-clause-simulated : goal.returns-clause-simulated
returns-clause-simulated c =
    let t = c.args.task in
    λ fp f. simulates sha256 length-sha256 (task_of t) (task_good t) (omega (arith, t.few_paths)) (plan_of c.args.plan) fp f c.args.rounds.count
