-- A plan that was read is a plan of the task.
use Rattle.std.proofs.Common.{◌≡◌, ℕ, ◌<◌, true, List, Ok, sym, inl, inr, arith}
use Rattle.std.proofs.lemmas.Bool.{eq-eqb, and_from}
use Rattle.paths.specs.Plan.{Task}
use Rattle.tasks.specs.declared.plan.Plan.{Plan}
use Rattle.tasks.specs.Model.{plan_of}
use Rattle.tasks.specs.Reading.{Meets, read_plan}
use Rattle.tasks.specs.Writing.{is_plan}
use Rattle.tasks.proofs.PlanLaws.{plan-sound}

pub read_whole : (t : Task) → t.trains < 65536 → (bs : List ℕ) (p : Plan) → Meets plan_of (Ok p) (read_plan t bs) → is_plan t (plan_of p) ≡ true
read_whole t few bs p (inl e) = let s = plan-sound t few bs (plan_of p) (sym e) in and_from _ _ (eq-eqb _ _ s.0) s.1
read_whole t few bs p (inr m) = let e = m.0 in grind arith
