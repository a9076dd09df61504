use Rattle.std.proofs.Common.{sym, refl}
use Rattle.paths.specs.Plan.{apart}
use Rattle.std.proofs.lemmas.Bool.{eqb-true, eqb-false}
use Rattle.tasks.specs.Model.{task_of, plan_of}
use Rattle.tasks.proofs.Fits.{fit-more, fit_found}
use Rattle.tasks.proofs.fitting.first_unfit.Goals as goal

pub pairs-init : goal.pairs-init
unfolding apart
pairs-init c = (refl, refl)

pub pairs-preserved : goal.pairs-preserved
pairs-preserved c = (
  c.pairs.invariant.0,
  fit-more (task_of c.args.task.now) (plan_of c.args.plan.now) _ _ c.deref-pair-items.ensures.value _ _ c.pairs-test.true c.pairs.invariant.1
      (eqb-false _ _ (sym c.if-fails.ensures)),
)

pub returns-then-fails : goal.returns-then-fails
returns-then-fails c =
    fit_found (task_of c.args.task.now) (plan_of c.args.plan.now) _ _ c.deref-pair-items.ensures.value _ _ c.pairs-test.true refl c.pairs.invariant.1
    (eqb-true _ _ (sym c.if-fails.ensures))
