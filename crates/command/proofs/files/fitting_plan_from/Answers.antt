use Rattle.std.proofs.Common.{rules, ◌≡◌, true, arith, inl, inr}
use Rattle.tasks.specs.Model.{task_of, plan_of}
use Rattle.tasks.specs.Reading.{got, read_plan}
use Rattle.tasks.specs.Writing.{is_plan}
use Rattle.tasks.proofs.Fronts.{plan_front}
use Rattle.command.specs.Files.{ReadFrom, RefusesPlan}
use Rattle.command.proofs.Plans.{read_whole}
use Rattle.command.proofs.Refusals.{reads_known, refuses_known}
use Rattle.command.proofs.files.fitting_plan_from.Goals as goal

pub returns-in_err-value-clause-told : goal.returns-in_err-value-clause-told
returns-in_err-value-clause-told g c =
    let t = task_of c.args.task.now in
    let told : RefusesPlan t (g.R.Read.remaining c.args.from) c.args.name _ = inl (refuses_known plan_of (read_plan t) 1028 (plan_front t (omega arith) 1028 (omega arith)) _ (λ bs f r. search rules) _ c.args.name _ c.in_err-value.ensures.told) in
    search rules

pub returns-in-None-clause-fits : goal.returns-in-None-clause-fits
returns-in-None-clause-fits g c =
    let read = c.in_ok-value.ensures.value in let whole : is_plan (task_of c.args.task.now) (plan_of c.in_ok-value.field-0.value) ≡ true = read_whole (task_of c.args.task.now) (omega arith) read.0.now c.in_ok-value.field-0.value (search rules) in grind (arith, whole)

pub returns-in-None-clause-reads : goal.returns-in-None-clause-reads
returns-in-None-clause-reads g c =
    let t = task_of c.args.task.now in reads_known plan_of (read_plan t) 1028 (plan_front t (omega arith) 1028 (omega arith)) _ c.in_ok-value.field-0.bytes.items c.in_ok-value.field-0.value c.in_ok-value.ensures.bytes (search rules)

pub returns-in-Some-clause-told : goal.returns-in-Some-clause-told
returns-in-Some-clause-told g c =
    let t = task_of c.args.task.now in
    let l = c.in_ok-value.field-0 in
    let read : ReadFrom (read_plan t) (g.R.Read.remaining c.args.from) (got (plan_of l.value)) = reads_known plan_of (read_plan t) 1028 (plan_front t (omega arith) 1028 (omega arith)) _ l.bytes.items l.value c.in_ok-value.ensures.bytes (search rules) in
    inr (c.in-Some.unfit, plan_of l.value, read, search rules, search rules)
