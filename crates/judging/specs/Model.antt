-- The judge of the code as that of the definitions. Assumes nothing.
use Rattle.std.specs.Prelude.{Ok, Err, Result}
use Rattle.tasks.specs.Model.{task_of}
use Rattle.judging.specs.declared.judge.Judge.{Judge as CodeJudge}
use Rattle.judging.specs.declared.verdict.Verdict.{Verdict as CodeVerdict}
use Rattle.judging.specs.Verdict.{content_of, redrawn_of, verdict_of}
use Rattle.judging.specs.Plans.{plan_in}
use Rattle.cutting.specs.Phases.{awaits_of}
use Rattle.judging.specs.Steps.{Judge, Goes, on, told}

abbrev pub judge_of : CodeJudge → Judge
judge_of s =
    record {
      task = task_of s.task;
      plan = plan_in s.plan;
      round = s.round;
      digest = s.digest;
      content = content_of s.content;
      redrawn = redrawn_of s.redrawn;
      awaits = awaits_of s.awaits;
    }

abbrev pub goes : Result CodeJudge CodeVerdict → Goes
goes (Ok s) = on (judge_of s)
goes (Err v) = told (verdict_of v)
