-- The planner's states of the code as those of the definitions. Assumes nothing.
use Rattle.std.specs.Prelude.{vec_items}
use Rattle.paths.specs.Order.{order_of}
use Rattle.tasks.specs.Model.{task_of, plan_of}
use Rattle.round.specs.Over.{leads}
use Rattle.planning.specs.declared.ready.Ready.{Ready as CodeReady}
use Rattle.planning.specs.declared.closed.Closed.{Closed as CodeClosed}
use Rattle.planning.specs.declared.opened.Opened.{Opened as CodeOpened}
use Rattle.planning.specs.declared.heard.Heard.{Heard as CodeHeard}
use Rattle.planning.specs.declared.start.Begun.{Begun as CodeBegun}
use Rattle.planning.specs.Planning.{Ready, Closed, Opened, Heard, Begun}

abbrev pub ready_of : CodeReady → Ready
ready_of s = record { task = task_of s.task; plan = plan_of s.plan; rounds = s.rounds.count; round = s.round; digest = s.digest }

abbrev pub closed_of : CodeClosed → Closed
closed_of s =
    record {
      ready = ready_of s.ready;
      lot = record { order = order_of s.order; chances = vec_items s.ready.chances };
      boxes = vec_items s.ready.boxes;
    }

abbrev pub opened_of : CodeOpened → Opened
opened_of s = record { closed = closed_of s.closed; ask = s.ask; opened = s.opened }

abbrev pub heard_of : CodeHeard → Heard
heard_of s = record { opened = opened_of s.opened; end = s.end; content = s.content }

abbrev pub begun_of : CodeBegun → Begun
begun_of s = record { word = vec_items s.word; next = leads ready_of s.next }
