-- The words of a round, each where it is awaited. Assumes nothing.
use Rattle.std.specs.Prelude.{ℕ, Bool, cond, ◌==◌}
use Rattle.tasks.specs.Reading.{Got, Looked, got, refused}
use Rattle.words.specs.Said.{Said, task, plan, boxes, ask, opened, end}

-- The words of round n, each where it is awaited; another word, or one of another round, is fault 6

abbrev pub on_boxes : ℕ → Said → Got Looked
on_boxes n (boxes r ds) = cond (r == n) (got tt) (refused 6)
on_boxes n (task bs) = refused 6
on_boxes n (plan p) = refused 6
on_boxes n (ask r i) = refused 6
on_boxes n (opened r x y) = refused 6
on_boxes n (end r c) = refused 6

abbrev pub on_ask : ℕ → Said → Got ℕ
on_ask n (ask r i) = cond (r == n) (got i) (refused 6)
on_ask n (task bs) = refused 6
on_ask n (plan p) = refused 6
on_ask n (boxes r ds) = refused 6
on_ask n (opened r x y) = refused 6
on_ask n (end r c) = refused 6

abbrev pub on_end : ℕ → Said → Got Bool
on_end n (end r c) = cond (r == n) (got c) (refused 6)
on_end n (task bs) = refused 6
on_end n (plan p) = refused 6
on_end n (boxes r ds) = refused 6
on_end n (ask r i) = refused 6
on_end n (opened r x y) = refused 6
