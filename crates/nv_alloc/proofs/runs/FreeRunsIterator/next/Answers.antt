use Rattle.std.proofs.Common.{rules}
use Rattle.nv_alloc.specs.FreeRuns.{is_free}
use Rattle.nv_alloc.proofs.RunsLeft.{next_run, none_behind, none_left}
use Rattle.nv_alloc.proofs.runs.FreeRunsIterator.next.Goals as goal

pub returns-then-start-end-clause-steps : goal.returns-then-start-end-clause-steps
returns-then-start-end-clause-steps c =
    let t = c.self.inside in
    let first = c.next_free-start.ensures in
    let last = c.next_used-end.ensures in
    let test = is_free t.marks.now t.first in
    rw (← c.self.view_is) (
      none_left test t.here c.next_free-start.result c.next_used-end.result t.to first.order first.passed first.found last.order last.passed last.found c.if-start-end.true,
      none_behind test t.here c.next_free-start.result c.next_used-end.result t.to first.order first.passed first.found last.order last.passed last.found c.if-start-end.true,
    )

pub returns-clause-steps : goal.returns-clause-steps
returns-clause-steps c =
    let t = c.self.inside in
    let first = c.next_free-start.ensures in
    let last = c.next_used-end.ensures in
    rw (← c.self.view_is) (next_run (is_free t.marks.now t.first) t.here c.next_free-start.result c.next_used-end.result t.to first.order first.passed first.found last.order last.passed last.found c.if-start-end.false)

pub returns-clause-goes : goal.returns-clause-goes
returns-clause-goes c = rw (returns-clause-steps c) (search rules)
