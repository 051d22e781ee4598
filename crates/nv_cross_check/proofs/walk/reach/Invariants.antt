use Rattle.std.proofs.Common.{◌+◌, vec_len}
use Rattle.nv_cross_check.specs.Steps.{Reaching, unmarked}
use Rattle.nv_cross_check.proofs.walk.reach.Given as goal

abbrev pub invariant-loop-place : goal.invariant-loop-place
invariant-loop-place l = Reaching l.listings l.places l.marks.items l.todo.items

abbrev pub decreases-loop-place : goal.decreases-loop-place
decreases-loop-place l = vec_len l.todo + unmarked l.marks.items
