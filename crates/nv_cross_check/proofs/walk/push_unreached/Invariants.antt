use Rattle.nv_cross_check.specs.Steps.{Adds, IsUnmarkedBelow}
use Rattle.nv_cross_check.proofs.walk.push_unreached.Given as goal

abbrev pub invariant-loop-place : goal.invariant-loop-place
invariant-loop-place l = Adds (IsUnmarkedBelow l.listings l.marks l.place) l.initial.faults.items l.faults.items
