use Rattle.std.proofs.Common.{◌-◌}
use Rattle.nv_radix.proofs.Clearing.{IsClearedTo}
use Rattle.nv_radix.proofs.runs.clear.Given as goal

abbrev pub invariant-loop-rest : goal.invariant-loop-rest
invariant-loop-rest l = IsClearedTo l.fn.runs.entries l.runs.entries l.first l.end l.rest

abbrev pub decreases-loop-rest : goal.decreases-loop-rest
decreases-loop-rest l = l.rest - l.first
