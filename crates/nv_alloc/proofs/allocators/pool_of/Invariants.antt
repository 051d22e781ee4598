use Rattle.std.proofs.Common.{◌-◌, ◌<◌, ◌≤◌}
use Rattle.nv_super.specs.Layout.{pool_start}
use Rattle.nv_alloc.proofs.allocators.pool_of.Given as goal

abbrev pub invariant-loop-high : goal.invariant-loop-high
invariant-loop-high l = (l.low < l.high) × (l.high ≤ l.sup.cpus) × (pool_start l.sup l.low ≤ l.block) × (l.block < pool_start l.sup l.high)

abbrev pub decreases-loop-high : goal.decreases-loop-high
decreases-loop-high l = l.high - l.low
