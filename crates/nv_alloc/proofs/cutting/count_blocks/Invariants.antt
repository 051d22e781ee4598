use Rattle.std.proofs.Common.{◌≡◌, true, ◌+◌, ◌-◌, ◌<◌, ◌≤◌}
use Rattle.nv_alloc.specs.Taking.{blocks_in}
use Rattle.nv_alloc.specs.FreeRuns.{is_free, runs_where, free_runs}
use Rattle.nv_alloc.proofs.cutting.count_blocks.Given as goal

-- the blocks before this one, which is free or the end, are counted
abbrev pub invariant-loop-here : goal.invariant-loop-here
invariant-loop-here l = record {
  low : l.from ≤ l.here;
  high : l.here ≤ l.to;
  few : l.blocks + l.from ≤ l.here;
  free : l.here < l.to → is_free l.marks l.from l.here ≡ true;
  counted : l.blocks + blocks_in (runs_where (is_free l.marks l.from) l.here (l.to - l.here)) ≡ blocks_in (free_runs l.marks l.from l.to);
}

abbrev pub decreases-loop-here : goal.decreases-loop-here
decreases-loop-here l = l.to - l.here
