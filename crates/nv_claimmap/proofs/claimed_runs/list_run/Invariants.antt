use Rattle.std.proofs.Common.{◌≡◌, ◌++◌}
use Rattle.nv_super.specs.Owners.{pairs}
use Rattle.nv_claimmap.proofs.claimed_runs.list_run.Given as goal

abbrev pub invariant-loop-by : goal.invariant-loop-by
invariant-loop-by l = l.list.items ≡ l.fn.list.items ++ pairs l.run.start l.owner l.by
