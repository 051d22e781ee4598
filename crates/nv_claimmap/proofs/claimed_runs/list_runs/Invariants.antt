use Rattle.std.proofs.Common.{◌≡◌, ◌++◌, take}
use Rattle.nv_claimmap.specs.ClaimedRuns.{all_pairs}
use Rattle.nv_claimmap.proofs.claimed_runs.list_runs.Given as goal

abbrev pub invariant-loop-run : goal.invariant-loop-run
invariant-loop-run l = l.list.items ≡ l.fn.list.items ++ all_pairs (take l.run-index l.runs)
