use Rattle.std.proofs.Common.{◌≡◌, take}
use Rattle.nv_claimmap.specs.ClaimedRuns.{lists_pairs}
use Rattle.nv_claimmap.proofs.claimed_runs.ClaimedRuns.to_list.Given as goal

abbrev pub invariant-loop-runs : goal.invariant-loop-runs
invariant-loop-runs l = l.list.items ≡ lists_pairs (take l.runs-index l.runs-items)
