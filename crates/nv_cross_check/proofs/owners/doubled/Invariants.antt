use Rattle.std.proofs.Common.{◌≡◌, take}
use Rattle.nv_claimmap.specs.ClaimedRuns.{lists_pairs}
use Rattle.nv_cross_check.specs.Doubled.{claims_in_set}
use Rattle.nv_cross_check.proofs.owners.doubled.Given as goal

abbrev pub invariant-loop-runs : goal.invariant-loop-runs
invariant-loop-runs l = l.found.items ≡ claims_in_set l.second (lists_pairs (take l.runs-index l.runs-items))
