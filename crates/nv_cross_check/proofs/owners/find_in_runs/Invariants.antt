use Rattle.std.proofs.Common.{◌≡◌, ◌++◌, take}
use Rattle.nv_claimmap.specs.ClaimedRuns.{all_pairs}
use Rattle.nv_cross_check.specs.Doubled.{claims_in_set}
use Rattle.nv_cross_check.proofs.owners.find_in_runs.Given as goal

abbrev pub invariant-loop-run : goal.invariant-loop-run
invariant-loop-run l = l.found.items ≡ l.fn.found.items ++ claims_in_set l.second (all_pairs (take l.run-index l.runs))
